use Rattle.std.proofs.Common.{rules}
use Rattle.evidence_check.proofs.keep.keep_level.Goals as goal

-- what the closure is called with, and what is known of it, come first
pub level-requires : goal.level-requires
level-requires g c = λ i p κs r same ranges n given k-fits κs-2 outlives.
    (p, (c.requires.k, (c.requires.order, (c.requires.loaded, c.requires.exits i p))))

pub returns : goal.returns
returns g c = c.level.ensures _ _ _ (λ i r p q. search rules)
