use Rattle.std.proofs.Common.{rules}
use Rattle.evidence_check.proofs.step.step_level.Goals as goal

pub returns : goal.returns
returns g c = c.level.ensures _ _ _ (λ i r p q. search rules)
