use Rattle.std.proofs.Common.{sym, ap, ◌∙◌, rules}
use Rattle.field_core.specs.LimitParts.{limit_terms}
use Rattle.removal.proofs.Units.{weight_unit}
use Rattle.entangled.proofs.Products.{limit_at}
use Rattle.entangled.proofs.levels.limit.Goals as goal

pub limit-requires : goal.limit-requires
limit-requires g c = rw c.weight.ensures (weight_unit _ _ (g.met.R.Remover.sound c.index-nets-c.result) c.args.k (search rules))

pub returns : goal.returns
returns g c = c.limit.ensures ∙ ap limit_terms c.weight.ensures
    ∙ sym (limit_at _ _ _ g.R.Remover.present c.args.nets.now c.args.c _ c.requires.c c.index-nets-c.is)
