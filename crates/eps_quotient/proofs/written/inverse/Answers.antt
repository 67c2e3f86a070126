use Rattle.field_core.specs.Kind.{is_zero}
use Rattle.eps_quotient.specs.Laws.LowerLaws.{others_lowest}
use Rattle.eps_quotient.proofs.written.inverse.Goals as goal

pub norm-requires : goal.norm-requires
unfolding is_zero
norm-requires c = others_lowest _ c.requires
