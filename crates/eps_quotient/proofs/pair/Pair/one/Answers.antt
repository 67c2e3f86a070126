use Rattle.eps_quotient.specs.Laws.LowerLaws.{one_some}
use Rattle.eps_quotient.proofs.pair.Pair.one.Goals as goal

pub invariant_of-result : goal.invariant_of-result
invariant_of-result c = rw c.one-2.ensures (record { some = one_some })
