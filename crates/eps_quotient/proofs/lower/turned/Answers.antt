use Rattle.eps_quotient.specs.Laws.NormLaws.{negate_some}
use Rattle.eps_quotient.proofs.lower.turned.Goals as goal

pub invariant_of-result : goal.invariant_of-result
invariant_of-result c = rw c.negate-then-value-lt0.ensures (record { some = negate_some c.args.x.denominator c.args.x.some })
