use Rattle.std.proofs.Common.{◌≡◌, drop, map}
use Rattle.field_core.specs.View.{terms}
use Rattle.eps_quotient.specs.Polynomials.{sum_from, written_polynomial}
use Rattle.eps_quotient.specs.View.{quotient_parts}
use Rattle.eps_quotient.proofs.quotient.EpsQuotient.from_parts.Given as goal

abbrev pub invariant-loop-power : goal.invariant-loop-power
invariant-loop-power l = sum_from l.power (quotient_parts l.sum) (drop l.power (map terms l.parts)) ≡ written_polynomial (map terms l.parts)
