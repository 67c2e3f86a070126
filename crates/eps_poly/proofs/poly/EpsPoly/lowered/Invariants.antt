use Rattle.std.proofs.Common.{◌≡◌, ◌+◌, ◌-◌, int_div}
use Rattle.field_core.specs.Polynomial.{coefficient}
use Rattle.eps_poly.proofs.Coefficients.{Filled}
use Rattle.eps_poly.proofs.poly.EpsPoly.lowered.Given as goal

abbrev pub invariant-loop-from : goal.invariant-loop-from
invariant-loop-from l = Filled (λ i c. c ≡ int_div (coefficient l.fn.self (i + l.fn.power)) l.fn.by) l.lowered (l.from - l.fn.power)
