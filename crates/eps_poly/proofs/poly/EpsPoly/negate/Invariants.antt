use Rattle.std.proofs.Common.{◌≡◌, neg_ℤ}
use Rattle.field_core.specs.Polynomial.{coefficient}
use Rattle.eps_poly.proofs.Coefficients.{Filled}
use Rattle.eps_poly.proofs.poly.EpsPoly.negate.Given as goal

abbrev pub invariant-loop-power : goal.invariant-loop-power
invariant-loop-power l = Filled (λ k c. c ≡ neg_ℤ (coefficient l.fn.self k)) l.opposite l.power
