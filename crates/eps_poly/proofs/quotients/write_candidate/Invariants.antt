use Rattle.std.proofs.Common.{◌≡◌, true}
use Rattle.eps_poly.specs.Polynomials.{IsShort}
use Rattle.eps_poly.proofs.Coefficients.{Filled}
use Rattle.eps_poly.proofs.QuotientLaws.{IsNextCoefficient}
use Rattle.eps_poly.proofs.quotients.write_candidate.Given as goal

abbrev pub invariant-loop-power : goal.invariant-loop-power
invariant-loop-power l = record {
  filled : Filled (IsNextCoefficient l.fn.p l.fn.by) l.quotient l.power;
  known : l.are_short ≡ true → IsShort l.quotient;
  by : l.are_short ≡ true → IsShort l.fn.by;
}
