-- What is stored of a quotient in epsilon.
use Rattle.std.specs.Prelude.{◌≡◌, pos}
use Rattle.std.specs.declared.cmp.Ordering.TheVariants.{Greater}
use Rattle.field_core.specs.Kind.{Parts}
use Rattle.field_core.specs.Polynomial.{coefficient, lowest, int_sign}
use Rattle.eps_poly.specs.Polynomials.{IsPolynomial}
use Rattle.eps_poly.specs.Factors.{core}
use Rattle.eps_quotient.specs.Lowering.{one_polynomial, common_content}

-- Two polynomials within their sizes. The lowest coefficient of the denominator is positive, and 0 is stored as 0/1. There is no common power of
-- epsilon, no common content and no common core but 1.
pub record IsQuotient (x : Parts) : Type 0 where
  pub above : IsPolynomial x.numerator
  pub below : IsPolynomial x.denominator
  pub positive : int_sign (lowest x.denominator) ≡ Greater
  pub zero_over_one : lowest x.numerator ≡ pos 0 → x.denominator ≡ one_polynomial
  pub no_power : ¬ ((coefficient x.numerator 0 ≡ pos 0) × (coefficient x.denominator 0 ≡ pos 0))
  pub no_content : common_content x.numerator x.denominator ≡ 1
  pub no_core : core x.numerator ≡ core x.denominator → core x.denominator ≡ one_polynomial
