-- Numbers in a row over one denominator; all are polynomials in epsilon with whole coefficients.
use Rattle.std.specs.Prelude.{◌≡◌, ℕ, List, ℤ, get_or, length, replicate, All}
use Rattle.field_core.specs.Number.{Number}
use Rattle.field_core.specs.Fractions.{quotient}
use Rattle.field_core.specs.Polynomial.{IsNonZero}
use Rattle.eps_poly.specs.Polynomials.{IsPolynomial, zero_polynomial}
use Rattle.eps_quotient.specs.Lowering.{one_polynomial}

-- numerators over one denominator
pub record StoredRow : Type 0 where
  pub numerators : List (List ℤ)
  pub denominator : List ℤ

-- a row of `m` zeros over 1
unfoldable pub zero_row : ℕ → StoredRow
zero_row m = record { numerators = replicate m zero_polynomial; denominator = one_polynomial }

-- the numerator at a place
unfoldable pub numerator_at : StoredRow → ℕ → List ℤ
numerator_at r k = get_or r.numerators k zero_polynomial

-- the number at a place
abbrev pub row_value : StoredRow → ℕ → Number
row_value r k = quotient (numerator_at r k) r.denominator

-- m numerators over a denominator that isn't 0, all within their sizes
pub record IsProperRow (m : ℕ) (r : StoredRow) : Type 0 where
  pub count : length r.numerators ≡ m
  pub numerators : All IsPolynomial r.numerators
  pub denominator : IsPolynomial r.denominator
  pub some : IsNonZero r.denominator
