-- The factors of a polynomial. A polynomial that isn't zero is in one way c * epsilon^k * P. The coefficients of P have greatest common divisor 1,
-- and its coefficient of power 0 is above 0.
use Rattle.std.specs.Prelude.{◌≡◌, ℕ, suc, ◌+◌, if◌then◌else◌, ℤ, pos, negsuc, neg_ℤ, ◌<ℤ◌, unsigned_abs, int_div, List, []}
use Rattle.std.specs.Prelude.{◌∷◌, ◌++◌, replicate, Option, Some, None}
use Rattle.std.specs.List.{list_all}
use Rattle.field_core.specs.Divisor.{gcd}
use Rattle.field_core.specs.Kind.{is_zero_integer}
use Rattle.field_core.specs.Polynomial.{coefficient, lowest, poly_negate, poly_scale}
use Rattle.eps_poly.specs.Polynomials.{by_powers}

-- the greatest common divisor of the coefficients, and 0 for the zero polynomial
unfoldable pub content : List ℤ → ℕ
content [] = 0
content (c ∷ p) = gcd (unsigned_abs c) (content p)

-- how many coefficients of 0 come first: the least power with a coefficient that isn't 0
unfoldable pub order : List ℤ → ℕ
order [] = 0
order (c ∷ p) = if is_zero_integer c then suc (order p) else 0

-- the least power with a coefficient that isn't 0, if there is one
unfoldable pub low_order : List ℤ → Option ℕ
low_order p = if list_all is_zero_integer p then None else Some (order p)

-- n with the sign of a whole number
abbrev pub signed_as : ℤ → ℕ → ℤ
signed_as (pos c) n = pos n
signed_as (negsuc c) n = neg_ℤ (pos n)

-- the whole number c of c * epsilon^k * P
unfoldable pub factor : List ℤ → ℤ
factor p = signed_as (lowest p) (content p)

-- the polynomial or its opposite, whichever has a positive lowest coefficient
abbrev pub turned_as : ℤ → List ℤ → List ℤ
turned_as (pos c) p = p
turned_as (negsuc c) p = poly_negate p

-- the polynomial without its first k powers, divided by a whole number above 0
unfoldable pub lowered : ℕ → ℤ → List ℤ → List ℤ
lowered k by p = by_powers (λ i. int_div (coefficient p (i + k)) by)

-- c * epsilon^k * P
unfoldable pub from_factors : ℤ → ℕ → List ℤ → List ℤ
from_factors c k p = poly_scale c (replicate k (pos 0) ++ p)

-- coefficients with greatest common divisor 1, that of power 0 above 0
pub record IsCore (p : List ℤ) : Type 0 where
  pub divisor : content p ≡ 1
  pub first : pos 0 <ℤ coefficient p 0

-- the polynomial P of c * epsilon^k * P
unfoldable pub core : List ℤ → List ℤ
core p = lowered (order p) (pos (content p)) (turned_as (lowest p) p)
