-- Exact quotients of polynomials: the polynomial whose written product with a divisor is the dividend, if there is one. There is at most one.
use Rattle.std.specs.Prelude.{ℕ, zero, suc, ◌+◌, ℤ, ◌+ℤ◌, neg_ℤ, int_div, List, [], ◌∷◌, ◌++◌, length, Bool, false}
use Rattle.std.specs.Prelude.{if◌then◌else◌, Option, Some, None}
use Rattle.field_core.specs.Polynomial.{coefficient}
use Rattle.field_core.specs.Laws.PolynomialLaws.{product_part}
use Rattle.eps_poly.specs.Factors.{order}
use Rattle.eps_poly.specs.Polynomials.{is_same}
use Rattle.eps_poly.specs.Written.{sized_product}

-- one coefficient more of a quotient: what is left of the dividend at its place, over the lowest coefficient of the divisor
abbrev pub with_next : List ℤ → List ℤ → List ℤ → List ℤ
with_next p by q = q ++ int_div (coefficient p (length q + order by) +ℤ neg_ℤ (product_part q by (length q + order by) (length q)))
    (coefficient by (order by)) ∷ []

-- the first n coefficients, by ascending power, of the only polynomial that times `by` can be `p`
unfoldable pub quotient_front : List ℤ → List ℤ → ℕ → List ℤ
quotient_front p by zero = []
quotient_front p by (suc n) = with_next p by (quotient_front p by n)

-- whether a written product is `p`
abbrev pub is_product : Option (List ℤ) → List ℤ → Bool
is_product (Some r) p = is_same r p
is_product None p = false

-- the polynomial whose written product with `by` is `p`, if there is one
unfoldable pub exact_quotient : List ℤ → List ℤ → Option (List ℤ)
exact_quotient p by = if is_product (sized_product (quotient_front p by 33) by) p then Some (quotient_front p by 33) else None
