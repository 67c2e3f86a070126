-- The kind of the quotients in epsilon: how 0 and 1 are stored, and what the written operations give or refuse (this project's own).
use Rattle.std.specs.Prelude.{◌||◌, ◌&&◌, Bool, if◌then◌else◌, List, ℤ, Option, Some}
use Rattle.field_core.specs.declared.place.Op.{Op}
use Rattle.field_core.specs.declared.place.Op.TheVariants.{Add, Sub, Mul, Div}
use Rattle.field_core.specs.Polynomial.{poly_negate}
use Rattle.field_core.specs.Sized.{◌>>=◌}
use Rattle.field_core.specs.Kind.{Parts, Kind, is_zero, sign_of, ok_map, or_wide}
use Rattle.eps_poly.specs.Polynomials.{is_same}
use Rattle.eps_poly.specs.Written.{sized_sum, sized_product}
use Rattle.eps_quotient.specs.Lowering.{one_polynomial, zero_quotient, one_quotient, lower, norm}

-- whether a stored quotient is 1/1
unfoldable pub is_one : Parts → Bool
is_one x = is_same x.numerator one_polynomial && is_same x.denominator one_polynomial

-- -x
abbrev pub opposite : Parts → Parts
opposite x = record { numerator = poly_negate x.numerator; denominator = x.denominator }

-- 1/x
unfoldable pub inverse : Parts → Parts
inverse x = norm x.denominator x.numerator

-- a c / (e b), of quotients a/b and c/e
unfoldable pub product_of : Parts → Parts → Option Parts
product_of x y = do
  numerator ← sized_product x.numerator y.numerator
  denominator ← sized_product y.denominator x.denominator
  Some (norm numerator denominator)

-- The written product: each numerator is lowered with the other denominator. A factor that is 0 or 1/1 has no written part.
unfoldable pub written_product : Parts → Parts → Option Parts
written_product x y =
    if is_zero x || is_zero y
    then Some zero_quotient
    else (
    if is_one x
    then Some y
    else (if is_one y then Some x else product_of (lower x.numerator y.denominator) (lower y.numerator x.denominator))
    )

-- the written sum over the same denominator
unfoldable pub sum_over : List ℤ → List ℤ → List ℤ → Option Parts
sum_over n m d = do
  numerator ← sized_sum n m
  Some (norm numerator d)

-- the written sum of n1/d1 and n2/d2, where e1/e2 is the quotient d1/d2, lowered
unfoldable pub sum_of : Parts → Parts → Parts → Option Parts
sum_of x y e = do
  u ← sized_product x.numerator e.denominator
  v ← sized_product y.numerator e.numerator
  d ← sized_product x.denominator e.denominator
  sum_over u v d

-- The written sum: over the same denominator the numerators are added, over others the denominators are lowered first.
-- A summand that is 0 has no written part.
unfoldable pub written_sum : Parts → Parts → Option Parts
written_sum x y =
    if is_zero x
    then Some y
    else (
    if is_zero y
    then Some x
    else (
    if is_same x.denominator y.denominator
    then sum_over x.numerator y.numerator x.denominator
    else sum_of x y (lower x.denominator y.denominator)
    )
    )

-- what each written operation gives or refuses: a difference is the sum with the opposite, a quotient the product with the inverse
abbrev pub written_quotient : Op → Parts → Parts → Option Parts
written_quotient Add x y = written_sum x y
written_quotient Sub x y = written_sum x (opposite y)
written_quotient Mul x y = written_product x y
written_quotient Div x y = written_product x (inverse y)

-- The kind of the quotients: two are compared by the sign of their written difference.
abbrev pub quotients : Kind
quotients = record {
  zero = zero_quotient;
  one = one_quotient;
  written = written_quotient;
  compare = λ x y. ok_map sign_of (or_wide Sub (written_quotient Sub x y));
}
