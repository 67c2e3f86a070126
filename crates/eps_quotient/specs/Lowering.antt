-- Quotients of polynomials without common factors, as they are stored (this project's own). A polynomial that isn't 0 is in one way c * epsilon^k *
-- P, and P is its core. Two equal cores are cut, and other common factors of cores are left.
use Rattle.std.specs.Prelude.{◌-◌, ℕ, min, if◌then◌else◌, ℤ, pos, int_div, List}
use Rattle.std.specs.List.{list_all}
use Rattle.std.specs.Int.{is_negative}
use Rattle.field_core.specs.Divisor.{gcd}
use Rattle.field_core.specs.Kind.{Parts, is_zero_integer}
use Rattle.field_core.specs.Polynomial.{lowest, poly_negate}
use Rattle.eps_poly.specs.Polynomials.{is_same, zero_polynomial, monomial}
use Rattle.eps_poly.specs.Factors.{content, order, factor, core, lowered}

-- the polynomial 1
abbrev pub one_polynomial : List ℤ
one_polynomial = monomial (pos 1) 0

-- 0/1
abbrev pub zero_quotient : Parts
zero_quotient = record { numerator = zero_polynomial; denominator = one_polynomial }

-- 1/1
abbrev pub one_quotient : Parts
one_quotient = record { numerator = one_polynomial; denominator = one_polynomial }

-- the greatest common divisor of all coefficients of two polynomials
abbrev pub common_content : List ℤ → List ℤ → ℕ
common_content a b = gcd (content a) (content b)

-- the least power with a coefficient that isn't 0 in one of two polynomials
abbrev pub common_order : List ℤ → List ℤ → ℕ
common_order a b = min (order a) (order b)

-- a/b, without common content and common powers of epsilon
unfoldable pub without_powers : List ℤ → List ℤ → Parts
without_powers a b = record {
  numerator = lowered (common_order a b) (pos (common_content a b)) a;
  denominator = lowered (common_order a b) (pos (common_content a b)) b;
}

-- a/b, without common content and common powers of epsilon, and with both cores replaced by 1
unfoldable pub without_cores : List ℤ → List ℤ → Parts
without_cores a b = record {
  numerator = monomial (int_div (factor a) (pos (common_content a b))) (order a - common_order a b);
  denominator = monomial (int_div (factor b) (pos (common_content a b))) (order b - common_order a b);
}

-- a/b without common content, common powers of epsilon and equal cores; 0/1 if a is 0
unfoldable pub lower : List ℤ → List ℤ → Parts
lower a b =
    if list_all is_zero_integer a
    then zero_quotient
    else (if is_same (core a) (core b) then without_cores a b else without_powers a b)

-- the same quotient, with a denominator whose lowest coefficient is positive
unfoldable pub turned : Parts → Parts
turned x =
    if is_negative (lowest x.denominator)
    then record { numerator = poly_negate x.numerator; denominator = poly_negate x.denominator }
    else x

-- the stored quotient of two polynomials
unfoldable pub norm : List ℤ → List ℤ → Parts
norm a b = turned (lower a b)
