-- Polynomials as they are held: 33 coefficients, for the powers 0 to 32 of epsilon.
use Rattle.std.specs.Prelude.{◌≡◌, ◌<◌, ◌^◌, ℕ, ℤ, pos, unsigned_abs, Bool, FitsSigned, List, length, map, replicate, slice_set}
use Rattle.std.specs.Int.{w64}
use Rattle.std.specs.Cmp.Lexicographic.{pointwise}
use Rattle.std.specs.List.{range_with_len}
use Rattle.std.specs.Ordering.{int_eq}
use Rattle.field_core.specs.Polynomial.{coefficient}

-- 33 coefficients, each of at most 2^127 - 1 in size
pub record IsPolynomial (p : List ℤ) : Type 0 where
  pub count : length p ≡ 33
  pub sizes : (k : ℕ) → unsigned_abs (coefficient p k) < 2 ^ 127

-- coefficients that fit 64 bits
pub record IsShort (p : List ℤ) : Type 0 where
  pub fits : (k : ℕ) → FitsSigned w64 (coefficient p k)

-- coefficients for the powers 0 to 32
unfoldable pub by_powers : (ℕ → ℤ) → List ℤ
by_powers at = map at (range_with_len 0 33)

-- the zero polynomial
unfoldable pub zero_polynomial : List ℤ
zero_polynomial = replicate 33 (pos 0)

-- c * epsilon^k
unfoldable pub monomial : ℤ → ℕ → List ℤ
monomial c k = slice_set zero_polynomial k c

-- whether the coefficients of two polynomials are the same
abbrev pub is_same : List ℤ → List ℤ → Bool
is_same p q = pointwise int_eq p q

-- a constant: no coefficient but that of power 0
abbrev pub IsConstant : List ℤ → Type 0
IsConstant p = (k : ℕ) → 0 < k → coefficient p k ≡ pos 0
