-- Sums and products of polynomials as they are written: each written part must be below 2^127 in size, and the degree of a product at most 32.
use Rattle.std.specs.Prelude.{ℕ, zero, suc, ◌+◌, ◌-◌, nat_le, if◌then◌else◌, ℤ, pos, negsuc, ◌+ℤ◌, ◌*ℤ◌, List, [], ◌∷◌}
use Rattle.std.specs.Prelude.{◌++◌, Option, Some, None}
use Rattle.field_core.specs.Polynomial.{coefficient}
use Rattle.field_core.specs.Sized.{◌>>=◌, sized}

-- n values in their order, or the first refusal
unfoldable pub sized_list : ℕ → (ℕ → Option ℤ) → Option (List ℤ)
sized_list zero value = Some []
sized_list (suc n) value = do
  front ← sized_list n value
  last ← value n
  Some (front ++ last ∷ [])

-- the written sum: of each power, the sum of the two coefficients
unfoldable pub sized_sum : List ℤ → List ℤ → Option (List ℤ)
sized_sum p q = sized_list 33 (λ k. sized (coefficient p k +ℤ coefficient q k))

-- what the first n factors add to the coefficient of power k of a product. By ascending i, it is coefficient i of the first factor times coefficient
-- k - i of the second
unfoldable pub written_coefficient : List ℤ → List ℤ → ℕ → ℕ → Option ℤ
written_coefficient p q k zero = Some (pos 0)
written_coefficient p q k (suc n) = do
  sum ← written_coefficient p q k n
  product ← sized (coefficient p n *ℤ coefficient q (k - n))
  sized (sum +ℤ product)

-- one more than the number `n` of coefficients above; but 0 for a coefficient that is 0, if `n` is 0
unfoldable pub counted : ℤ → ℕ → ℕ
counted (pos zero) zero = 0
counted (pos zero) (suc n) = suc (suc n)
counted (pos (suc c)) n = suc n
counted (negsuc c) n = suc n

-- how many coefficients there are up to the last that isn't 0
unfoldable pub count_to_last : List ℤ → ℕ
count_to_last [] = 0
count_to_last (c ∷ p) = counted c (count_to_last p)

-- the greatest power with a coefficient that isn't 0, and 0 for the zero polynomial
unfoldable pub degree : List ℤ → ℕ
degree p = count_to_last p - 1

-- the written product: of each power the written coefficient, if the degree doesn't pass 32
unfoldable pub sized_product : List ℤ → List ℤ → Option (List ℤ)
sized_product p q =
    if nat_le (degree p + degree q) 32
    then sized_list 33 (λ k. written_coefficient p q k (k + 1))
    else None
