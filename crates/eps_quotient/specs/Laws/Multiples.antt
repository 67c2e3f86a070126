-- Polynomials times c * epsilon^k.
use Rattle.std.proofs.Common.{◌≡◌, ◌≢◌, ℕ, zero, suc, ◌+◌, ◌-◌, ◌*◌, ◌<◌, ◌≤◌, List, [], ◌∷◌, ◌++◌, length}
use Rattle.std.proofs.Common.{replicate, refl, sym, ◌∙◌, ap, ap₂, subst, arith, ℤ, pos, ◌*ℤ◌, ◌+ℤ◌, unsigned_abs, inl, inr}
use Rattle.std.specs.Int.{◌∣◌}
use Rattle.std.proofs.lemmas.Bool.{cases_lt}
use Rattle.std.proofs.lemmas.Int.{unsigned_abs-mul}
use Rattle.std.proofs.lemmas.List.{length-set}
use Rattle.std.proofs.lemmas.Nat.Gcd.{dvd-zero, dvd_antisymm, dvd_refl}
use Rattle.std.proofs.Math.IntN.{+ℤ_idr, *ℤ-zero}
use Rattle.std.proofs.Math.Nat.{mul-zero}
use Rattle.field_core.proofs.Divisors.{gcd_same}
use Rattle.field_core.proofs.Coprime.{gcd_scaled}
use Rattle.field_core.specs.Divisor.{gcd}
use Rattle.field_core.specs.Laws.Integers.{int_multiply_assoc, int_multiply_one}
use Rattle.field_core.specs.Polynomial.{coefficient, Same, poly_scale, poly_multiply}
use Rattle.field_core.specs.Laws.PolynomialLaws.{ring, value-multiply, same_in, coefficient-add, coefficient-scale, multiply-shift_left, multiply_comm, shift-same, same_sym}
use Rattle.eps_poly.specs.Polynomials.{zero_polynomial, monomial}
use Rattle.eps_poly.specs.Factors.{content, from_factors}
use Rattle.eps_poly.proofs.Coefficients.{coefficient-zero, length-zero, coefficient-set_same, coefficient-set_other}
use Rattle.eps_poly.proofs.ContentLaws.{content_divides, content_greatest}
use Rattle.eps_poly.proofs.FactorLaws.{coefficient-factors_below, coefficient-factors}
use Rattle.eps_quotient.specs.Lowering.{one_polynomial}
use Rattle.eps_quotient.specs.Laws.QuotientLaws.{same_trans, multiply-same, multiply-one}

-- ---- by the coefficients

pub factors-at : (c : ℤ) (k : ℕ) (p : List ℤ) (j : ℕ) → coefficient (from_factors c k p) (j + k) ≡ c *ℤ coefficient p j
factors-at c k p j = coefficient-factors c k j (j + k) p refl

back : (j k : ℕ) → k ≤ j → j ≡ (j - k) + k
back j k h = omega arith

pub same_factors : (p q : List ℤ) (c : ℤ) (k : ℕ) → ((j : ℕ) → j < k → coefficient p j ≡ pos 0)
    → ((j : ℕ) → coefficient p (j + k) ≡ c *ℤ coefficient q j) → Same p (from_factors c k q)
same_factors p q c k low high j = elim (cases_lt j k) [
  | inl h ↦ low j h ∙ sym (coefficient-factors_below c k j q h)
  | inr h ↦ ap (coefficient p) (back j k h) ∙ high (j - k) ∙ sym (coefficient-factors c k (j - k) j q (back j k h))
]

-- ---- multiples of multiples

pub factors-factors : (c d : ℤ) (k m : ℕ) (p : List ℤ) → Same (from_factors c k (from_factors d m p)) (from_factors (c *ℤ d) (k + m) p)
factors-factors c d k m p = same_factors (from_factors c k (from_factors d m p)) p (c *ℤ d) (k + m) low high
  where
    low : (j : ℕ) → j < k + m → coefficient (from_factors c k (from_factors d m p)) j ≡ pos 0
    low j h = elim (cases_lt j k) [
      | inl l ↦ coefficient-factors_below c k j (from_factors d m p) l
      | inr l ↦ coefficient-factors c k (j - k) j (from_factors d m p) (back j k l)
          ∙ ap (λ x. c *ℤ x) (coefficient-factors_below d m (j - k) p (omega arith)) ∙ *ℤ-zero c
    ]

    turn : (j k m : ℕ) → j + (k + m) ≡ (j + m) + k
    turn j k m = omega arith

    high : (j : ℕ) → coefficient (from_factors c k (from_factors d m p)) (j + (k + m)) ≡ (c *ℤ d) *ℤ coefficient p j
    high j =
        coefficient-factors c k (j + m) (j + (k + m)) (from_factors d m p) (turn j k m) ∙ ap (λ x. c *ℤ x) (factors-at d m p j)
        ∙ sym (int_multiply_assoc c d (coefficient p j))

pub factors-same : (c : ℤ) (k : ℕ) (p q : List ℤ) → Same p q → Same (from_factors c k p) (from_factors c k q)
factors-same c k p q s =
    same_factors (from_factors c k p) q c k (λ j h. coefficient-factors_below c k j p h) (λ j. factors-at c k p j ∙ ap (λ x. c *ℤ x) (s j))

-- ---- products

nothing : (k : ℕ) → coefficient (pos 0 ∷ []) k ≡ pos 0
unfolding coefficient
nothing zero = refl
nothing (suc k) = refl

multiply-constant : (c : ℤ) (p : List ℤ) → Same (poly_multiply (c ∷ []) p) (poly_scale c p)
unfolding poly_multiply
multiply-constant c p k =
    coefficient-add (poly_scale c p) (pos 0 ∷ []) k ∙ ap (λ x. coefficient (poly_scale c p) k +ℤ x) (nothing k) ∙ +ℤ_idr _

multiply-assoc : (p q r : List ℤ) → Same (poly_multiply (poly_multiply p q) r) (poly_multiply p (poly_multiply q r))
multiply-assoc p q r = same_in _ _ (simp value-multiply (ring.multiply_assoc _ _ _))

multiply-scale : (c : ℤ) (p q : List ℤ) → Same (poly_multiply (poly_scale c p) q) (poly_scale c (poly_multiply p q))
multiply-scale c p q =
    same_trans _ _ _ (multiply-same _ _ _ _ (same_sym _ _ (multiply-constant c p)) (λ k. refl))
    (same_trans _ _ _ (multiply-assoc (c ∷ []) p q) (multiply-constant c (poly_multiply p q)))

multiply-raised : (k : ℕ) (p q : List ℤ) → Same (poly_multiply (replicate k (pos 0) ++ p) q) (replicate k (pos 0) ++ poly_multiply p q)
multiply-raised zero p q j = refl
multiply-raised (suc k) p q j = multiply-shift_left (replicate k (pos 0) ++ p) q j ∙ shift-same _ _ (multiply-raised k p q) j

scale-same : (c : ℤ) (p q : List ℤ) → Same p q → Same (poly_scale c p) (poly_scale c q)
scale-same c p q s k = coefficient-scale c p k ∙ ap (λ x. c *ℤ x) (s k) ∙ sym (coefficient-scale c q k)

pub factors-multiply : (c : ℤ) (k : ℕ) (p q : List ℤ) → Same (poly_multiply (from_factors c k p) q) (from_factors c k (poly_multiply p q))
unfolding from_factors
factors-multiply c k p q =
    same_trans _ _ _ (multiply-scale c (replicate k (pos 0) ++ p) q) (scale-same c _ _ (multiply-raised k p q))

-- ---- c * epsilon^k, for a power of at most 32

pub length-monomial : (c : ℤ) (k : ℕ) → length (monomial c k) ≡ 33
unfolding monomial
length-monomial c k = length-set zero_polynomial k c ∙ length-zero

pub monomial-at : (c : ℤ) (k : ℕ) → k ≤ 32 → coefficient (monomial c k) k ≡ c
unfolding monomial
monomial-at c k h = coefficient-set_same zero_polynomial k c (omega (arith, length-zero))

pub monomial-other : (c : ℤ) (k j : ℕ) → j ≢ k → coefficient (monomial c k) j ≡ pos 0
unfolding monomial
monomial-other c k j apart = coefficient-set_other zero_polynomial k j c apart ∙ coefficient-zero j

zero_plus : (k : ℕ) → 0 + k ≡ k
zero_plus k = omega arith

pub one_same : Same one_polynomial (pos 1 ∷ [])
unfolding coefficient
one_same zero = monomial-at (pos 1) 0 (omega arith)
one_same (suc k) = monomial-other (pos 1) 0 (suc k) (λ e. omega arith)

-- c * epsilon^k is this number of times 1
pub monomial-factors : (c : ℤ) (k : ℕ) → k ≤ 32 → Same (monomial c k) (from_factors c k one_polynomial)
monomial-factors c k h = same_factors (monomial c k) one_polynomial c k (λ j l. monomial-other c k j (λ e. omega arith)) above
  where
    above : (j : ℕ) → coefficient (monomial c k) (j + k) ≡ c *ℤ coefficient one_polynomial j
    above zero = ap (coefficient (monomial c k)) (zero_plus k) ∙ monomial-at c k h ∙ sym (int_multiply_one c)
        ∙ ap (λ x. c *ℤ x) (sym (monomial-at (pos 1) 0 (omega arith)))
    above (suc j) = monomial-other c k (suc j + k) (λ e. omega arith) ∙ sym (*ℤ-zero c)
        ∙ ap (λ x. c *ℤ x) (sym (monomial-other (pos 1) 0 (suc j) (λ e. omega arith)))

pub monomial-multiply : (c : ℤ) (k : ℕ) (p : List ℤ) → k ≤ 32 → Same (poly_multiply (monomial c k) p) (from_factors c k p)
monomial-multiply c k p h =
    same_trans _ _ _ (multiply-same _ _ _ _ (monomial-factors c k h) (λ j. refl))
    (same_trans _ _ _ (factors-multiply c k one_polynomial p) (factors-same c k _ _ one_times))
  where
    one_times : Same (poly_multiply one_polynomial p) p
    one_times = same_trans _ _ _ (multiply-same _ _ _ _ one_same (λ j. refl)) (same_trans _ _ _ (multiply_comm (pos 1 ∷ []) p) (multiply-one p))

-- ---- contents

-- sizes of coefficients alone give the content
pub content-sizes : (p q : List ℤ) → ((k : ℕ) → unsigned_abs (coefficient p k) ≡ unsigned_abs (coefficient q k)) → content p ≡ content q
content-sizes p q s =
    dvd_antisymm (content_greatest q (content p) (λ k. subst (λ n. content p ∣ n) (s k) (content_divides p k)))
    (content_greatest p (content q) (λ k. subst (λ n. content q ∣ n) (sym (s k)) (content_divides q k)))

pub content-same : (p q : List ℤ) → Same p q → content p ≡ content q
content-same p q s = content-sizes p q (λ k. ap unsigned_abs (s k))

pub gcd_nothing : (n : ℕ) → gcd 0 n ≡ n
gcd_nothing n = sym (gcd_same 0 n n (dvd-zero n, dvd_refl n, λ d h k. k))

content-raised : (k : ℕ) (p : List ℤ) → content (replicate k (pos 0) ++ p) ≡ content p
unfolding content
content-raised zero p = refl
content-raised (suc k) p = gcd_nothing (content (replicate k (pos 0) ++ p)) ∙ content-raised k p

content-scale : (c : ℤ) (p : List ℤ) → content (poly_scale c p) ≡ unsigned_abs c * content p
unfolding content poly_scale
content-scale c [] = sym (mul-zero (unsigned_abs c))
content-scale c (a ∷ p) = ap₂ gcd (unsigned_abs-mul c a) (content-scale c p) ∙ gcd_scaled (unsigned_abs a) (content p) (unsigned_abs c)

pub content-factors : (c : ℤ) (k : ℕ) (p : List ℤ) → content (from_factors c k p) ≡ unsigned_abs c * content p
unfolding from_factors
content-factors c k p = content-scale c (replicate k (pos 0) ++ p) ∙ ap (λ n. unsigned_abs c * n) (content-raised k p)
