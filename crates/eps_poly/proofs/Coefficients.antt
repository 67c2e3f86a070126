-- Lists by their coefficients.
use Rattle.std.proofs.Common.{◌≡◌, ◌≢◌, ℕ, zero, suc, ◌+◌, ◌<◌, ◌≤◌, List, [], ◌∷◌, length, drop, set, replicate, map, refl}
use Rattle.std.proofs.Common.{sym, ◌∙◌, ap, arith, Bool, true, false, ℤ, pos, inl, inr}
use Rattle.std.specs.List.{range_with_len}
use Rattle.std.proofs.lemmas.Bool.{cases_eq, cases_lt}
use Rattle.std.proofs.lemmas.List.{same_lists, get_or-set_same, get_or-set_other, length-set, length-replicate, get_or-replicate}
use Rattle.std.proofs.lemmas.List.FromFn.{length-map-range_with_len, get_or-map-range_with_len}
use Rattle.field_core.specs.Polynomial.{coefficient, poly_negate}
use Rattle.field_core.specs.Laws.PolynomialLaws.{coefficient-index}
use Rattle.std.proofs.lemmas.Slice.Eq.{slice_eq-Decides}
use Rattle.std.proofs.lemmas.Bool.Decides.{Decides-int_eq}
use Rattle.eps_poly.specs.Polynomials.{by_powers, is_same, zero_polynomial}

pub coefficient-past : (p : List ℤ) (k : ℕ) → length p ≤ k → coefficient p k ≡ pos 0
unfolding coefficient
coefficient-past [] k h = refl
coefficient-past (c ∷ p) zero h = absurd (omega arith)
coefficient-past (c ∷ p) (suc k) h = coefficient-past p k (omega arith)

pub coefficient-drop : (p : List ℤ) (n k : ℕ) → coefficient (drop n p) k ≡ coefficient p (k + n)
unfolding coefficient
coefficient-drop p zero k = let same : k ≡ k + 0 = omega arith in ap (coefficient p) same
coefficient-drop [] (suc n) k = refl
coefficient-drop (c ∷ p) (suc n) k = let next : suc (k + n) ≡ k + suc n = omega arith in coefficient-drop p n k ∙ ap (coefficient (c ∷ p)) next

-- two lists of one length with the same coefficients
pub same_polynomials : (p q : List ℤ) → length p ≡ length q → ((k : ℕ) → k < length p → coefficient p k ≡ coefficient q k) → p ≡ q
same_polynomials p q e h =
    same_lists p q e (λ k d l. sym (coefficient-index p k d l) ∙ h k l ∙ coefficient-index q k d (omega arith))

pub length-negate : (p : List ℤ) → length (poly_negate p) ≡ length p
unfolding poly_negate
length-negate [] = refl
length-negate (c ∷ p) = ap suc (length-negate p)

pub coefficient-set_same : (p : List ℤ) (i : ℕ) (c : ℤ) → i < length p → coefficient (set p i c) i ≡ c
coefficient-set_same p i c h =
    coefficient-index (set p i c) i (pos 0) (omega (arith, length-set p i c)) ∙ get_or-set_same p i c (pos 0) h

pub coefficient-set_other : (p : List ℤ) (i k : ℕ) (c : ℤ) → k ≢ i → coefficient (set p i c) k ≡ coefficient p k
coefficient-set_other p i k c apart = elim (cases_lt k (length p)) [
  | inl h ↦ coefficient-index (set p i c) k (pos 0) (omega (arith, length-set p i c)) ∙ get_or-set_other p i k c (pos 0) apart
      ∙ sym (coefficient-index p k (pos 0) h)
  | inr h ↦ coefficient-past (set p i c) k (omega (arith, length-set p i c)) ∙ sym (coefficient-past p k h)
]

pub length-by_powers : (at : ℕ → ℤ) → length (by_powers at) ≡ 33
unfolding by_powers
length-by_powers at = length-map-range_with_len at 0 33

pub coefficient-by_powers : (at : ℕ → ℤ) (k : ℕ) → k < 33 → coefficient (by_powers at) k ≡ at k
unfolding by_powers
coefficient-by_powers at k h =
    coefficient-index (map at (range_with_len 0 33)) k (pos 0) (omega (arith, length-map-range_with_len at 0 33))
    ∙ get_or-map-range_with_len at 0 33 k k (pos 0) h (omega arith)

pub length-zero : length zero_polynomial ≡ 33
unfolding zero_polynomial
length-zero = length-replicate 33 (pos 0)

pub coefficient-zero : (k : ℕ) → coefficient zero_polynomial k ≡ pos 0
unfolding zero_polynomial
coefficient-zero k = elim (cases_lt k 33) [
  | inl h ↦ coefficient-index (replicate 33 (pos 0)) k (pos 0) (omega (arith, length-replicate 33 (pos 0))) ∙ get_or-replicate 33 k (pos 0) (pos 0) h
  | inr h ↦ coefficient-past (replicate 33 (pos 0)) k (omega (arith, length-replicate 33 (pos 0)))
]

-- ---- tests for 0

-- ---- the test for equality

pub same_from : (p q : List ℤ) → is_same p q ≡ true → p ≡ q
same_from p q e = (slice_eq-Decides Decides-int_eq p q (is_same p q) refl).0 e

pub same_to : (p q : List ℤ) → p ≡ q → is_same p q ≡ true
same_to p q e = (slice_eq-Decides Decides-int_eq p q (is_same p q) refl).1 e

pub other_from : (p q : List ℤ) → is_same p q ≡ false → ¬ (p ≡ q)
other_from p q e s = let t = same_to p q s in cc

pub differ : (p q : List ℤ) → ¬ (p ≡ q) → false ≡ is_same p q
differ p q apart = at (is_same p q) refl
  where
    at : (b : Bool) → is_same p q ≡ b → false ≡ b
    at true e = absurd (apart (same_from p q e))
    at false e = refl

-- ---- a loop that writes the coefficients of ascending powers

-- the first n of 33 coefficients are as P says, and the others are still 0
pub record Filled (P : ℕ → ℤ → Type 0) (p : List ℤ) (n : ℕ) : Type 0 where
  pub count : length p ≡ 33
  pub front : (k : ℕ) → k < n → P k (coefficient p k)
  pub rest : (k : ℕ) → n ≤ k → coefficient p k ≡ pos 0

pub filled_none : (P : ℕ → ℤ → Type 0) (p : List ℤ) → p ≡ zero_polynomial → Filled P p 0
filled_none P p e = record {
  count = ap length e ∙ length-zero;
  front = λ k h. absurd (omega arith);
  rest = λ k h. ap (λ q. coefficient q k) e ∙ coefficient-zero k;
}

pub filled_more : (P : ℕ → ℤ → Type 0) (p : List ℤ) (n : ℕ) (c : ℤ) → n < 33 → Filled P p n → P n c → Filled P (set p n c) (n + 1)
filled_more P p n c room f here =
    let all = f.count in
    record {
      count = length-set p n c ∙ f.count;
      front = λ k h. elim (cases_eq k n) [
        | inl e ↦ rw (e, coefficient-set_same p n c (omega arith)) here
        | inr apart ↦ rw (coefficient-set_other p n k c apart) (f.front k (omega arith))
      ];
      rest = λ k h. coefficient-set_other p n k c (λ e. absurd (omega arith)) ∙ f.rest k (omega arith);
    }

-- what is still 0 is as P says too
pub filled_rest : (P : ℕ → ℤ → Type 0) (p : List ℤ) (n : ℕ) → ((k : ℕ) → n ≤ k → P k (pos 0)) → Filled P p n → Filled P p 33
filled_rest P p n zeros f =
    let all = f.count in
    record {
      count = f.count;
      front = λ k h. elim (cases_lt k n) [
        | inl l ↦ f.front k l
        | inr l ↦ rw (f.rest k l) (zeros k l)
      ];
      rest = λ k h. coefficient-past p k (omega arith);
    }
