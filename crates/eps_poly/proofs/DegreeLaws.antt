-- The degree of a polynomial.
use Rattle.std.proofs.Common.{◌≡◌, ◌≢◌, ℕ, zero, suc, ◌+◌, ◌-◌, ◌<◌, ◌≤◌, List, [], ◌∷◌, ◌++◌, length, set, take, drop, length-drop, replicate, refl, sym, ◌∙◌, ap}
use Rattle.std.proofs.Common.{arith, ℤ, pos, negsuc, inl, inr, true, false, eqb, IsTrue, ◌↔◌}
use Rattle.std.proofs.lemmas.Bool.{cases_lt, cases_eq}
use Rattle.std.proofs.lemmas.List.{take-append-drop, take-replicate}
use Rattle.std.proofs.lemmas.Bool.Decides.{nat_tests}
use Rattle.std.specs.List.{list_all}
use Rattle.field_core.specs.Kind.{is_zero_integer}
use Rattle.field_core.specs.Polynomial.{coefficient, lowest, Same, IsNonZero}
use Rattle.eps_poly.specs.Factors.{order}
use Rattle.eps_poly.specs.Written.{counted, count_to_last, degree}
use Rattle.eps_poly.specs.Polynomials.{zero_polynomial}
use Rattle.eps_poly.proofs.Coefficients.{coefficient-past, coefficient-drop, length-zero, same_polynomials, coefficient-set_other, coefficient-set_same, coefficient-zero}
use Rattle.eps_poly.proofs.OrderLaws.{coefficient-order, order_none, lowest_is_zero, none_but_zero, all_zero, not_all_zero}

counted_none : (c : ℤ) (n : ℕ) → counted c n ≡ 0 → c ≡ pos 0
unfolding counted
counted_none (pos zero) n e = refl
counted_none (pos (suc c)) n e = absurd (omega arith)
counted_none (negsuc c) n e = absurd (omega arith)

counted_some : (c : ℤ) (n m : ℕ) → counted c n ≡ suc m → (n ≡ m) × ((m ≡ 0) → c ≢ pos 0)
unfolding counted
counted_some (pos zero) zero m e = absurd (omega arith)
counted_some (pos zero) (suc n) m e = (omega arith, λ none. absurd (omega arith))
counted_some (pos (suc c)) n m e = (omega arith, λ none same. cc)
counted_some (negsuc c) n m e = (omega arith, λ none same. cc)

counted_next : (c : ℤ) (n k : ℕ) → counted c n ≤ suc k → n ≤ k
unfolding counted
counted_next (pos zero) zero k h = omega arith
counted_next (pos zero) (suc n) k h = omega arith
counted_next (pos (suc c)) n k h = omega arith
counted_next (negsuc c) n k h = omega arith

-- above the last coefficient that isn't 0 there are zeros
pub coefficient-above : (p : List ℤ) (k : ℕ) → count_to_last p ≤ k → coefficient p k ≡ pos 0
unfolding coefficient count_to_last
coefficient-above [] k h = refl
coefficient-above (c ∷ p) zero h = counted_none c (count_to_last p) (omega arith)
coefficient-above (c ∷ p) (suc k) h = coefficient-above p k (counted_next c (count_to_last p) k h)

-- the last one isn't 0
coefficient-last : (p : List ℤ) (n : ℕ) → count_to_last p ≡ suc n → coefficient p n ≢ pos 0
unfolding coefficient count_to_last
coefficient-last [] n e = absurd (omega arith)
coefficient-last (c ∷ p) zero e = (counted_some c (count_to_last p) zero e).1 refl
coefficient-last (c ∷ p) (suc n) e = coefficient-last p n (counted_some c (count_to_last p) (suc n) e).0

-- where there are only zeros above
count_at_most : (p : List ℤ) (n : ℕ) → ((k : ℕ) → n ≤ k → coefficient p k ≡ pos 0) → count_to_last p ≤ n
count_at_most p n h = at (count_to_last p) refl
  where
    at : (m : ℕ) → count_to_last p ≡ m → count_to_last p ≤ n
    at zero e = omega arith
    at (suc m) e = elim (cases_lt m n) [
      | inl l ↦ omega arith
      | inr l ↦ absurd (coefficient-last p m e (h m l))
    ]

count_at_least : (p : List ℤ) (n : ℕ) → coefficient p n ≢ pos 0 → n < count_to_last p
count_at_least p n some = elim (cases_lt n (count_to_last p)) [
  | inl l ↦ l
  | inr l ↦ absurd (some (coefficient-above p n l))
]

pub count_within : (p : List ℤ) → count_to_last p ≤ length p
count_within p = count_at_most p (length p) (λ k h. coefficient-past p k h)

pub count_none : (p : List ℤ) → ((k : ℕ) → coefficient p k ≡ pos 0) → 0 ≡ count_to_last p
count_none p h = let high = count_at_most p 0 (λ k l. h k) in omega arith

pub count_zero : 0 ≡ count_to_last zero_polynomial
count_zero = count_none zero_polynomial coefficient-zero

-- a coefficient that isn't 0, with zeros above
pub count_is : (p : List ℤ) (n : ℕ) → coefficient p n ≢ pos 0 → ((k : ℕ) → n < k → coefficient p k ≡ pos 0) → n + 1 ≡ count_to_last p
count_is p n some h =
    let high = count_at_most p (suc n) h in
    let low = count_at_least p n some in
    omega arith

pub coefficient-above_degree : (p : List ℤ) (k : ℕ) → degree p < k → coefficient p k ≡ pos 0
unfolding degree
coefficient-above_degree p k h = coefficient-above p k (omega arith)

pub degree_at_least : (p : List ℤ) (n : ℕ) → coefficient p n ≢ pos 0 → n ≤ degree p
unfolding degree
degree_at_least p n some = let l = count_at_least p n some in omega arith

pub degree_at_most : (p : List ℤ) (n : ℕ) → ((k : ℕ) → n < k → coefficient p k ≡ pos 0) → degree p ≤ n
unfolding degree
degree_at_most p n h = let l = count_at_most p (suc n) h in omega arith

-- the coefficient of that power isn't 0
pub coefficient-degree : (p : List ℤ) → IsNonZero p → coefficient p (degree p) ≢ pos 0
unfolding degree
coefficient-degree p some = at (count_to_last p) refl
  where
    at : (n : ℕ) → count_to_last p ≡ n → coefficient p (count_to_last p - 1) ≢ pos 0
    at zero e = λ none. some (sym (coefficient-order p) ∙ coefficient-above p (order p) (omega arith))
    at (suc n) e = λ none. coefficient-last p n e (ap (coefficient p) (omega arith) ∙ none)

pub degree-same : (p q : List ℤ) → Same p q → degree p ≡ degree q
degree-same p q e =
    let up = degree_at_most p (degree q) (λ k h. e k ∙ coefficient-above_degree q k h) in
    let down = degree_at_most q (degree p) (λ k h. sym (e k) ∙ coefficient-above_degree p k h) in
    omega arith

-- and the least power is at most the degree
pub order_low : (p : List ℤ) → IsNonZero p → order p ≤ degree p
order_low p some = degree_at_least p (order p) (λ none. some (sym (coefficient-order p) ∙ none))

-- below the last one that isn't 0 any may be put
pub count_kept : (p : List ℤ) (i : ℕ) (c : ℤ) → i + 1 < count_to_last p → count_to_last p ≡ count_to_last (set p i c)
count_kept p i c l = at (count_to_last p) refl
  where
    at : (m : ℕ) → count_to_last p ≡ m → count_to_last p ≡ count_to_last (set p i c)
    at zero e = absurd (omega arith)
    at (suc n) e =
        let some : coefficient (set p i c) n ≢ pos 0 =
        λ none. coefficient-last p n e (sym (coefficient-set_other p i n c (λ same. absurd (omega arith))) ∙ none) in
        let whole = count_is (set p i c) n some
        (λ k h. coefficient-set_other p i k c (λ same. absurd (omega arith)) ∙ coefficient-above p k (omega arith)) in
        omega arith

-- one that isn't 0 is put at the end
pub count_put : (p : List ℤ) (i : ℕ) (c : ℤ) → i < length p → c ≢ pos 0 → count_to_last p ≤ i + 1 → i + 1 ≡ count_to_last (set p i c)
count_put p i c room some l = count_is (set p i c) i (λ none. some (sym (coefficient-set_same p i c room) ∙ none))
    (λ k h. coefficient-set_other p i k c (λ same. absurd (omega arith)) ∙ coefficient-above p k (omega arith))

-- ---- the test for the zero polynomial

count_from_zero : (p : List ℤ) → lowest p ≡ pos 0 → 0 ≡ count_to_last p
count_from_zero p none = count_none p (none_but_zero p none)

none_from_count : (p : List ℤ) → 0 ≡ count_to_last p → order p ≡ length p
none_from_count p e = order_none p (λ k h. coefficient-above p k (omega arith))

some_from_count : (p : List ℤ) → 0 ≢ count_to_last p → order p ≢ length p
some_from_count p some none = some (count_from_zero p (lowest_is_zero p none))

-- what the code tests
pub zero_value : (p : List ℤ) (n : ℕ) → n ≡ count_to_last p → eqb n 0 ≡ list_all is_zero_integer p
zero_value p n e = elim (cases_eq n 0) [
  | inl same ↦ let test : eqb n 0 ≡ true = grind (arith, nat_tests) in test ∙ sym (all_zero p (none_from_count p (sym same ∙ e)))
  | inr apart ↦ let test : eqb n 0 ≡ false = grind (arith, nat_tests) in test ∙ sym (not_all_zero p (some_from_count p (λ f. apart (e ∙ sym f))))
]

pub zero_test : (p : List ℤ) (n : ℕ) → n ≡ count_to_last p → IsTrue (eqb n 0) ↔ (lowest p ≡ pos 0)
zero_test p n e =
    let forward : IsTrue (eqb n 0) → lowest p ≡ pos 0 = λ test. let same : n ≡ 0 = grind (arith, nat_tests) in
    lowest_is_zero p (none_from_count p (sym same ∙ e)) in
    let back : lowest p ≡ pos 0 → IsTrue (eqb n 0) = λ none. let same : n ≡ 0 = e ∙ sym (count_from_zero p none) in grind (arith, nat_tests) in
    (forward, back)

-- the coefficients of q up to a place from which on both are 0, and the others of p
pub front_copied : (p q : List ℤ) (n : ℕ) → length p ≡ length q → n ≤ length p → count_to_last p ≤ n → count_to_last q ≤ n
    → take n q ++ drop n p ≡ q
front_copied p q n long room own other =
    ap (λ r. take n q ++ r) (same_polynomials (drop n p) (drop n q) (omega (arith, length-drop n p, length-drop n q))
    (λ k h. coefficient-drop p n k ∙ coefficient-above p (k + n) (omega arith) ∙ sym (coefficient-drop q n k ∙ coefficient-above q (k + n) (omega arith))))
    ∙ take-append-drop n q

take_zeros : (n : ℕ) → n ≤ 33 → take n zero_polynomial ≡ replicate n (pos 0)
unfolding zero_polynomial
take_zeros n room = take-replicate n 33 (pos 0) room

-- zeros up to a place from which on there are zeros
pub front_cleared : (p : List ℤ) (n : ℕ) → length p ≡ 33 → n ≤ 33 → count_to_last p ≤ n → replicate n (pos 0) ++ drop n p ≡ zero_polynomial
front_cleared p n long room own =
    let low = count_zero in
    ap (λ r. r ++ drop n p) (sym (take_zeros n room))
    ∙ front_copied p zero_polynomial n (long ∙ sym length-zero) (omega arith) own (omega arith)
