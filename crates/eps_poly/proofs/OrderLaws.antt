-- The least power with a coefficient that isn't 0.
use Rattle.std.proofs.Common.{◌≡◌, ◌≢◌, ℕ, zero, suc, ◌<◌, ◌≤◌, true, false, List, [], ◌∷◌, length, refl, sym, ◌∙◌, arith}
use Rattle.std.proofs.Common.{ℤ, pos, negsuc, inl, inr, Some, None}
use Rattle.std.proofs.lemmas.Bool.{cases_lt}
use Rattle.std.specs.List.{list_all}
use Rattle.field_core.specs.Kind.{is_zero_integer}
use Rattle.field_core.specs.Polynomial.{coefficient, or_else, lowest, IsNonZero}
use Rattle.field_core.specs.Laws.PolynomialLaws.{lowest-none}
use Rattle.eps_poly.specs.Factors.{order, low_order}
use Rattle.eps_poly.proofs.Coefficients.{coefficient-past}

pub order_within : (p : List ℤ) → order p ≤ length p
unfolding order
order_within [] = omega arith
order_within (pos zero ∷ p) = let rest = order_within p in omega arith
order_within (pos (suc c) ∷ p) = omega arith
order_within (negsuc c ∷ p) = omega arith

-- below it are zeros
pub coefficient-below_order : (p : List ℤ) (k : ℕ) → k < order p → coefficient p k ≡ pos 0
unfolding order coefficient
coefficient-below_order [] k h = refl
coefficient-below_order (pos zero ∷ p) zero h = refl
coefficient-below_order (pos zero ∷ p) (suc k) h = coefficient-below_order p k (omega arith)
coefficient-below_order (pos (suc c) ∷ p) k h = absurd (omega arith)
coefficient-below_order (negsuc c ∷ p) k h = absurd (omega arith)

-- and there is the lowest coefficient
pub coefficient-order : (p : List ℤ) → coefficient p (order p) ≡ lowest p
unfolding order coefficient lowest or_else
coefficient-order [] = refl
coefficient-order (pos zero ∷ p) = coefficient-order p
coefficient-order (pos (suc c) ∷ p) = refl
coefficient-order (negsuc c ∷ p) = refl

-- there is one within the list
order_some : (p : List ℤ) → order p < length p → lowest p ≢ pos 0
unfolding order lowest or_else
order_some [] h = absurd (omega arith)
order_some (pos zero ∷ p) h = order_some p (omega arith)
order_some (pos (suc c) ∷ p) h = λ e. cc
order_some (negsuc c ∷ p) h = λ e. cc

pub lowest_from_coefficient : (p : List ℤ) (n : ℕ) → coefficient p n ≢ pos 0 → IsNonZero p
lowest_from_coefficient p n some none = some (lowest-none p none n ∙ coefficient-past [] n (omega arith))

pub order_is : (p : List ℤ) (n : ℕ) → ((k : ℕ) → k < n → coefficient p k ≡ pos 0) → coefficient p n ≢ pos 0 → order p ≡ n
order_is p n below some = elim (cases_lt (order p) n) [
  | inl l ↦ absurd (lowest_from_coefficient p n some (sym (coefficient-order p) ∙ below (order p) l))
  | inr high ↦ elim (cases_lt n (order p)) [
    | inl l ↦ absurd (some (coefficient-below_order p n l))
    | inr low ↦ omega arith
  ]
]

pub order_none : (p : List ℤ) → ((k : ℕ) → k < length p → coefficient p k ≡ pos 0) → order p ≡ length p
order_none p h = elim (cases_lt (order p) (length p)) [
  | inl l ↦ absurd (order_some p l (sym (coefficient-order p) ∙ h (order p) l))
  | inr l ↦ let low = order_within p in omega arith
]

pub lowest_is_zero : (p : List ℤ) → order p ≡ length p → lowest p ≡ pos 0
lowest_is_zero p e = sym (coefficient-order p) ∙ coefficient-past p (order p) (omega arith)

-- where a polynomial isn't zero
pub order_below : (p : List ℤ) → IsNonZero p → order p < length p
order_below p some = elim (cases_lt (order p) (length p)) [
  | inl l ↦ l
  | inr l ↦ let low = order_within p in absurd (some (lowest_is_zero p (omega arith)))
]

-- each coefficient of the zero polynomial is 0
pub none_but_zero : (p : List ℤ) → lowest p ≡ pos 0 → (k : ℕ) → coefficient p k ≡ pos 0
none_but_zero p none k = lowest-none p none k ∙ coefficient-past [] k (omega arith)

-- ---- the test for the zero polynomial

pub all_zero : (p : List ℤ) → order p ≡ length p → list_all is_zero_integer p ≡ true
unfolding order
all_zero [] e = refl
all_zero (pos zero ∷ p) e = all_zero p (omega arith)
all_zero (pos (suc c) ∷ p) e = absurd (omega arith)
all_zero (negsuc c ∷ p) e = absurd (omega arith)

pub not_all_zero : (p : List ℤ) → order p ≢ length p → list_all is_zero_integer p ≡ false
unfolding order
not_all_zero [] apart = absurd (apart refl)
not_all_zero (pos zero ∷ p) apart = not_all_zero p (λ e. apart (omega arith))
not_all_zero (pos (suc c) ∷ p) apart = refl
not_all_zero (negsuc c ∷ p) apart = refl

pub low_order_none : (p : List ℤ) → order p ≡ length p → low_order p ≡ None
unfolding low_order
low_order_none p e = rw (all_zero p e) refl

pub low_order_some : (p : List ℤ) → order p ≢ length p → low_order p ≡ Some (order p)
unfolding low_order
low_order_some p apart = rw (not_all_zero p apart) refl
