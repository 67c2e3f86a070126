-- Coefficients of polynomials, one after the other.
use Rattle.std.proofs.Common.{◌≡◌, refl, sym, ap, ◌∙◌, ℕ, zero, suc, ◌+◌, ◌-◌, ◌<◌, ◌≤◌, inl, inr, List, length, map, get_or, add-one}
use Rattle.std.proofs.Common.{true, false, cond, Result, Ok, Err, arith}
use Rattle.std.proofs.lemmas.Bool.{cases_lt}
use Rattle.field_core.specs.Terms.{Terms}
use Rattle.case_model.specs.Sums.{terms_at, zero_terms}
use Rattle.fraction.specs.Tests.{is_zero}
use Rattle.std.proofs.lemmas.List.{get_or-map}
use Rattle.edge_expression.specs.declared.value_fault.ValueFault.{ValueFault}
use Rattle.edge_expression.specs.declared.short_fraction.ShortFraction.{ShortFraction}
use Rattle.edge_expression.specs.EntryView.{short_terms}
use Rattle.field_core.specs.Steps.{◌>>=◌}
use Rattle.edge_expression.specs.EntryValues.{sum, product, product_sum, degree_within}

-- the coefficient at a place
pub item_terms : (xs : List ShortFraction) (n : ℕ) (x : ShortFraction) → n < length xs
    → x ≡ get_or xs n x → terms_at (map short_terms xs) n ≡ short_terms x
unfolding terms_at
item_terms xs n x h e = get_or-map short_terms xs n x zero_terms h ∙ ap short_terms (sym e)

-- ---- degrees

pub degree_down : (p : ℕ) (x : List Terms) → 0 < p → is_zero (terms_at x p) ≡ true → degree_within (p - 1) x ≡ degree_within p x
unfolding degree_within
degree_down zero x h e = absurd (omega arith)
degree_down (suc n) x h e = let same : suc n - 1 ≡ n = omega arith in ap (λ k. degree_within k x) same
    ∙ sym (ap (λ b. cond b (degree_within n x) (suc n)) e)

pub degree_here : (p : ℕ) (x : List Terms) → is_zero (terms_at x p) ≡ false → degree_within p x ≡ p
unfolding degree_within
degree_here zero x e = refl
degree_here (suc n) x e = ap (λ b. cond b (degree_within n x) (suc n)) e

pub degree_least : (p : ℕ) (x : List Terms) → p ≡ 0 → degree_within p x ≡ p
unfolding degree_within
degree_least zero x e = refl
degree_least (suc n) x e = absurd (omega arith)

-- ---- sums of products

abbrev pub held : ShortFraction → Result Terms ValueFault
held x = Ok (short_terms x)

pub product_none : (x y : List Terms) (k : ℕ) → product_sum x y k 0 ≡ Ok zero_terms
unfolding product_sum
product_none x y k = refl

product_next : (x y : List Terms) (k i : ℕ)
    → product_sum x y k (suc i) ≡ (product_sum x y k i >>= λ s. product (terms_at x i) (terms_at y (k - i)) >>= λ p. sum s p)
unfolding product_sum
product_next x y k i = refl

-- with a product more
pub product_more : (x y : List Terms) (k i : ℕ) (s p a b : Terms) → product_sum x y k i ≡ Ok s → terms_at x i ≡ a
    → terms_at y (k - i) ≡ b → product a b ≡ Ok p → product_sum x y k (i + 1) ≡ sum s p
product_more x y k i s p a b h e f g = ap (product_sum x y k) (add-one i) ∙ product_next x y k i ∙ rw (h, e, f, g) refl

-- a product that is refused
pub product_refused : (x y : List Terms) (k i : ℕ) (s a b : Terms) (f : ValueFault) → product_sum x y k i ≡ Ok s → terms_at x i ≡ a
    → terms_at y (k - i) ≡ b → product a b ≡ Err f → product_sum x y k (i + 1) ≡ Err f
product_refused x y k i s a b f h e g r = ap (product_sum x y k) (add-one i) ∙ product_next x y k i ∙ rw (h, e, g, r) refl

-- a fault stays
pub product_stops : (x y : List Terms) (k i n : ℕ) (f : ValueFault) → i + 1 ≤ n → product_sum x y k (i + 1) ≡ Err f → product_sum x y k n ≡ Err f
product_stops x y k i zero f h e = absurd (omega arith)
product_stops x y k i (suc n) f h e = elim (cases_lt i n) [
  | inl lt ↦ product_next x y k n ∙ rw (product_stops x y k i n f (omega (arith, lt)) e) refl
  | inr ge ↦ let same : suc n ≡ i + 1 = omega (arith, ge) in ap (product_sum x y k) same ∙ e
]
