-- Operations of entries with a number, a power of epsilon or a single coefficient.
use Rattle.std.proofs.Common.{◌≡◌, ℕ, zero, suc, ◌+◌, ◌-◌, ◌<◌, ◌≤◌, inl, inr, Bool, true, false, cond, eqb, List, []}
use Rattle.std.proofs.Common.{◌∷◌, ℤ, pos, neg_ℤ, ◌<ℤ◌, Result, Ok, refl, ap, ap₂, ◌∙◌, arith}
use Rattle.std.specs.Prelude.{nat_lt, ◌==◌, if◌then◌else◌}
use Rattle.std.proofs.lemmas.Bool.{le-ltb, cases_Bool, eqb-true}
use Rattle.std.proofs.lemmas.Bool.Decides.{Decides-int_eq}
use Rattle.field_core.specs.Terms.{Terms}
use Rattle.std.proofs.lemmas.Int.{ints}
use Rattle.std.specs.Ordering.{int_eq}
use Rattle.fraction.specs.Tests.{is_zero}
use Rattle.case_model.specs.Sums.{terms_at, zero_terms}
use Rattle.edge_expression.specs.declared.value_fault.ValueFault.{ValueFault}
use Rattle.edge_expression.specs.Expressions.{Plus, Minus}
use Rattle.field_core.specs.Steps.{◌>>=◌}
use Rattle.edge_expression.specs.EntryValues.{plain_entry, sum, difference, product, quotient, coefficients, joined, degree_within, degree, product_sum, times}
use Rattle.edge_expression.specs.EntryValues.{over, unit_at, power_value}
use Rattle.edge_expression.proofs.UnitOperations.{IsShortTerms, one_terms, zero_short, one_short, sum_zero_left, sum_zero_right, difference_zero_left}
use Rattle.edge_expression.proofs.UnitOperations.{difference_zero_right, product_one_right, product_zero_left, product_zero_right, quotient_parts}
use Rattle.edge_expression.proofs.UnitOperations.{quotient_zero}

-- the entry with these coefficients
abbrev pub tabled : (ℕ → Terms) → List Terms
tabled f = f 0 ∷ f 1 ∷ f 2 ∷ f 3 ∷ f 4 ∷ []

pub at_tabled : (f : ℕ → Terms) (k : ℕ) → k < 5 → terms_at (tabled f) k ≡ f k
unfolding terms_at
at_tabled f zero h = refl
at_tabled f (suc zero) h = refl
at_tabled f (suc (suc zero)) h = refl
at_tabled f (suc (suc (suc zero))) h = refl
at_tabled f (suc (suc (suc (suc zero)))) h = refl
at_tabled f (suc (suc (suc (suc (suc k))))) h = absurd (omega arith)

pub same_tabled : (f g : ℕ → Terms) → ((k : ℕ) → k < 5 → f k ≡ g k) → tabled f ≡ tabled g
same_tabled f g h = rw (h 0 (omega arith), h 1 (omega arith), h 2 (omega arith), h 3 (omega arith), h 4 (omega arith)) refl

pub coefficients_are : (f : ℕ → Result Terms ValueFault) (g : ℕ → Terms) → ((k : ℕ) → k < 5 → f k ≡ Ok (g k))
    → coefficients f ≡ Ok (tabled g)
unfolding coefficients
coefficients_are f g h = rw (h 0 (omega arith), h 1 (omega arith), h 2 (omega arith), h 3 (omega arith), h 4 (omega arith)) refl

-- one coefficient, and 0 elsewhere
abbrev pub single : ℕ → Terms → ℕ → Terms
single p t k = if k == p then t else zero_terms

-- ---- powers and products with a number

pub power_is : (p : ℕ) → p ≤ 4 → power_value p ≡ Ok (tabled (single p one_terms))
unfolding power_value
power_is p h = rw (le-ltb 4 p h) (coefficients_are (λ k. Ok (unit_at p k)) (single p one_terms) (λ k l. refl))

plain_behind : (c : Terms) (i : ℕ) → terms_at (plain_entry c) (suc i) ≡ zero_terms
unfolding terms_at
plain_behind c zero = refl
plain_behind c (suc zero) = refl
plain_behind c (suc (suc zero)) = refl
plain_behind c (suc (suc (suc zero))) = refl
plain_behind c (suc (suc (suc (suc i)))) = refl

plain_first : (c : Terms) → terms_at (plain_entry c) 0 ≡ c
unfolding terms_at
plain_first c = refl

sum_begun : (x y : List Terms) (k : ℕ) → product_sum x y k 1 ≡ (product (terms_at x 0) (terms_at y (k - 0)) >>= λ p. sum zero_terms p)
unfolding product_sum
sum_begun x y k = refl

sum_start : (x y : List Terms) (k : ℕ) → product_sum x y k 1 ≡ (product (terms_at x 0) (terms_at y k) >>= λ p. sum zero_terms p)
sum_start x y k = let e : k - 0 ≡ k = omega arith in sum_begun x y k ∙ ap (λ j. product (terms_at x 0) (terms_at y j) >>= λ p. sum zero_terms p) e

sum_next : (x y : List Terms) (k i : ℕ)
    → product_sum x y k (suc (suc i)) ≡ (product_sum x y k (suc i) >>= λ s. product (terms_at x (suc i)) (terms_at y (k - suc i)) >>= λ p. sum s p)
unfolding product_sum
sum_next x y k i = refl

plain_sum : (c d : Terms) (y : List Terms) (k i : ℕ) → ((j : ℕ) → IsShortTerms (terms_at y j)) → IsShortTerms d
    → product c (terms_at y k) ≡ Ok d → product_sum (plain_entry c) y k (suc i) ≡ Ok d
plain_sum c d y k zero s short e = sum_start (plain_entry c) y k ∙ rw (plain_first c, e) (sum_zero_left d short)
plain_sum c d y k (suc i) s short e =
    let none : product (terms_at (plain_entry c) (suc i)) (terms_at y (k - suc i)) ≡ Ok zero_terms =
    ap (λ x. product x (terms_at y (k - suc i))) (plain_behind c i) ∙ product_zero_left (terms_at y (k - suc i)) (s (k - suc i)) in
    sum_next (plain_entry c) y k i ∙ rw (plain_sum c d y k i s short e, none) (sum_zero_right d short)

degree_plain : (c : Terms) → degree (plain_entry c) ≡ 0
unfolding degree_within terms_at
degree_plain c = refl

most_by : (b : Bool) (n m : ℕ) → m ≤ n → cond b m (suc n) ≤ suc n
most_by true n m h = omega (arith, h)
most_by false n m h = omega arith

degree_most : (n : ℕ) (x : List Terms) → degree_within n x ≤ n
unfolding degree_within
degree_most zero x = omega arith
degree_most (suc n) x = most_by (is_zero (terms_at x (suc n))) n (degree_within n x) (degree_most n x)

pub short_if : (b : Bool) (t : Terms) → IsShortTerms t → IsShortTerms (cond b t zero_terms)
short_if true t s = s
short_if false t s = zero_short

product_if : (b : Bool) (c : Terms) → IsShortTerms c → product c (cond b one_terms zero_terms) ≡ Ok (cond b c zero_terms)
product_if true c s = product_one_right c s
product_if false c s = product_zero_right c s

plus_if : (k p : ℕ) (b : Bool) → eqb k p ≡ b → (f : ℕ → Terms) (t : Terms) → ((j : ℕ) → IsShortTerms (f j)) → IsShortTerms t
    → f p ≡ zero_terms → sum (f k) (cond b t zero_terms) ≡ Ok (cond b t (f k))
plus_if k p true x f t h s e = let same : k ≡ p = eqb-true k p x in ap (λ y. sum y t) (ap f same ∙ e) ∙ sum_zero_left t s
plus_if k p false x f t h s e = sum_zero_right (f k) (h k)

minus_if : (k p : ℕ) (b : Bool) → eqb k p ≡ b → (f : ℕ → Terms) (t c : Terms) → ((j : ℕ) → IsShortTerms (f j)) → IsShortTerms c
    → c.num ≡ neg_ℤ t.num → c.den ≡ t.den → f p ≡ zero_terms → difference (f k) (cond b t zero_terms) ≡ Ok (cond b c (f k))
minus_if k p true x f t c h s n d e = let same : k ≡ p = eqb-true k p x in ap (λ y. difference y t) (ap f same ∙ e) ∙ difference_zero_left t c s n d
minus_if k p false x f t c h s n d e = difference_zero_right (f k) (h k)

not_zero : (d : ℤ) → pos 0 <ℤ d → int_eq d (pos 0) ≡ false
not_zero d h = elim (cases_Bool (int_eq d (pos 0)))
    [ inl t ↦ (let e : d ≡ pos 0 = (Decides-int_eq d (pos 0)).0 t in absurd (omega (arith, ints))) | inr f ↦ f ]

number_at : Terms → ℕ → Terms
number_at t zero = t
number_at t (suc k) = zero_terms

parts_at : (t : Terms) (k : ℕ) → IsShortTerms t → k < 5
    → quotient (terms_at (plain_entry (record { num = t.num; den = pos 1 })) k) (terms_at (plain_entry (record { num = t.den; den = pos 1 })) 0) ≡ Ok
    (number_at t k)
unfolding number_at
parts_at t zero s l =
    ap₂ quotient (plain_first (record { num = t.num; den = pos 1 })) (plain_first (record { num = t.den; den = pos 1 })) ∙ quotient_parts t s
parts_at t (suc k) s l =
    ap₂ quotient (plain_behind (record { num = t.num; den = pos 1 }) k) (plain_first (record { num = t.den; den = pos 1 }))
    ∙ quotient_zero t.den s.0.positive

single_short : (p : ℕ) (t : Terms) (k : ℕ) → IsShortTerms t → IsShortTerms (single p t k)
single_short p t k s = short_if (eqb k p) t s

tabled_short : (f : ℕ → Terms) → ((k : ℕ) → IsShortTerms (f k)) → (j : ℕ) → IsShortTerms (terms_at (tabled f) j)
unfolding terms_at
tabled_short f h zero = h 0
tabled_short f h (suc zero) = h 1
tabled_short f h (suc (suc zero)) = h 2
tabled_short f h (suc (suc (suc zero))) = h 3
tabled_short f h (suc (suc (suc (suc zero)))) = h 4
tabled_short f h (suc (suc (suc (suc (suc j))))) = zero_short

product_single : (c : Terms) (p k : ℕ) → IsShortTerms c → product c (single p one_terms k) ≡ Ok (single p c k)
product_single c p k s = product_if (eqb k p) c s

-- a number times a power of epsilon
pub times_power : (c : Terms) (p : ℕ) → p ≤ 4 → IsShortTerms c → times (plain_entry c) (tabled (single p one_terms)) ≡ Ok (tabled (single p c))
unfolding times
times_power c p h s =
    let y : List Terms = tabled (single p one_terms) in
    let small : degree (plain_entry c) + degree y ≤ 4 = omega (arith, degree_plain c, degree_most 4 y) in
    rw (le-ltb 4 (degree (plain_entry c) + degree y) small)
    (coefficients_are (λ k. product_sum (plain_entry c) y k (suc k)) (single p c)
    (λ k l. plain_sum c (single p c k) y k k (tabled_short (single p one_terms) (λ j. single_short p one_terms j one_short)) (single_short p c k s)
    (ap (product c) (at_tabled (single p one_terms) k l) ∙ product_single c p k s)))

-- ---- quotients of numbers

degree_number : (t : Terms) → nat_lt 0 (degree (plain_entry t)) ≡ false
degree_number t = ap (nat_lt 0) (degree_plain t)

-- the quotient of the parts of a fraction
pub over_parts : (t : Terms) → IsShortTerms t
    → over (plain_entry (record { num = t.num; den = pos 1 })) (plain_entry (record { num = t.den; den = pos 1 })) ≡ Ok (plain_entry t)
unfolding over number_at
over_parts t s =
    let d : Terms = record { num = t.den; den = pos 1 } in
    let n : Terms = record { num = t.num; den = pos 1 } in
    let some : is_zero (terms_at (plain_entry d) 0) ≡ false = ap is_zero (plain_first d) ∙ not_zero t.den s.0.positive in
    rw (degree_number d, some)
    (coefficients_are (λ k. quotient (terms_at (plain_entry n) k) (terms_at (plain_entry d) 0)) (number_at t) (λ k l. parts_at t k s l))

-- ---- sums with a single coefficient

pub joined_plus : (f : ℕ → Terms) (p : ℕ) (t : Terms) → ((k : ℕ) → IsShortTerms (f k)) → IsShortTerms t → f p ≡ zero_terms
    → joined Plus (tabled f) (tabled (single p t)) ≡ Ok (tabled (λ k. if k == p then t else f k))
unfolding joined
joined_plus f p t h s e =
    coefficients_are (λ k. sum (terms_at (tabled f) k) (terms_at (tabled (single p t)) k)) (λ k. if k == p then t else f k)
    (λ k l. ap₂ sum (at_tabled f k l) (at_tabled (single p t) k l) ∙ plus_if k p (eqb k p) refl f t h s e)

pub joined_minus : (f : ℕ → Terms) (p : ℕ) (t c : Terms) → ((k : ℕ) → IsShortTerms (f k)) → IsShortTerms c → c.num ≡ neg_ℤ t.num
    → c.den ≡ t.den → f p ≡ zero_terms → joined Minus (tabled f) (tabled (single p t)) ≡ Ok (tabled (λ k. if k == p then c else f k))
unfolding joined
joined_minus f p t c h s n d e =
    coefficients_are (λ k. difference (terms_at (tabled f) k) (terms_at (tabled (single p t)) k)) (λ k. if k == p then c else f k)
    (λ k l. ap₂ difference (at_tabled f k l) (at_tabled (single p t) k l) ∙ minus_if k p (eqb k p) refl f t c h s n d e)
