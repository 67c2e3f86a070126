-- Sums of terms of ascending power.
use Rattle.std.proofs.Common.{◌≡◌, ℕ, zero, suc, ◌+◌, ◌<◌, ◌≤◌, List, [], ◌∷◌, length, drop, map, refl, sym, ◌∙◌, ap, ap₂}
use Rattle.std.proofs.Common.{arith, ℤ, pos, ◌*ℤ◌, ◌<ℤ◌, unsigned_abs, Option, Some, None, Result, Ok, Err, lit≤, get_or, ◌*◌}
use Rattle.std.proofs.Common.{subst, Bool, true, false, if◌then◌else◌, inl, inr, lit<}
use Rattle.std.proofs.lemmas.Bool.{cases_eq}
use Rattle.field_core.specs.declared.place.Op.TheVariants.{Add}
use Rattle.field_core.specs.declared.ratio.Ratio.{Ratio}
use Rattle.field_core.specs.Number.{Number}
use Rattle.field_core.specs.Arithmetic.{number_zero, number_one, ◌+ε◌, ◌*ε◌}
use Rattle.field_core.specs.Laws.NumberLaws.{number_add_zero, number_multiply_assoc}
use Rattle.field_core.specs.Divisor.{gcd}
use Rattle.field_core.specs.Laws.Integers.{int_multiply_one}
use Rattle.std.proofs.Math.IntN.{*ℤ-zero}
use Rattle.std.proofs.Math.Nat.{mul-one}
use Rattle.std.specs.List.{All}
use Rattle.std.proofs.lemmas.List.Elements.{All-head, All-map, All-tail}
use Rattle.std.proofs.lemmas.List.{drop_all, drop_more, length-map, get_or-map}
use lib.IntN.{ℤ_discrete}
use Rattle.field_core.specs.Laws.Order.{number_laws, number_one_multiply, number_multiply_zero}
use Rattle.field_core.specs.Epsilon.{epsilon}
use Rattle.field_core.specs.Exact.{value_of}
use Rattle.field_core.specs.Fractions.{quotient, fraction}
use Rattle.field_core.specs.Laws.FractionLaws.{quotient-multiply, constant_nonzero}
use Rattle.field_core.specs.Laws.Effective.{positive_nonzero}
use Rattle.field_core.specs.Laws.PolynomialLaws.{coefficient-scale, multiply_comm, multiply-shift_left, nonzero-one, nonzero-multiply, positive_in, shift-same}
use Rattle.field_core.specs.declared.place.TooWide.{TooWide}
use Rattle.field_core.specs.Kind.{Parts, is_zero, or_wide}
use Rattle.field_core.specs.Polynomial.{coefficient, Same, poly_scale, poly_multiply, lowest, int_sign, IsNonZero}
use Rattle.field_core.specs.Terms.{Terms, IsReduced}
use Rattle.field_core.specs.View.{terms}
use Rattle.eps_poly.specs.Polynomials.{monomial, zero_polynomial}
use Rattle.eps_poly.proofs.Coefficients.{same_polynomials, coefficient-zero, length-zero}
use Rattle.eps_poly.proofs.OrderLaws.{all_zero, none_but_zero, order_none}
use Rattle.eps_quotient.specs.Laws.LowerLaws.{zeros_lowest}
use Rattle.eps_poly.specs.Factors.{content, from_factors}
use Rattle.eps_quotient.specs.Lowering.{one_polynomial, zero_quotient}
use Rattle.eps_quotient.specs.Polynomials.{term, sum_from, written_polynomial, polynomial_value}
use Rattle.eps_quotient.specs.Quotients.{written_sum}
use Rattle.eps_quotient.specs.Stored.{IsQuotient}
use Rattle.eps_quotient.specs.Laws.Exact.{quotients_are_exact, zero_stored}
use Rattle.eps_quotient.specs.Laws.Cuts.{monomial_some, monomial_held, monomial_core, one_core}
use Rattle.field_core.specs.Laws.LimitLaws.{lowest-first}
use Rattle.eps_quotient.specs.Laws.Multiples.{monomial-factors, monomial-at, monomial-other, one_same, gcd_nothing, content-same, content-factors}
use Rattle.eps_quotient.specs.Laws.QuotientLaws.{quotient-same, multiply-one, same_trans}
use Rattle.field_core.proofs.Results.{bind_some}
use Rattle.field_core.proofs.Wholes.{one_of_size}

-- ---- the value of a term

unfoldable power : ℕ → Number
power zero = number_one
power (suc k) = epsilon *ε power k

one_times : (p : List ℤ) → Same (poly_multiply (pos 1 ∷ []) p) p
one_times p = same_trans _ _ _ (multiply_comm (pos 1 ∷ []) p) (multiply-one p)

epsilon_times : (p q : List ℤ) → IsNonZero q → epsilon *ε quotient p q ≡ quotient (pos 0 ∷ p) q
unfolding epsilon
epsilon_times p q h =
    quotient-multiply (pos 0 ∷ pos 1 ∷ []) (pos 1 ∷ []) p q nonzero-one h
    ∙ quotient-same _ _ (pos 0 ∷ p) q (nonzero-multiply (pos 1 ∷ []) q nonzero-one h)
    (same_trans _ _ _ (multiply-shift_left (pos 1 ∷ []) p) (shift-same _ _ (one_times p))) (one_times q)

scaled_one : (c : ℤ) (k : ℕ) → c *ℤ coefficient (pos 1 ∷ []) k ≡ coefficient (c ∷ []) k
unfolding coefficient
scaled_one c zero = int_multiply_one c
scaled_one c (suc k) = *ℤ-zero c

no_factors : (c : ℤ) → Same (from_factors c 0 one_polynomial) (c ∷ [])
unfolding from_factors
no_factors c k = coefficient-scale c one_polynomial k ∙ ap (λ x. c *ℤ x) (one_same k) ∙ scaled_one c k

next_factor : (c : ℤ) (k : ℕ) (p : List ℤ) → Same (from_factors c (suc k) p) (pos 0 ∷ from_factors c k p)
unfolding from_factors poly_scale coefficient
next_factor c k p zero = *ℤ-zero c
next_factor c k p (suc j) = refl

factors_value : (c : ℤ) (k : ℕ) (d : List ℤ) → IsNonZero d → quotient (from_factors c k one_polynomial) d ≡ power k *ε quotient (c ∷ []) d
unfolding power
factors_value c zero d h = quotient-same _ d (c ∷ []) d h (no_factors c) (λ j. refl) ∙ sym (number_one_multiply _)
factors_value c (suc k) d h =
    quotient-same _ d (pos 0 ∷ from_factors c k one_polynomial) d h (next_factor c k one_polynomial) (λ j. refl)
    ∙ sym (epsilon_times (from_factors c k one_polynomial) d h) ∙ ap (λ v. epsilon *ε v) (factors_value c k d h) ∙ sym (number_multiply_assoc _ _ _)

constant_same : (d : ℤ) → Same (monomial d 0) (d ∷ [])
unfolding coefficient
constant_same d zero = monomial-at d 0 (omega arith)
constant_same d (suc k) = monomial-other d 0 (suc k) (λ e. omega arith)

term_value : (k : ℕ) (t : Terms) → k ≤ 32 → IsReduced t → value_of (term k t) ≡ power k *ε fraction t.num t.den
unfolding term value_of
term_value k t low r =
    let some = positive_nonzero t.den r.positive in
    quotient-same _ _ (from_factors t.num k one_polynomial) (t.den ∷ []) (monomial_some t.den 0 (omega arith) some) (monomial-factors t.num k low)
    (constant_same t.den)
    ∙ factors_value t.num k (t.den ∷ []) (constant_nonzero t.den some)

-- ---- a term is stored

content-monomial : (c : ℤ) (k : ℕ) → k ≤ 32 → content (monomial c k) ≡ unsigned_abs c
content-monomial c k low =
    content-same _ _ (monomial-factors c k low) ∙ content-factors c k one_polynomial ∙ ap (λ n. unsigned_abs c * n) one_core.divisor
    ∙ mul-one (unsigned_abs c)

-- the denominator of 0
zero_den : (n d : ℤ) → n ≡ pos 0 → pos 0 <ℤ d → gcd (unsigned_abs n) (unsigned_abs d) ≡ 1 → d ≡ pos 1
zero_den n d e h g = one_of_size d h (sym (gcd_nothing (unsigned_abs d)) ∙ ap (λ x. gcd (unsigned_abs x) (unsigned_abs d)) (sym e) ∙ g)

zero_number : (c : ℤ) (k : ℕ) → k ≤ 32 → lowest (monomial c k) ≡ pos 0 → c ≡ pos 0
zero_number c k low e = elim (ℤ_discrete c (pos 0)) [ yes z ↦ z | no h ↦ absurd (monomial_some c k low h e) ]

pub term_stored : (k : ℕ) (t : Terms) → k ≤ 32 → IsReduced t → IsQuotient (term k t)
unfolding term
term_stored k t low r =
    let some = positive_nonzero t.den r.positive in
    let first : coefficient (monomial t.den 0) 0 ≡ t.den = monomial-at t.den 0 (omega arith) in
    let nonzero : ¬ (coefficient (monomial t.den 0) 0 ≡ pos 0) = λ e. some (sym first ∙ e) in
    record {
      above = monomial_held t.num k low r.num_size;
      below = monomial_held t.den 0 (omega arith) r.den_size;
      positive = ap int_sign (lowest-first (monomial t.den 0) nonzero ∙ first) ∙ positive_in t.den r.positive;
      zero_over_one = λ e. ap (λ d. monomial d 0) (zero_den t.num t.den (zero_number t.num k low e) r.positive r.reduced);
      no_power = λ z. nonzero z.1;
      no_content = ap₂ gcd (content-monomial t.num k low) (content-monomial t.den 0 (omega arith)) ∙ r.reduced;
      no_core = λ e. (monomial_core t.den 0 (omega arith) some).core_of;
    }

-- ---- a term that is 0

none_at : (k : ℕ) → k ≤ 32 → monomial (pos 0) k ≡ zero_polynomial
none_at k low = same_polynomials (monomial (pos 0) k) zero_polynomial (count ∙ sym length-zero) (λ j h. each j ∙ sym (coefficient-zero j))
  where
    count : length (monomial (pos 0) k) ≡ 33
    count = (monomial_held (pos 0) k low (lit< tt)).count

    each : (j : ℕ) → coefficient (monomial (pos 0) k) j ≡ pos 0
    each j = elim (cases_eq j k) [
      | inl e ↦ rw e (monomial-at (pos 0) k low)
      | inr apart ↦ monomial-other (pos 0) k j apart
    ]

zero_term : (k : ℕ) (t : Terms) → k ≤ 32 → IsReduced t → t.num ≡ pos 0 → term k t ≡ zero_quotient
unfolding term
zero_term k t low r none =
    ap₂ (λ n d. record { numerator = n; denominator = d }) (ap (λ c. monomial c k) none ∙ none_at k low)
    (ap (λ d. monomial d 0) (zero_den t.num t.den none r.positive r.reduced))

zero_test : is_zero zero_quotient ≡ true
unfolding is_zero
zero_test = all_zero zero_polynomial (order_none zero_polynomial (λ k h. coefficient-zero k))

zero_is : (x : Parts) → IsQuotient x → is_zero x ≡ true → x ≡ zero_quotient
unfolding is_zero
zero_is x s e =
    let none = zeros_lowest x.numerator e in
    ap₂ (λ n d. record { numerator = n; denominator = d })
    (same_polynomials x.numerator zero_polynomial (s.above.count ∙ sym length-zero) (λ k h. none_but_zero x.numerator none k ∙ sym (coefficient-zero k)))
    (s.zero_over_one none)

either_zero : (b : Bool) (x : Parts) (r : Option Parts) → IsQuotient x → is_zero x ≡ b
    → (if b then Some zero_quotient else (if is_zero zero_quotient then Some x else r)) ≡ Some x
either_zero true x r s e = ap Some (sym (zero_is x s e))
either_zero false x r s e = rw zero_test refl

sum_zero : (x : Parts) → IsQuotient x → written_sum x zero_quotient ≡ Some x
unfolding written_sum
sum_zero x s = either_zero (is_zero x) x _ s refl

-- it adds nothing
pub sum_stays : (x : Parts) (k : ℕ) (t : Terms) → k ≤ 32 → IsQuotient x → IsReduced t → t.num ≡ pos 0 → written_sum x (term k t) ≡ Some x
sum_stays x k t low s r none = ap (written_sum x) (zero_term k t low r none) ∙ sum_zero x s

-- ---- the value of a sum

one_more : (s p f e r : Number) → (s +ε p *ε f) +ε (e *ε p) *ε r ≡ s +ε p *ε (f +ε e *ε r)
one_more s p f e r = simp number_laws

unfoldable AreReduced : List Terms → Type 0
AreReduced [] = Unit {0}
AreReduced (t ∷ ts) = IsReduced t × AreReduced ts

parts_inside : (x y : Parts) → Path (Option Parts) (Some x) (Some y) → x ≡ y
parts_inside x y e = cc

sum_value : (k : ℕ) (sum z : Parts) (ts : List Terms) → k + length ts ≤ 33 → IsQuotient sum → AreReduced ts → sum_from k sum ts ≡ Some z
    → value_of z ≡ value_of sum +ε power k *ε polynomial_value ts
unfolding sum_from polynomial_value power AreReduced
sum_value k sum z [] room s r e =
    ap value_of (sym (parts_inside sum z e)) ∙ sym (ap (λ v. value_of sum +ε v) (number_multiply_zero (power k)) ∙ number_add_zero (value_of sum))
sum_value k sum z (t ∷ ts) room s r e =
    let low : k ≤ 32 = omega arith in
    let more : suc k + length ts ≤ 33 = omega arith in
    let b = bind_some _ _ z e in
    let st = term_stored k t low r.0 in
    let next = quotients_are_exact.stored Add sum (term k t) b.0 s st tt b.1 in
    sum_value (suc k) b.0 z ts more next r.1 b.2
    ∙ ap (λ v. v +ε (epsilon *ε power k) *ε polynomial_value ts)
    (quotients_are_exact.exact Add sum (term k t) b.0 s st tt b.1 ∙ ap (λ v. value_of sum +ε v) (term_value k t low r.0))
    ∙ one_more (value_of sum) (power k) (fraction t.num t.den) epsilon (polynomial_value ts)

reduced_ratios : (xs : List Ratio) → AreReduced (map terms xs)
unfolding AreReduced
reduced_ratios [] = tt
reduced_ratios (x ∷ xs) = (x.valid, reduced_ratios xs)

start_value : (v : Number) → number_zero +ε number_one *ε v ≡ v
start_value v = simp number_laws

-- the written sum of five terms has the value of their polynomial
pub five_value : (xs : List Ratio) (z : Parts) → length xs ≡ 5 → written_polynomial (map terms xs) ≡ Some z
    → value_of z ≡ polynomial_value (map terms xs)
unfolding power
five_value xs z five e =
    sum_value 0 zero_quotient z (map terms xs) (rw (length-map, five) (lit≤ tt)) zero_stored (reduced_ratios xs) e
    ∙ ap (λ v. v +ε number_one *ε polynomial_value (map terms xs)) quotients_are_exact.zero_value ∙ start_value (polynomial_value (map terms xs))

pub all_ratios : (xs : List Ratio) → All IsReduced (map terms xs)
all_ratios xs = All-map IsReduced terms xs (λ k d h. (get_or xs k d).valid)

-- ---- what the code answers

pub kept : (x : Parts) (r : Option Parts) → Path (Result Parts TooWide) (Ok x) (or_wide Add r) → r ≡ Some x
kept x (Some y) e = ap Some (same e)
  where
    same : Path (Result Parts TooWide) (Ok x) (Ok y) → y ≡ x
    same e = cc
kept x None e = absurd (cc)

pub refused : (wide : TooWide) (r : Option Parts) → Path (Result Parts TooWide) (Err wide) (or_wide Add r) → r ≡ None
refused wide (Some y) e = absurd (cc)
refused wide None e = refl

-- ---- one step of the loop

pub sum_end : (sum : Parts) (k : ℕ) (ts : List Terms) → length ts ≤ k → sum_from k sum (drop k ts) ≡ Some sum
unfolding sum_from
sum_end sum k ts h = rw (drop_all k ts h) refl

step_next : (sum next : Parts) (k : ℕ) (t : Terms) (ts : List Terms) → written_sum sum (term k t) ≡ Some next
    → sum_from k sum (t ∷ ts) ≡ sum_from (suc k) next ts
unfolding sum_from
step_next sum next k t ts f = rw f refl

step_stops : (sum : Parts) (k : ℕ) (t : Terms) (ts : List Terms) → written_sum sum (term k t) ≡ None → sum_from k sum (t ∷ ts) ≡ None
unfolding sum_from
step_stops sum k t ts f = rw f refl

-- the terms that are left, the first of them apart
terms_left : (xs : List Ratio) (d : Ratio) (k : ℕ) → k < length xs → drop k (map terms xs) ≡ terms (get_or xs k d) ∷ drop (k + 1) (map terms xs)
terms_left xs d k h =
    drop_more (map terms xs) k (terms d) (rw length-map h) ∙ ap (λ t. t ∷ drop (k + 1) (map terms xs)) (get_or-map terms xs k d (terms d) h)

pub sum_next : (sum next : Parts) (k : ℕ) (xs : List Ratio) (d : Ratio) → k < length xs → written_sum sum (term k (terms (get_or xs k d))) ≡ Some next
    → sum_from k sum (drop k (map terms xs)) ≡ sum_from (k + 1) next (drop (k + 1) (map terms xs))
sum_next sum next k xs d h f =
    ap (sum_from k sum) (terms_left xs d k h) ∙ step_next sum next k (terms (get_or xs k d)) (drop (k + 1) (map terms xs)) f
    ∙ ap (λ j. sum_from j next (drop (k + 1) (map terms xs))) (one_further k)
  where
    one_further : (k : ℕ) → suc k ≡ k + 1
    one_further k = omega arith

pub sum_stops : (sum : Parts) (k : ℕ) (xs : List Ratio) (d : Ratio) → k < length xs → written_sum sum (term k (terms (get_or xs k d))) ≡ None
    → sum_from k sum (drop k (map terms xs)) ≡ None
sum_stops sum k xs d h f = ap (sum_from k sum) (terms_left xs d k h) ∙ step_stops sum k (terms (get_or xs k d)) (drop (k + 1) (map terms xs)) f

-- ---- written polynomials are exact

all_reduced : (ts : List Terms) → All IsReduced ts → AreReduced ts
unfolding AreReduced
all_reduced [] r = tt
all_reduced (t ∷ ts) r = (All-head IsReduced t ts r, all_reduced ts (All-tail IsReduced t ts r))

sum_stored : (k : ℕ) (sum z : Parts) (ts : List Terms) → k + length ts ≤ 33 → IsQuotient sum → AreReduced ts → sum_from k sum ts ≡ Some z
    → IsQuotient z
unfolding sum_from AreReduced
sum_stored k sum z [] room s r e = subst IsQuotient (parts_inside sum z e) s
sum_stored k sum z (t ∷ ts) room s r e =
    let b = bind_some _ _ z e in
    let next = quotients_are_exact.stored Add sum (term k t) b.0 s (term_stored k t (omega arith) r.0) tt b.1 in
    sum_stored (suc k) b.0 z ts (omega arith) next r.1 b.2

-- a written polynomial that isn't refused is stored
pub polynomial_stored : (ts : List Terms) (z : Parts) → length ts ≤ 33 → All IsReduced ts → written_polynomial ts ≡ Some z → IsQuotient z
polynomial_stored ts z few r e = sum_stored 0 zero_quotient z ts (omega arith) zero_stored (all_reduced ts r) e

-- and it has the value of the polynomial
pub polynomial_is : (ts : List Terms) (z : Parts) → length ts ≤ 33 → All IsReduced ts → written_polynomial ts ≡ Some z
    → value_of z ≡ polynomial_value ts
unfolding power
polynomial_is ts z few r e =
    sum_value 0 zero_quotient z ts (omega arith) zero_stored (all_reduced ts r) e
    ∙ ap (λ v. v +ε number_one *ε polynomial_value ts) quotients_are_exact.zero_value ∙ start_value (polynomial_value ts)

-- a fraction as a quotient has its value
pub constant_value : (t : Terms) → IsReduced t → value_of (term 0 t) ≡ fraction t.num t.den
unfolding power
constant_value t r = term_value 0 t (omega arith) r ∙ number_one_multiply (fraction t.num t.den)
