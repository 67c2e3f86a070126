-- Polynomials and their factors.
use Rattle.std.proofs.Common.{◌≡◌, ◌≢◌, ℕ, zero, suc, ◌+◌, ◌-◌, ◌*◌, ◌/◌, ◌<◌, ◌≤◌, List, ◌++◌, length, replicate}
use Rattle.std.proofs.Common.{refl, sym, ◌∙◌, ap, subst, arith, ℤ, pos, negsuc, neg_ℤ, ◌*ℤ◌, ◌<ℤ◌, unsigned_abs, int_div, inl, inr}
use Rattle.std.specs.Int.{◌∣◌}
use Rattle.std.proofs.lemmas.Bool.{cases_lt}
use Rattle.std.proofs.lemmas.Int.{ints, unsigned_abs-mul}
use Rattle.std.proofs.lemmas.Nat.Gcd.{dvd_trans, dvd_refl, dvd-zero}
use Rattle.std.proofs.Math.Nat.{zero-add, one-mul, mul-one, mul-div_cancel', dvd-mul_right, dvd_of_mul-dvd-mul_left, mul-dvd-mul_right}
use Rattle.std.proofs.Math.Nat.{dvd_of_mul-dvd-mul_right, eq-one_of_dvd-one}
use lib.IntN.{*ℤ-zero}
use Rattle.std.proofs.Math.IntN.{*ℤ_comm}
use Rattle.field_core.specs.Polynomial.{coefficient, Same, poly_negate, lowest, IsNonZero}
use Rattle.field_core.proofs.Wholes.{quotient_times, size_negated, size_some, size_none}
use Rattle.field_core.specs.Laws.Integers.{integers}
use Rattle.field_core.specs.Laws.Ring.{negate_multiply, negate_negate}
use Rattle.field_core.specs.Laws.PolynomialLaws.{coefficient-scale, coefficient-negate, product_nonzero}
use Rattle.eps_poly.specs.Polynomials.{by_powers}
use Rattle.eps_poly.specs.Factors.{content, order, factor, signed_as, turned_as, lowered, from_factors, IsCore, core}
use Rattle.eps_poly.proofs.Coefficients.{coefficient-past, length-by_powers, coefficient-by_powers, length-negate}
use Rattle.eps_poly.proofs.ContentLaws.{content_divides, content_greatest, content_some}
use Rattle.eps_poly.proofs.IntegerQuotients.{int_div-zero, int_div_exact}
use Rattle.eps_poly.specs.Written.{degree}
use Rattle.eps_poly.proofs.DegreeLaws.{coefficient-above_degree, coefficient-degree, degree_at_least, degree_at_most}
use Rattle.eps_poly.proofs.OrderLaws.{coefficient-below_order, coefficient-order, lowest_from_coefficient, order_is}
use Rattle.eps_poly.proofs.Signs.{signed_below, signed_above, turned_below, turned_above}

-- ---- coefficients of c * epsilon^k * P

raised_below : (k i : ℕ) (p : List ℤ) → i < k → coefficient (replicate k (pos 0) ++ p) i ≡ pos 0
unfolding coefficient
raised_below zero i p h = absurd (omega arith)
raised_below (suc k) zero p h = refl
raised_below (suc k) (suc i) p h = raised_below k i p (omega arith)

raised_above : (k i m : ℕ) (p : List ℤ) → m ≡ i + k → coefficient (replicate k (pos 0) ++ p) m ≡ coefficient p i
unfolding coefficient
raised_above zero i m p e = ap (coefficient p) (omega arith)
raised_above (suc k) i zero p e = absurd (omega arith)
raised_above (suc k) i (suc m) p e = raised_above k i m p (omega arith)

pub coefficient-factors_below : (c : ℤ) (k i : ℕ) (p : List ℤ) → i < k → coefficient (from_factors c k p) i ≡ pos 0
unfolding from_factors
coefficient-factors_below c k i p h =
    coefficient-scale c (replicate k (pos 0) ++ p) i ∙ ap (λ x. c *ℤ x) (raised_below k i p h) ∙ *ℤ-zero c

pub coefficient-factors : (c : ℤ) (k i m : ℕ) (p : List ℤ) → m ≡ i + k → coefficient (from_factors c k p) m ≡ c *ℤ coefficient p i
unfolding from_factors
coefficient-factors c k i m p e =
    coefficient-scale c (replicate k (pos 0) ++ p) m ∙ ap (λ x. c *ℤ x) (raised_above k i m p e)

pub coefficient-lowered : (k : ℕ) (by : ℤ) (p : List ℤ) (i : ℕ) → length p ≡ 33
    → coefficient (lowered k by p) i ≡ int_div (coefficient p (i + k)) by
unfolding lowered
coefficient-lowered k by p i long =
    let value : ℕ → ℤ = λ j. int_div (coefficient p (j + k)) by in
    elim (cases_lt i 33) [
      | inl h ↦ coefficient-by_powers value i h
      | inr h ↦ coefficient-past (by_powers value) i (omega (arith, length-by_powers value))
          ∙ sym (ap (λ x. int_div x by) (coefficient-past p (i + k) (omega arith)) ∙ int_div-zero by)
    ]

-- what is lowered by a common divisor and a common power is that, times them
pub lowered_factors : (k h : ℕ) (p : List ℤ) → length p ≡ 33 → h ∣ content p → k ≤ order p
    → Same p (from_factors (pos h) k (lowered k (pos h) p))
lowered_factors k h p long divides within i = elim (cases_lt i k) [
  | inl l ↦ coefficient-below_order p i (omega arith) ∙ sym (coefficient-factors_below (pos h) k i (lowered k (pos h) p) l)
  | inr l ↦ let back : (i - k) + k ≡ i = omega arith in
      sym (coefficient-factors (pos h) k (i - k) i (lowered k (pos h) p) (sym back)
      ∙ ap (λ x. pos h *ℤ x) (coefficient-lowered k (pos h) p (i - k) long ∙ ap (λ m. int_div (coefficient p m) (pos h)) back)
      ∙ *ℤ_comm (pos h) (int_div (coefficient p i) (pos h))
      ∙ quotient_times (coefficient p i) h (dvd_trans h divides (content_divides p i)))
]

-- ---- the core

opposite_times : (g x z : ℤ) → x *ℤ g ≡ neg_ℤ z → neg_ℤ g *ℤ x ≡ z
unfolding integers
opposite_times g x z e = negate_multiply integers g x ∙ ap neg_ℤ (*ℤ_comm g x ∙ e) ∙ negate_negate integers z

pub length-turned : (s : ℤ) (p : List ℤ) → length (turned_as s p) ≡ length p
length-turned (pos n) p = refl
length-turned (negsuc n) p = length-negate p

turned_size : (s : ℤ) (p : List ℤ) (i : ℕ) → unsigned_abs (coefficient (turned_as s p) i) ≡ unsigned_abs (coefficient p i)
turned_size (pos n) p i = refl
turned_size (negsuc n) p i = ap unsigned_abs (coefficient-negate p i) ∙ size_negated (coefficient p i)

-- a coefficient of the core, times the content
core_times : (s : ℤ) (p : List ℤ) (i : ℕ) → length p ≡ 33
    → coefficient (lowered (order p) (pos (content p)) (turned_as s p)) i *ℤ pos (content p) ≡ coefficient (turned_as s p) (i + order p)
core_times s p i long =
    let t = turned_as s p in
    let divides : content p ∣ unsigned_abs (coefficient t (i + order p)) =
    subst (λ n. content p ∣ n) (sym (turned_size s p (i + order p))) (content_divides p (i + order p)) in
    ap (λ x. x *ℤ pos (content p)) (coefficient-lowered (order p) (pos (content p)) t i (length-turned s p ∙ long))
    ∙ quotient_times (coefficient t (i + order p)) (content p) divides

signed_factors : (s : ℤ) (p : List ℤ) → length p ≡ 33
    → Same p (from_factors (signed_as s (content p)) (order p) (lowered (order p) (pos (content p)) (turned_as s p)))
signed_factors (pos n) p long i = lowered_factors (order p) (content p) p long (dvd_refl (content p)) (omega arith) i
signed_factors (negsuc n) p long i =
    let k = order p in
    let g = pos (content p) in
    let q = lowered k g (poly_negate p) in
    elim (cases_lt i k) [
      | inl l ↦ coefficient-below_order p i l ∙ sym (coefficient-factors_below (neg_ℤ g) k i q l)
      | inr l ↦ let back : (i - k) + k ≡ i = omega arith in
          sym (coefficient-factors (neg_ℤ g) k (i - k) i q (sym back)
          ∙ opposite_times g (coefficient q (i - k)) (coefficient p i)
          (core_times (negsuc n) p (i - k) long ∙ coefficient-negate p ((i - k) + k) ∙ ap (λ m. neg_ℤ (coefficient p m)) back))
    ]

-- a polynomial is the product of its factors
pub core_factors : (p : List ℤ) → length p ≡ 33 → Same p (from_factors (factor p) (order p) (core p))
unfolding factor core
core_factors p long = signed_factors (lowest p) p long

positive_part : (x : ℤ) (g : ℕ) (t : ℤ) → x *ℤ pos g ≡ t → pos 0 <ℤ t → pos 0 <ℤ x
positive_part (pos zero) g t e h = absurd (omega (arith, ints))
positive_part (pos (suc n)) g t e h = omega (arith, ints)
positive_part (negsuc n) g t e h = absurd (omega (arith, ints))

turned_first : (s : ℤ) (p : List ℤ) → s ≢ pos 0 → s ≡ lowest p → pos 0 <ℤ coefficient (turned_as s p) (order p)
turned_first (pos zero) p some e = absurd (some refl)
turned_first (pos (suc n)) p some e = rw (coefficient-order p, ← e) (omega (arith, ints))
turned_first (negsuc n) p some e = rw (coefficient-negate p (order p), coefficient-order p, ← e) (omega (arith, ints))

-- the coefficients of a core have no common divisor
core_divisor : (s : ℤ) (p : List ℤ) → length p ≡ 33 → IsNonZero p → content (lowered (order p) (pos (content p)) (turned_as s p)) ≡ 1
core_divisor s p long some =
    let q = lowered (order p) (pos (content p)) (turned_as s p) in
    let d = content q in
    let g = content p in
    let each : (i : ℕ) → d * g ∣ unsigned_abs (coefficient p i) = λ i. elim (cases_lt i (order p)) [
      | inl l ↦ rw (coefficient-below_order p i l) (dvd-zero (d * g))
      | inr l ↦ let back : (i - order p) + order p ≡ i = omega arith in
          let size : unsigned_abs (coefficient q (i - order p)) * g ≡ unsigned_abs (coefficient p i) =
          sym (unsigned_abs-mul (coefficient q (i - order p)) (pos g)) ∙ ap unsigned_abs (core_times s p (i - order p) long)
          ∙ turned_size s p ((i - order p) + order p) ∙ ap (λ m. unsigned_abs (coefficient p m)) back in
          subst (λ n. d * g ∣ n) size (mul-dvd-mul_right d (content_divides q (i - order p)) g)
    ] in
    let all : d * g ∣ 1 * g = subst (λ n. d * g ∣ n) (sym (one-mul g)) (content_greatest p (d * g) each) in
    eq-one_of_dvd-one (dvd_of_mul-dvd-mul_right d (content_some p some) all)

pub core_is : (p : List ℤ) → length p ≡ 33 → IsNonZero p → IsCore (core p)
unfolding core
core_is p long some = record {
  divisor = core_divisor (lowest p) p long some;
  first = positive_part (coefficient (lowered (order p) (pos (content p)) (turned_as (lowest p) p)) 0) (content p) _ (core_times (lowest p) p 0 long)
      (rw zero-add (turned_first (lowest p) p some refl));
}

-- the degree of the core is what is above the least power
pub degree-core : (p : List ℤ) → length p ≡ 33 → IsNonZero p → degree (core p) + order p ≡ degree p
degree-core p long some =
    let q = core p in
    let c = factor p in
    let k = order p in
    let whole = core_factors p long in
    let first = (core_is p long some).first in
    let left : IsNonZero q = lowest_from_coefficient q 0 (λ none. absurd (let low : pos 0 <ℤ pos 0 = rw none at first in omega (arith, ints))) in
    let factor_some : c ≢ pos 0 =
    λ none. some (sym (coefficient-order p) ∙ whole k ∙ coefficient-factors c k 0 k q (omega arith) ∙ rw none (omega (arith, ints))) in
    let low = degree_at_least p (degree q + k)
    (λ none. product_nonzero c (coefficient q (degree q)) factor_some (coefficient-degree q left)
    (sym (whole (degree q + k) ∙ coefficient-factors c k (degree q) (degree q + k) q refl) ∙ none)) in
    let high = degree_at_most p (degree q + k)
    (λ j h. whole j ∙ coefficient-factors c k (j - k) j q (omega arith) ∙ rw (coefficient-above_degree q (j - k) (omega arith)) (*ℤ-zero c)) in
    omega arith

-- ---- there is one way only

-- a factor above 0 changes no sign
sign_kept : (c d : ℤ) → pos 0 <ℤ d → c ≢ pos 0 → signed_as (c *ℤ d) (unsigned_abs c) ≡ c
sign_kept (pos zero) d h some = absurd (some refl)
sign_kept (pos (suc a)) (pos zero) h some = absurd (omega (arith, ints))
sign_kept (pos (suc a)) (pos (suc b)) h some = signed_above (pos (suc a) *ℤ pos (suc b)) (suc a) (λ low. absurd (omega (arith, ints)))
sign_kept (pos (suc a)) (negsuc b) h some = absurd (omega (arith, ints))
sign_kept (negsuc a) (pos zero) h some = absurd (omega (arith, ints))
sign_kept (negsuc a) (pos (suc b)) h some = signed_below (negsuc a *ℤ pos (suc b)) (suc a) (omega (arith, ints))
sign_kept (negsuc a) (negsuc b) h some = absurd (omega (arith, ints))

turn_kept : (c d : ℤ) (p : List ℤ) → pos 0 <ℤ d → c ≢ pos 0 → turned_as (c *ℤ d) p ≡ turned_as c p
turn_kept (pos zero) d p h some = absurd (some refl)
turn_kept (pos (suc a)) (pos zero) p h some = absurd (omega (arith, ints))
turn_kept (pos (suc a)) (pos (suc b)) p h some = turned_above (pos (suc a) *ℤ pos (suc b)) p (λ low. absurd (omega (arith, ints)))
turn_kept (pos (suc a)) (negsuc b) p h some = absurd (omega (arith, ints))
turn_kept (negsuc a) (pos zero) p h some = absurd (omega (arith, ints))
turn_kept (negsuc a) (pos (suc b)) p h some = turned_below (negsuc a *ℤ pos (suc b)) p (omega (arith, ints))
turn_kept (negsuc a) (negsuc b) p h some = absurd (omega (arith, ints))

-- a coefficient of c * q, with the sign of c taken off
turned_multiple : (c x : ℤ) (p : List ℤ) (m : ℕ) → coefficient p m ≡ c *ℤ x → coefficient (turned_as c p) m ≡ x *ℤ pos (unsigned_abs c)
turned_multiple (pos a) x p m e = e ∙ *ℤ_comm (pos a) x
turned_multiple (negsuc a) x p m e = coefficient-negate p m ∙ ap neg_ℤ e ∙ opposite_of a x
  where
    opposite_of : (a : ℕ) (x : ℤ) → neg_ℤ (negsuc a *ℤ x) ≡ x *ℤ pos (suc a)
    opposite_of a x = omega (arith, ints)

pos_inside : (a b : ℕ) → pos a ≡ pos b → a ≡ b
pos_inside a b e = cc

-- what is known of p where it is c * epsilon^k * q
module _ (p q : List ℤ) (c : ℤ) (k : ℕ) (long : length p ≡ 33) (some : IsNonZero p) (is : IsCore q) (same : Same p (from_factors c k q)) where
  below : (i : ℕ) → i < k → coefficient p i ≡ pos 0
  below i h = same i ∙ coefficient-factors_below c k i q h

  above : (i m : ℕ) → m ≡ i + k → coefficient p m ≡ c *ℤ coefficient q i
  above i m e = same m ∙ coefficient-factors c k i m q e

  number_some : c ≢ pos 0
  number_some none = some (sym (coefficient-order p) ∙ elim (cases_lt (order p) k) [
    | inl l ↦ below (order p) l
    | inr l ↦ above (order p - k) (order p) (omega arith) ∙ rw none (omega (arith, ints))
  ])

  first_some : coefficient q 0 ≢ pos 0
  first_some none = let high = is.first in absurd (let low : pos 0 <ℤ pos 0 = rw none at high in omega (arith, ints))

  order_only : order p ≡ k
  order_only = order_is p k below (λ none. product_nonzero c (coefficient q 0) number_some first_some (sym (above 0 k (omega arith)) ∙ none))

  -- the size of c
  size_divides : (i : ℕ) → unsigned_abs c ∣ unsigned_abs (coefficient p i)
  size_divides i = elim (cases_lt i k) [
    | inl l ↦ rw (below i l) (dvd-zero (unsigned_abs c))
    | inr l ↦ rw (above (i - k) i (omega arith), unsigned_abs-mul) (dvd-mul_right (unsigned_abs c) (unsigned_abs (coefficient q (i - k))))
  ]

  content_only : content p ≡ unsigned_abs c
  content_only =
      let n = unsigned_abs c in
      let e = content p / n in
      let split : n * e ≡ content p = mul-div_cancel' n (content_greatest p n size_divides) in
      let each : (j : ℕ) → e ∣ unsigned_abs (coefficient q j) = λ j.
      let size : unsigned_abs (coefficient p (j + k)) ≡ n * unsigned_abs (coefficient q j) = ap unsigned_abs (above j (j + k) refl)
      ∙ unsigned_abs-mul c (coefficient q j) in
      let all : n * e ∣ n * unsigned_abs (coefficient q j) = rw (split, ← size) (content_divides p (j + k)) in
      dvd_of_mul-dvd-mul_left e (size_some c number_some) all in
      let one : e ≡ 1 = eq-one_of_dvd-one (subst (λ m. e ∣ m) is.divisor (content_greatest q e each)) in
      sym split ∙ ap (λ m. n * m) one ∙ mul-one n

  lowest_only : lowest p ≡ c *ℤ coefficient q 0
  lowest_only = sym (coefficient-order p) ∙ ap (coefficient p) order_only ∙ above 0 k (omega arith)

  pub factor_only : c ≡ factor p
  unfolding factor
  factor_only = sym (rw (lowest_only, content_only) (sign_kept c (coefficient q 0) is.first number_some))

  pub power_only : k ≡ order p
  power_only = sym order_only

  pub core_only : Same q (core p)
  unfolding core
  core_only j =
      let g = pos (unsigned_abs c) in
      let t = turned_as c p in
      let turn : turned_as (lowest p) p ≡ t = ap (λ z. turned_as z p) lowest_only ∙ turn_kept c (coefficient q 0) p is.first number_some in
      let divisor : g ≢ pos 0 = λ none. number_some (size_none c (pos_inside (unsigned_abs c) 0 none)) in
      let value : coefficient (lowered k g t) j ≡ coefficient q j =
      coefficient-lowered k g t j (length-turned c p ∙ long)
      ∙ ap (λ x. int_div x g) (turned_multiple c (coefficient q j) p (j + k) (above j (j + k) refl)) ∙ int_div_exact (coefficient q j) g divisor in
      sym (rw (order_only, content_only, turn) value)
