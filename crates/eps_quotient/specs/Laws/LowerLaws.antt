-- A lowered quotient has the value of the quotient, and no common power, content or core.
use Rattle.std.proofs.Common.{◌≡◌, ℕ, zero, suc, ◌+◌, ◌<◌, min, Bool, true, false, List, [], ◌∷◌, if◌then◌else◌, refl, sym}
use Rattle.std.proofs.Common.{◌∙◌, ap, ap₂, subst, arith, lit<, int_div, ◌-◌, ◌*ℤ◌, ◌⊎◌, ℤ, pos, negsuc, inl, inr}
use Rattle.std.specs.List.{list_all}
use Rattle.std.specs.Int.{◌∣◌}
use Rattle.eps_quotient.specs.Laws.Cores.{Is}
use Rattle.std.proofs.Math.Nat.{mul-one, eq_of_mul-eq-mul_left, min-le_left, min-le_right, eq-one_of_dvd-one}
use Rattle.field_core.specs.Divisor.{gcd}
use Rattle.field_core.proofs.Divisors.{gcd_is}
use Rattle.field_core.proofs.Coprime.{gcd_scaled, gcd_bounds}
use Rattle.field_core.specs.Kind.{Parts, is_zero_integer}
use Rattle.field_core.specs.Polynomial.{coefficient, Same, poly_multiply, lowest, or_else, IsNonZero}
use Rattle.field_core.specs.Laws.PolynomialLaws.{lowest-same, lowest-multiply}
use Rattle.std.proofs.lemmas.Bool.{cases_lt}
use Rattle.std.proofs.Math.IntN.{zero-*ℤ}
use Rattle.field_core.specs.Fractions.{quotient}
use Rattle.eps_poly.specs.Polynomials.{IsPolynomial, is_same, zero_polynomial, monomial}
use Rattle.eps_poly.specs.Factors.{content, order, factor, core, from_factors}
use Rattle.eps_poly.proofs.ContentLaws.{content_some}
use Rattle.eps_poly.proofs.OrderLaws.{coefficient-order, lowest_from_coefficient}
use Rattle.eps_poly.proofs.Validity.{zero_valid}
use Rattle.eps_poly.proofs.Coefficients.{coefficient-zero, same_from, other_from}
use Rattle.eps_quotient.specs.Laws.Multiples.{monomial-at}
use Rattle.eps_quotient.specs.Lowering.{one_polynomial, zero_quotient, common_content, common_order, without_powers, without_cores, lower}
use Rattle.eps_quotient.specs.Laws.QuotientLaws.{quotient-cancel, zero_value}
use Rattle.eps_quotient.specs.Laws.Cuts.{IsCut, cut_powers, cut_core, one_core, monomial_held, monomial_core}

-- What is lowered: it has the value of a/b, and has no common factors.
pub record IsLowered (a b : List ℤ) (x : Parts) : Type 0 where
  pub value : quotient a b ≡ quotient x.numerator x.denominator
  pub above : IsPolynomial x.numerator
  pub below : IsPolynomial x.denominator
  pub some : IsNonZero x.denominator
  pub zero_over_one : lowest x.numerator ≡ pos 0 → x.denominator ≡ one_polynomial
  pub no_power : ¬ ((coefficient x.numerator 0 ≡ pos 0) × (coefficient x.denominator 0 ≡ pos 0))
  pub no_content : common_content x.numerator x.denominator ≡ 1
  pub no_core : core x.numerator ≡ core x.denominator → core x.denominator ≡ one_polynomial

-- ---- tests

pub zeros_lowest : (p : List ℤ) → list_all is_zero_integer p ≡ true → lowest p ≡ pos 0
unfolding lowest or_else
zeros_lowest [] h = refl
zeros_lowest (pos zero ∷ p) h = zeros_lowest p h
zeros_lowest (pos (suc n) ∷ p) h = absurd (cc)
zeros_lowest (negsuc n ∷ p) h = absurd (cc)

pub others_lowest : (p : List ℤ) → list_all is_zero_integer p ≡ false → IsNonZero p
unfolding lowest or_else
others_lowest [] h e = cc
others_lowest (pos zero ∷ p) h e = others_lowest p h e
others_lowest (pos (suc n) ∷ p) h e = cc
others_lowest (negsuc n ∷ p) h e = cc

-- ---- two cuts by the common power and the common content

one_at_least : (i k j m : ℕ) → i ≡ min i k + j → k ≡ min i k + m → (j ≡ 0) ⊎ (m ≡ 0)
one_at_least i k j m e f = elim (cases_lt i k) [ inl h ↦ inl (omega arith) | inr h ↦ inr (omega arith) ]

first_some : (p : List ℤ) → IsNonZero p → order p ≡ 0 → ¬ (coefficient p 0 ≡ pos 0)
first_some p some e z = some (sym (coefficient-order p) ∙ ap (coefficient p) e ∙ z)

powers_apart : (a b p q c d : List ℤ) (h : ℕ) → IsCut a p c h (common_order a b) → IsCut b q d h (common_order a b)
    → ¬ ((coefficient p 0 ≡ pos 0) × (coefficient q 0 ≡ pos 0))
powers_apart a b p q c d h s t none = elim (one_at_least (order a) (order b) (order p) (order q) s.order_of t.order_of) [
  | inl e ↦ first_some p s.some e none.0
  | inr e ↦ first_some q t.some e none.1
]

contents_apart : (a b p q c d : List ℤ) (z : ℕ) → 0 < common_content a b → IsCut a p c (common_content a b) z → IsCut b q d (common_content a b) z
    → common_content p q ≡ 1
contents_apart a b p q c d z some s t =
    sym (eq_of_mul-eq-mul_left (common_content a b) some 1 (common_content p q)
    (mul-one (common_content a b) ∙ ap₂ gcd s.content_of t.content_of ∙ gcd_scaled (content p) (content q) (common_content a b)))

-- ---- the three ways to lower

lowered_by : (a b p q c : List ℤ) → IsNonZero b → IsNonZero c → IsCut a p c (common_content a b) (common_order a b)
    → IsCut b q c (common_content a b) (common_order a b) → (core p ≡ core q → core q ≡ one_polynomial)
    → IsLowered a b (record { numerator = p; denominator = q })
lowered_by a b p q c hb hc s t cores = record {
  value = quotient-cancel c a b p q hc t.some s.times t.times;
  above = s.held;
  below = t.held;
  some = t.some;
  zero_over_one = λ e. absurd (s.some e);
  no_power = powers_apart a b p q c c (common_content a b) s t;
  no_content = contents_apart a b p q c c (common_order a b) (gcd_bounds (content a) (content b) (content_some b hb)).0 s t;
  no_core = cores;
}

multiplier_some : (a p c : List ℤ) → Same a (poly_multiply c p) → IsNonZero a → IsNonZero c
multiplier_some a p c s some e = some (lowest-same a _ s ∙ lowest-multiply c p ∙ ap (λ x. x *ℤ lowest p) e ∙ zero-*ℤ (lowest p))

without_powers_is : (a b : List ℤ) → IsPolynomial a → IsPolynomial b → IsNonZero a → IsNonZero b → ¬ (core a ≡ core b)
    → IsLowered a b (without_powers a b)
unfolding without_powers
without_powers_is a b ka kb ha hb apart =
    let g = gcd_is (content a) (content b) in
    let s = cut_powers a (common_content a b) (common_order a b) ka ha g.0 (min-le_left (order a) (order b)) in
    let t = cut_powers b (common_content a b) (common_order a b) kb hb g.1 (min-le_right (order a) (order b)) in
    lowered_by a b _ _ _ hb (multiplier_some b _ _ t.cut.times hb) s.cut t.cut (λ e. absurd (apart (sym s.core_of ∙ e ∙ t.core_of)))

without_cores_is : (a b : List ℤ) → IsPolynomial a → IsPolynomial b → IsNonZero a → IsNonZero b → core a ≡ core b
    → IsLowered a b (without_cores a b)
unfolding without_cores
without_cores_is a b ka kb ha hb same =
    let g = gcd_is (content a) (content b) in
    let s = cut_core a (common_content a b) (common_order a b) ka ha g.0 (min-le_left (order a) (order b)) in
    let t = cut_core b (common_content a b) (common_order a b) kb hb g.1 (min-le_right (order a) (order b)) in
    let s' = subst (λ p. IsCut a (monomial (int_div (factor a) (pos (common_content a b))) (order a - common_order a b))
    (from_factors (pos (common_content a b)) (common_order a b) p) (common_content a b) (common_order a b)) same s.cut in
    lowered_by a b _ _ _ hb (multiplier_some b _ _ t.cut.times hb) s' t.cut (λ e. t.core_of)

pub without_powers_some : (a b : List ℤ) → IsPolynomial b → IsNonZero b → IsNonZero (without_powers a b).denominator
unfolding without_powers
without_powers_some a b kb hb = (cut_powers b (common_content a b) (common_order a b) kb hb
    (gcd_is (content a) (content b)).1 (min-le_right (order a) (order b))).cut.some

pub without_cores_some : (a b : List ℤ) → IsPolynomial b → IsNonZero b → IsNonZero (without_cores a b).denominator
unfolding without_cores
without_cores_some a b kb hb = (cut_core b (common_content a b) (common_order a b) kb hb
    (gcd_is (content a) (content b)).1 (min-le_right (order a) (order b))).cut.some

pub one_some : IsNonZero one_polynomial
one_some = lowest_from_coefficient one_polynomial 0 (λ e. let z = sym (monomial-at (pos 1) 0 (omega arith)) ∙ e in absurd (cc z))

pub zero_lowest : lowest zero_polynomial ≡ pos 0
zero_lowest = sym (coefficient-order zero_polynomial) ∙ coefficient-zero (order zero_polynomial)

pub one_held : IsPolynomial one_polynomial
one_held = monomial_held (pos 1) 0 (omega arith) (lit< tt)

pub one_is : Is one_polynomial (pos 1) 0 one_polynomial
one_is = monomial_core (pos 1) 0 (omega arith) (λ e. cc)

pub one_first : ¬ (coefficient one_polynomial 0 ≡ pos 0)
one_first = first_some one_polynomial one_some one_is.order_of

pub gcd_one : (n m : ℕ) → m ≡ 1 → gcd n m ≡ 1
gcd_one n m e = eq-one_of_dvd-one (subst (λ k. gcd n m ∣ k) e (gcd_is n m).1)

pub zero_quotient_is : (a b : List ℤ) → IsNonZero b → lowest a ≡ pos 0 → IsLowered a b zero_quotient
zero_quotient_is a b hb none = record {
  value = zero_value a b hb none ∙ sym (zero_value zero_polynomial one_polynomial one_some zero_lowest);
  above = zero_valid;
  below = one_held;
  some = one_some;
  zero_over_one = λ e. refl;
  no_power = λ z. one_first z.1;
  no_content = gcd_one (content zero_polynomial) (content one_polynomial) one_core.divisor;
  no_core = λ e. one_is.core_of;
}

-- what holds in both branches of a test
pub either_branch : {X : Type 0} (P : X → Type 0) (t : Bool) (x y : X) → (t ≡ true → P x) → (t ≡ false → P y) → P (if t then x else y)
either_branch P true x y f g = f refl
either_branch P false x y f g = g refl

pub lower_is : (a b : List ℤ) → IsPolynomial a → IsPolynomial b → IsNonZero b → IsLowered a b (lower a b)
unfolding lower
lower_is a b ka kb hb =
    either_branch (IsLowered a b) (list_all is_zero_integer a) _ _ (λ e. zero_quotient_is a b hb (zeros_lowest a e))
    (λ e. either_branch (IsLowered a b) (is_same (core a) (core b)) _ _
    (λ s. without_cores_is a b ka kb (others_lowest a e) hb (same_from (core a) (core b) s))
    (λ s. without_powers_is a b ka kb (others_lowest a e) hb (other_from (core a) (core b) s)))
