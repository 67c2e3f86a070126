-- What the norm of two polynomials gives is stored, and has the value of their quotient.
use Rattle.std.proofs.lemmas.Int.{ints}
use Rattle.field_core.specs.Laws.Integers.{integers}
use Rattle.std.proofs.Common.{◌≡◌, ℕ, zero, suc, ◌+◌, ◌*ℤ◌, true, false, List, length, refl, sym, ◌∙◌, ap, ap₂, arith, ℤ, pos}
use Rattle.std.proofs.Common.{negsuc, neg_ℤ, unsigned_abs}
use Rattle.std.specs.Int.{is_negative}
use Rattle.std.specs.Ordering.{ordering_reverse}
use Rattle.std.specs.declared.cmp.Ordering.TheVariants.{Less, Greater}
use Rattle.field_core.specs.Divisor.{gcd}
use Rattle.field_core.proofs.Wholes.{size_negated}
use Rattle.field_core.specs.Kind.{Parts}
use Rattle.field_core.specs.Exact.{value_of}
use Rattle.field_core.specs.Laws.Ring.{negate_multiply, multiply_negate}
use Rattle.field_core.specs.Polynomial.{coefficient, poly_negate, lowest, int_sign, IsNonZero}
use Rattle.field_core.specs.Laws.PolynomialLaws.{ring, value-multiply, value-negate, same_in, coefficient-negate, lowest-negate, int_sign-negate}
use Rattle.field_core.specs.Fractions.{quotient}
use Rattle.field_core.specs.Laws.FractionLaws.{quotient-equal}
use Rattle.eps_poly.specs.Polynomials.{IsPolynomial}
use Rattle.eps_poly.specs.Factors.{content, order, factor, core}
use Rattle.eps_poly.proofs.OrderLaws.{coefficient-order}
use Rattle.eps_poly.proofs.Validity.{negate_valid}
use Rattle.eps_poly.proofs.Coefficients.{length-negate}
use Rattle.eps_poly.proofs.FactorLaws.{coefficient-factors_below, core_is, core_factors}
use Rattle.eps_quotient.specs.Laws.Cores.{only_core, length-core}
use Rattle.eps_quotient.specs.Laws.Multiples.{factors-at, same_factors, monomial-at, content-sizes}
use Rattle.eps_quotient.specs.Lowering.{one_polynomial, lower, turned, norm}
use Rattle.eps_quotient.specs.Stored.{IsQuotient}
use Rattle.eps_quotient.specs.Laws.LowerLaws.{IsLowered, lower_is, either_branch, one_is}

-- ---- opposites

pub negated_none : (z : ℤ) → neg_ℤ z ≡ pos 0 → z ≡ pos 0
negated_none (pos zero) e = refl
negated_none (pos (suc n)) e = absurd (cc)
negated_none (negsuc n) e = absurd (cc)

size-coefficient : (p : List ℤ) (k : ℕ) → unsigned_abs (coefficient (poly_negate p) k) ≡ unsigned_abs (coefficient p k)
size-coefficient p k = ap unsigned_abs (coefficient-negate p k) ∙ size_negated (coefficient p k)

pub negate_some : (p : List ℤ) → IsNonZero p → IsNonZero (poly_negate p)
negate_some p some e = some (negated_none (lowest p) (sym (lowest-negate p) ∙ e))

pub content-negate : (p : List ℤ) → content (poly_negate p) ≡ content p
content-negate p = content-sizes (poly_negate p) p (size-coefficient p)

negated_product : (c x : ℤ) → neg_ℤ (c *ℤ x) ≡ neg_ℤ c *ℤ x
unfolding integers
negated_product c x = sym (negate_multiply integers c x)

pub core-negate : (p : List ℤ) → length p ≡ 33 → IsNonZero p → core (poly_negate p) ≡ core p
core-negate p count some =
    let whole = core_factors p count in
    (only_core (poly_negate p) (core p) (neg_ℤ (factor p)) (order p) (length-negate p ∙ count) (negate_some p some) (length-core p) (core_is p count some)
    (same_factors (poly_negate p) (core p) (neg_ℤ (factor p)) (order p)
    (λ j h. coefficient-negate p j ∙ ap neg_ℤ (whole j ∙ coefficient-factors_below (factor p) (order p) j (core p) h))
    (λ j. coefficient-negate p (j + order p) ∙ ap neg_ℤ (whole (j + order p) ∙ factors-at (factor p) (order p) (core p) j)
    ∙ negated_product (factor p) (coefficient (core p) j)))).core_of

-- both negated
pub quotient-negated : (n d : List ℤ) → IsNonZero d → quotient (poly_negate n) (poly_negate d) ≡ quotient n d
quotient-negated n d h =
    quotient-equal (poly_negate n) (poly_negate d) n d (negate_some d h) h
    (same_in _ _ (simp (value-multiply, value-negate) (negate_multiply ring _ _ ∙ sym (multiply_negate ring _ _))))

-- ---- signs

negative_sign : (z : ℤ) → is_negative z ≡ true → int_sign z ≡ Less
unfolding int_sign
negative_sign (pos n) e = absurd (omega (arith, ints))
negative_sign (negsuc n) e = refl

positive_sign : (z : ℤ) → is_negative z ≡ false → ¬ (z ≡ pos 0) → int_sign z ≡ Greater
unfolding int_sign
positive_sign (pos zero) e h = absurd (h refl)
positive_sign (pos (suc n)) e h = refl
positive_sign (negsuc n) e h = absurd (cc)

-- ---- the norm

-- What is stored of a/b.
pub record IsStoredOf (a b : List ℤ) (x : Parts) : Type 0 where
  pub stored : IsQuotient x
  pub value : quotient a b ≡ value_of x

pub upright : (a b : List ℤ) (x : Parts) → IsLowered a b x → is_negative (lowest x.denominator) ≡ false → IsStoredOf a b x
unfolding value_of
upright a b x s e = record {
  stored = record {
    above = s.above;
    below = s.below;
    positive = positive_sign (lowest x.denominator) e s.some;
    zero_over_one = s.zero_over_one;
    no_power = s.no_power;
    no_content = s.no_content;
    no_core = s.no_core;
  };
  value = s.value;
}

pub lowest_one : lowest one_polynomial ≡ pos 1
lowest_one = sym (coefficient-order one_polynomial) ∙ ap (coefficient one_polynomial) one_is.order_of ∙ monomial-at (pos 1) 0 (omega arith)

-- a denominator with a negative lowest coefficient isn't 1, so the numerator isn't 0
negative_some : (a b : List ℤ) (x : Parts) → IsLowered a b x → is_negative (lowest x.denominator) ≡ true → IsNonZero x.numerator
negative_some a b x s e z =
    let f : is_negative (lowest x.denominator) ≡ false = ap (λ d. is_negative (lowest d)) (s.zero_over_one z) ∙ ap is_negative lowest_one in
    cc

negated : (a b : List ℤ) (x : Parts) → IsLowered a b x → is_negative (lowest x.denominator) ≡ true
    → IsStoredOf a b (record { numerator = poly_negate x.numerator; denominator = poly_negate x.denominator })
unfolding value_of
negated a b x s e = record {
  stored = record {
    above = negate_valid x.numerator s.above;
    below = negate_valid x.denominator s.below;
    positive = ap int_sign (lowest-negate x.denominator) ∙ int_sign-negate (lowest x.denominator)
        ∙ ap ordering_reverse (negative_sign (lowest x.denominator) e);
    zero_over_one = λ z. absurd (negative_some a b x s e (negated_none _ (sym (lowest-negate x.numerator) ∙ z)));
    no_power = λ z. s.no_power (
      negated_none _ (sym (coefficient-negate x.numerator 0) ∙ z.0),
      negated_none _ (sym (coefficient-negate x.denominator 0)
          ∙ z.1),
    );
    no_content = ap₂ gcd (content-negate x.numerator) (content-negate x.denominator) ∙ s.no_content;
    no_core = λ z.
        let below = core-negate x.denominator s.below.count s.some in
        below ∙ s.no_core (sym (core-negate x.numerator s.above.count (negative_some a b x s e)) ∙ z ∙ below);
  };
  value = s.value ∙ sym (quotient-negated x.numerator x.denominator s.some);
}

pub norm_is : (a b : List ℤ) → IsPolynomial a → IsPolynomial b → IsNonZero b → IsStoredOf a b (norm a b)
unfolding norm turned
norm_is a b ka kb hb =
    let s = lower_is a b ka kb hb in
    either_branch (IsStoredOf a b) (is_negative (lowest (lower a b).denominator)) _ _ (λ e. negated a b (lower a b) s e) (λ e. upright a b (lower a b) s e)
