-- The norm of a stored quotient is the quotient itself.
use Rattle.std.proofs.Common.{◌≡◌, ℕ, ◌+◌, ◌-◌, ◌<◌, min, false, List, length, if◌then◌else◌, sym, ◌∙◌, ap, ap₂, arith, ℤ}
use Rattle.std.proofs.Common.{pos, negsuc, int_div, inl, inr}
use Rattle.std.specs.List.{list_all}
use Rattle.std.specs.Int.{is_negative}
use Rattle.std.specs.declared.cmp.Ordering.TheVariants.{Greater}
use Rattle.std.proofs.lemmas.Bool.{cases_lt}
use Rattle.std.proofs.lemmas.Bool.Decides.{nat_tests}
use Rattle.field_core.specs.Kind.{Parts, is_zero_integer}
use Rattle.field_core.specs.Polynomial.{coefficient, Same, poly_negate, lowest, int_sign, IsNonZero}
use Rattle.field_core.specs.Laws.PolynomialLaws.{same_sym}
use Rattle.eps_poly.specs.Polynomials.{is_same, zero_polynomial, monomial}
use Rattle.eps_poly.specs.Factors.{order, factor, lowered, core, from_factors}
use Rattle.eps_poly.proofs.Coefficients.{same_from, same_polynomials, length-zero, coefficient-zero}
use Rattle.eps_poly.proofs.OrderLaws.{coefficient-below_order, none_but_zero}
use Rattle.eps_poly.proofs.FactorLaws.{coefficient-lowered, core_factors}
use Rattle.eps_quotient.specs.Laws.Cores.{length-lowered}
use Rattle.eps_quotient.specs.Laws.Multiples.{length-monomial, monomial-factors}
use Rattle.field_core.proofs.Wholes.{over_one}
use Rattle.eps_quotient.specs.Lowering.{one_polynomial, zero_quotient, common_order, without_powers, without_cores, lower, turned, norm}
use Rattle.eps_quotient.specs.Stored.{IsQuotient}
use Rattle.eps_quotient.specs.Laws.QuotientLaws.{same_trans}
use Rattle.eps_quotient.specs.Laws.Cuts.{order_within}
use Rattle.eps_quotient.specs.Laws.LowerLaws.{zeros_lowest, others_lowest, either_branch}
use Rattle.eps_quotient.specs.Laws.Exact.{some_below}

-- ---- nothing is left to cut

least_none : (i k : ℕ) → ¬ ((0 < i) × (0 < k)) → min i k ≡ 0
least_none i k h = elim (cases_lt 0 i) [
  | inl a ↦ elim (cases_lt 0 k) [ inl b ↦ absurd (h (a, b)) | inr b ↦ omega arith ]
  | inr a ↦ omega arith
]

no_order : (x : Parts) → IsQuotient x → common_order x.numerator x.denominator ≡ 0
no_order x s = least_none (order x.numerator) (order x.denominator)
    (λ h. s.no_power (coefficient-below_order x.numerator 0 h.0, coefficient-below_order x.denominator 0 h.1))

lowered_again : (p : List ℤ) → length p ≡ 33 → lowered 0 (pos 1) p ≡ p
lowered_again p count =
    same_polynomials (lowered 0 (pos 1) p) p (length-lowered 0 (pos 1) p ∙ sym count)
    (λ i h. coefficient-lowered 0 (pos 1) p i count ∙ over_one (coefficient p (i + 0)) ∙ ap (coefficient p) (plus_zero i))
  where
    plus_zero : (i : ℕ) → i + 0 ≡ i
    plus_zero i = omega arith

monomial_again : (p : List ℤ) → length p ≡ 33 → IsNonZero p → core p ≡ one_polynomial → monomial (int_div (factor p) (pos 1)) (order p - 0) ≡ p
monomial_again p count some is =
    ap₂ monomial (over_one (factor p)) (minus_zero (order p))
    ∙ same_polynomials (monomial (factor p) (order p)) p (length-monomial (factor p) (order p) ∙ sym count)
    (λ i h. same_trans _ _ _ (monomial-factors (factor p) (order p) (order_within p count some)) (same_sym p _ whole) i)
  where
    minus_zero : (i : ℕ) → i - 0 ≡ i
    minus_zero i = omega arith

    whole : Same p (from_factors (factor p) (order p) one_polynomial)
    whole k = core_factors p count k ∙ ap (λ q. coefficient (from_factors (factor p) (order p) q) k) is

-- ---- the three ways to lower

pair_of : (x : Parts) (n d : List ℤ) → n ≡ x.numerator → d ≡ x.denominator → record { numerator = n; denominator = d } ≡ x
pair_of x n d e f = ap₂ (λ n d. record { numerator = n; denominator = d }) e f

zero_again : (x : Parts) → IsQuotient x → lowest x.numerator ≡ pos 0 → zero_quotient ≡ x
zero_again x s e =
    pair_of x zero_polynomial one_polynomial
    (same_polynomials zero_polynomial x.numerator (length-zero ∙ sym s.above.count) (λ k h. coefficient-zero k ∙ sym (none_but_zero x.numerator e k)))
    (sym (s.zero_over_one e))

powers_again : (x : Parts) → IsQuotient x → without_powers x.numerator x.denominator ≡ x
unfolding without_powers
powers_again x s =
    pair_of x _ _
    (ap₂ (λ z h. lowered z (pos h) x.numerator) (no_order x s) s.no_content ∙ lowered_again x.numerator s.above.count)
    (ap₂ (λ z h. lowered z (pos h) x.denominator) (no_order x s) s.no_content ∙ lowered_again x.denominator s.below.count)

cores_again : (x : Parts) → IsQuotient x → IsNonZero x.numerator → core x.numerator ≡ core x.denominator
    → without_cores x.numerator x.denominator ≡ x
unfolding without_cores
cores_again x s some same =
    let one_below = s.no_core same in
    pair_of x _ _
    (ap₂ (λ z h. monomial (int_div (factor x.numerator) (pos h)) (order x.numerator - z)) (no_order x s) s.no_content
    ∙ monomial_again x.numerator s.above.count some (same ∙ one_below))
    (ap₂ (λ z h. monomial (int_div (factor x.denominator) (pos h)) (order x.denominator - z)) (no_order x s) s.no_content
    ∙ monomial_again x.denominator s.below.count (some_below x s) one_below)

lower_again : (x : Parts) → IsQuotient x → lower x.numerator x.denominator ≡ x
unfolding lower
lower_again x s =
    either_branch (λ r. r ≡ x) (list_all is_zero_integer x.numerator) _ _ (λ e. zero_again x s (zeros_lowest x.numerator e))
    (λ e. either_branch (λ r. r ≡ x) (is_same (core x.numerator) (core x.denominator)) _ _
    (λ h. cores_again x s (others_lowest x.numerator e) (same_from (core x.numerator) (core x.denominator) h))
    (λ h. powers_again x s))

upright : (z : ℤ) → int_sign z ≡ Greater → is_negative z ≡ false
unfolding int_sign
upright (pos n) e = grind (arith, nat_tests)
upright (negsuc n) e = absurd (cc)

turned_again : (x : Parts) → IsQuotient x → turned x ≡ x
unfolding turned
turned_again x s = ap (λ b. if b then record { numerator = poly_negate x.numerator; denominator = poly_negate x.denominator } else x)
    (upright (lowest x.denominator) s.positive)

pub norm_again : (x : Parts) → IsQuotient x → norm x.numerator x.denominator ≡ x
unfolding norm
norm_again x s = ap turned (lower_again x s) ∙ turned_again x s
