-- The limit of a quotient from 0 to 1 is the quotient of the coefficients of power 0, in lowest terms.
use Rattle.std.proofs.Common.{◌≡◌, refl, sym, ◌∙◌, ap, ap₂, zero, suc, List, [], ◌∷◌, ℤ, pos, negsuc, ◌+ℤ◌, ◌*ℤ◌}
use Rattle.std.proofs.Common.{◌<ℤ◌, neg_ℤ, unsigned_abs, int_div, ◌<◌, ◌^◌, arith}
use Rattle.std.proofs.lemmas.Int.{ints}
use Rattle.std.proofs.Math.Nat.{div-le_self}
use Rattle.std.specs.declared.cmp.Ordering.TheVariants.{Less, Greater}
use Rattle.field_core.specs.Divisor.{gcd}
use Rattle.field_core.specs.Sized.{gcd_of}
use Rattle.field_core.specs.Terms.{IsReduced}
use Rattle.field_core.specs.Polynomial.{coefficient, poly_add, poly_negate, lowest, int_sign, IsNonZero}
use Rattle.field_core.specs.Laws.PolynomialLaws.{coefficient-add, coefficient-negate, positive_out}
use Rattle.field_core.specs.Arithmetic.{number_one, number_sign, ◌+ε◌, ◌-ε◌}
use Rattle.field_core.specs.Limit.{limit}
use Rattle.field_core.specs.LimitParts.{first, limit_terms, IsUnit}
use Rattle.field_core.specs.Fractions.{quotient, fraction}
use Rattle.field_core.specs.Laws.LimitLaws.{limit-quotient, lowest-first, ratio_at}
use Rattle.field_core.specs.Laws.NumberFieldLaws.{at_most_out}
use Rattle.field_core.specs.Laws.Order.{nonneg_in, number_subtract_is}
use Rattle.field_core.specs.Laws.FractionLaws.{quotient-negate, fraction-equal}
use Rattle.field_core.specs.Laws.Effective.{positive_nonzero}
use Rattle.field_core.proofs.Divisors.{gcd_is}
use Rattle.field_core.proofs.IntegerRing.{ring}
use Rattle.std.proofs.Math.IntN.{+ℤ_idl}
use Rattle.field_core.proofs.Coprime.{gcd_from_apart, quotients_apart, gcd_bounds}
use Rattle.field_core.proofs.Wholes.{quotient_times, size_positive, size_quotient, quotient_positive}
use Rattle.eps_quotient.specs.Laws.QuotientLaws.{one_value, sum_over_same, sign_value}

pub first_is : (p : List ℤ) → first p ≡ coefficient p 0
unfolding coefficient
first_is [] = refl
first_is (c ∷ p) = refl

-- ---- what lies from 0 to 1 has a coefficient of power 0 below, where it has one above or below

one_less : (n d : List ℤ) → IsNonZero d → number_one -ε quotient n d ≡ quotient (poly_add d (poly_negate n)) d
one_less n d h =
    number_subtract_is number_one (quotient n d)
    ∙ ap₂ ◌+ε◌ (sym (one_value d h)) (quotient-negate n d h)
    ∙ sym (sum_over_same d (poly_negate n) d (poly_add d (poly_negate n)) h (λ k. refl))

signs_apart : (c : ℤ) → ¬ (c ≡ pos 0) → ¬ (int_sign c ≡ Less) → int_sign (pos 0 +ℤ neg_ℤ c) ≡ Less
unfolding int_sign
signs_apart (pos zero) h g = absurd (h refl)
signs_apart (pos (suc n)) h g = ap int_sign (+ℤ_idl (neg_ℤ (pos (suc n))))
signs_apart (negsuc n) h g = absurd (g refl)

other_nonzero : (c : ℤ) → ¬ (c ≡ pos 0) → ¬ (pos 0 +ℤ neg_ℤ c ≡ pos 0)
other_nonzero c h e = h (omega (arith, ints))

pub first_below : (n d : List ℤ) → IsNonZero d → int_sign (lowest d) ≡ Greater → ¬ ((coefficient n 0 ≡ pos 0) × (coefficient d 0 ≡ pos 0))
    → IsUnit (quotient n d) → ¬ (coefficient d 0 ≡ pos 0)
first_below n d h up some unit z =
    let c = coefficient n 0 in
    let other : ¬ (c ≡ pos 0) = λ e. some (e, z) in
    let above : ¬ (int_sign c ≡ Less) = λ e. nonneg_in (quotient n d) (at_most_out _ _ unit.low)
    (sign_value n d up h ∙ ap int_sign (lowest-first n other) ∙ e) in
    let head : coefficient (poly_add d (poly_negate n)) 0 ≡ pos 0 +ℤ neg_ℤ c =
    coefficient-add d (poly_negate n) 0 ∙ ap₂ ◌+ℤ◌ z (coefficient-negate n 0) in
    (at_most_out _ _ unit.high).at_most
    (ap number_sign (one_less n d h) ∙ sign_value (poly_add d (poly_negate n)) d up h
    ∙ ap int_sign (lowest-first (poly_add d (poly_negate n)) (λ e. other_nonzero c other (sym head ∙ e)) ∙ head) ∙ signs_apart c other above)

-- ---- lowest terms

pub lowest_terms : (n d : ℤ) → unsigned_abs n < 2 ^ 127 → unsigned_abs d < 2 ^ 127 → pos 0 <ℤ d
    → IsReduced (record { num = int_div n (gcd_of n d); den = int_div d (gcd_of n d) })
lowest_terms n d sn sd up =
    let g = gcd (unsigned_abs n) (unsigned_abs d) in
    let is = gcd_is (unsigned_abs n) (unsigned_abs d) in
    let en = size_quotient n g in
    let ed = size_quotient d g in
    record {
      positive = quotient_positive d g up is.1;
      num_size = rw en (omega (arith, div-le_self (unsigned_abs n) g));
      den_size = rw ed (omega (arith, div-le_self (unsigned_abs d) g));
      reduced = rw (en, ed) (gcd_from_apart _ _ (quotients_apart (unsigned_abs n) (unsigned_abs d)
          (gcd_bounds (unsigned_abs n) (unsigned_abs d) (size_positive d up)).0));
    }

crossed : (a b g : ℤ) → a *ℤ (b *ℤ g) ≡ (a *ℤ g) *ℤ b
crossed a b g = simp ring

pub same_fraction : (n d : ℤ) → pos 0 <ℤ d → fraction (int_div n (gcd_of n d)) (int_div d (gcd_of n d)) ≡ fraction n d
same_fraction n d up =
    let g = gcd (unsigned_abs n) (unsigned_abs d) in
    let is = gcd_is (unsigned_abs n) (unsigned_abs d) in
    fraction-equal _ _ n d (positive_nonzero _ (quotient_positive d g up is.1)) (positive_nonzero d up)
    (ap (λ x. int_div n (pos g) *ℤ x) (sym (quotient_times d g is.1)) ∙ crossed (int_div n (pos g)) (int_div d (pos g)) (pos g)
    ∙ ap (λ x. x *ℤ int_div d (pos g)) (quotient_times n g is.0))

pub first_above : (d : List ℤ) → int_sign (lowest d) ≡ Greater → ¬ (coefficient d 0 ≡ pos 0) → pos 0 <ℤ coefficient d 0
first_above d up h = positive_out (coefficient d 0) (ap int_sign (sym (lowest-first d h)) ∙ up)

-- the terms, by the coefficients of power 0
pub limit_terms-first : (n d : List ℤ) → limit_terms (record { numerator = n; denominator = d })
    ≡ record {
      num = int_div (coefficient n 0) (gcd_of (coefficient n 0) (coefficient d 0));
      den = int_div (coefficient d 0) (gcd_of (coefficient n 0) (coefficient d 0));
    }
unfolding limit_terms
limit_terms-first n d = rw (first_is n, first_is d) refl

-- where the denominator has a coefficient of power 0
pub limit_terms-reduced : (n d : List ℤ) → int_sign (lowest d) ≡ Greater → ¬ (coefficient d 0 ≡ pos 0)
    → unsigned_abs (coefficient n 0) < 2 ^ 127 → unsigned_abs (coefficient d 0) < 2 ^ 127
    → IsReduced (limit_terms (record { numerator = n; denominator = d }))
unfolding limit_terms
limit_terms-reduced n d up h sn sd =
    rw (first_is n, first_is d) (lowest_terms (coefficient n 0) (coefficient d 0) sn sd (first_above d up h))

pub limit_terms-value : (n d : List ℤ) → IsNonZero d → int_sign (lowest d) ≡ Greater → ¬ (coefficient d 0 ≡ pos 0)
    → fraction (limit_terms (record { numerator = n; denominator = d })).num (limit_terms (record { numerator = n; denominator = d })).den
    ≡ limit (quotient n d)
unfolding limit_terms
limit_terms-value n d some up h =
    rw (first_is n, first_is d) (same_fraction (coefficient n 0) (coefficient d 0) (first_above d up h))
    ∙ sym (limit-quotient n d some ∙ ratio_at n d h)
