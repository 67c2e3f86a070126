-- Quotients in lowest terms.
use Rattle.std.proofs.Common.{◌≡◌, ◌≢◌, refl, sym, ap, ◌∙◌, inl, inr, ℕ, ◌^◌, ◌<◌, ◌/◌, Bool, true, false, ℤ, pos}
use Rattle.std.proofs.Common.{unsigned_abs, Result, Err, ◌↔◌, arith, lit<}
use Rattle.std.proofs.lemmas.Int.{ints}
use Rattle.std.proofs.lemmas.Bool.Decides.{nat_tests}
use Rattle.std.specs.Int.{is_negative}
use Rattle.field_core.specs.Divisor.{gcd}
use Rattle.field_core.specs.Terms.{Terms, IsReduced}
use Rattle.field_core.specs.View.{terms}
use Rattle.field_core.specs.declared.ratio.Ratio.{Ratio}
use Rattle.fraction.specs.declared.fault.FractionFault.{FractionFault}
use Rattle.fraction.specs.declared.fault.FractionFault.TheVariants.{ZeroDenominator, TooWide}
use Rattle.numerals.specs.Lowest.{lowest_of, differ, lowest_terms, HasWidePart}
use Rattle.fraction.specs.Plain.{plain, fraction_parts}
use Rattle.fraction.proofs.SameRatios.{same_ratio}
use Rattle.numerals.proofs.LowestTerms.{divided, abs_sign, lowest_cross}
use Rattle.fraction.specs.View.{number_of}
use Rattle.field_core.specs.Fractions.{fraction, one_over}
use Rattle.field_core.specs.Laws.FractionLaws.{fraction-equal}
use Rattle.catalogue.specs.NamedGraphs.{part}
use Rattle.case_model.proofs.Same.{from_single}
use Rattle.catalogue.specs.Quotients.{are_lowest, ratio_by, ratio_of, quotient}
use Rattle.case_model.specs.Sums.{one_ratio}

-- a fraction stored as 1 is 1/1
pub one_of : (z : Ratio) → fraction_parts z ≡ plain.one → z ≡ one_ratio
one_of z e = same_ratio z one_ratio (from_single (terms z) (terms one_ratio) e)

tested : (x : Ratio) → are_lowest x.num (unsigned_abs x.den) ≡ true
tested x =
    let a = x.valid.num_size in
    let b = x.valid.den_size in
    let c = x.valid.reduced in
    let d : 0 < unsigned_abs x.den = (let p = x.valid.positive in omega (arith, ints)) in
    grind (arith, nat_tests)

terms_by : (n : ℤ) (d : ℕ) (b : Bool) (e : are_lowest n d ≡ b) → b ≡ true → terms (ratio_by n d b e) ≡ record { num = n; den = pos d }
terms_by n d true e h = refl
terms_by n d false e h = absurd (cc)

-- a fraction is that of its terms
ratio_of_terms : (x : Ratio) → ratio_of x.num (unsigned_abs x.den) ≡ x
unfolding ratio_of
ratio_of_terms x =
    let den : pos (unsigned_abs x.den) ≡ x.den = (let p = x.valid.positive in omega (arith, ints)) in
    same_ratio (ratio_by x.num (unsigned_abs x.den) (are_lowest x.num (unsigned_abs x.den)) refl) x
    (terms_by x.num (unsigned_abs x.den) (are_lowest x.num (unsigned_abs x.den)) refl (tested x) ∙ ap (λ d. record { num = x.num; den = d }) den)

-- what has the lowest terms of n/d is the quotient
pub quotient_is : (n : ℤ) (d : ℕ) (x : Ratio) → terms x ≡ lowest_terms n (pos d) → x ≡ quotient n d
unfolding quotient
quotient_is n d x e = sym (ratio_of_terms x) ∙ ap (λ (t : Terms). ratio_of t.num (unsigned_abs t.den)) e

-- lowest terms aren't longer than the parts that they are of
pub never_wide : (n : ℤ) (d : ℕ) → 0 < d → unsigned_abs n < 2 ^ 127 → d < 2 ^ 127 → ¬ HasWidePart (lowest_terms n (pos d))
unfolding lowest_terms lowest_of
never_wide n d some short low =
    let both = (divided (unsigned_abs n) d some).1 in
    let top = abs_sign (differ (is_negative n) (is_negative (pos d))) (unsigned_abs n / gcd (unsigned_abs n) d) in
    let first = both.first in
    let second = both.second in
    λ w. elim w [ inl h ↦ omega (arith, top, first, short, h) | inr h ↦ omega (arith, second, low, h) ]

-- such a quotient is never refused
pub no_fault : {A : Type 0} (n z w : ℤ) (d : ℕ) (r : Result A FractionFault) (f : FractionFault) → z ≡ n → w ≡ pos d → 0 < d
    → unsigned_abs n < 2 ^ 127 → d < 2 ^ 127 → r ≡ Err f
    → ((r ≡ Err ZeroDenominator) ↔ (w ≡ pos 0)) → ((r ≡ Err TooWide) ↔ ((w ≢ pos 0) × HasWidePart (lowest_terms z w))) → ⊥
no_fault n z w d r ZeroDenominator e g some short low h zero wide = let k : pos d ≡ pos 0 = sym g ∙ zero.0 h in omega (arith, ints, k)
no_fault n z w d r TooWide e g some short low h zero wide = never_wide n d some short low (let k = (wide.0 h).1 in rw (e, g) at k)

-- ---- values

lowest_reduced_terms : (n : ℤ) (d : ℕ) → 0 < d → unsigned_abs n < 2 ^ 127 → d < 2 ^ 127 → IsReduced (lowest_terms n (pos d))
unfolding lowest_terms lowest_of
lowest_reduced_terms n d some short low =
    let both = (divided (unsigned_abs n) d some).1 in
    let top = abs_sign (differ (is_negative n) (is_negative (pos d))) (unsigned_abs n / gcd (unsigned_abs n) d) in
    let first = both.first in
    let second = both.second in
    let positive = both.some in
    record {
      positive = omega (arith, ints, positive);
      num_size = omega (arith, top, first, short);
      den_size = omega (arith, second, low);
      reduced = ap (λ k. gcd k (d / gcd (unsigned_abs n) d)) top ∙ both.apart;
    }

-- the value of a quotient
pub quotient_value : (n : ℤ) (d : ℕ) → 0 < d → unsigned_abs n < 2 ^ 127 → d < 2 ^ 127 → number_of (quotient n d) ≡ fraction n (pos d)
quotient_value n d some short low =
    let r = lowest_reduced_terms n d some short low in
    let x : Ratio = record { num = (lowest_terms n (pos d)).num; den = (lowest_terms n (pos d)).den; valid = r } in
    let nonzero : ¬ (x.den ≡ pos 0) = (λ e. let p = r.positive in omega (arith, ints)) in
    let den : ¬ (pos d ≡ pos 0) = (λ e. omega (arith, ints)) in
    ap number_of (sym (quotient_is n d x refl)) ∙ fraction-equal x.num x.den n (pos d) nonzero den (lowest_cross n (pos d))

-- 1/n
pub part_value : (n : ℕ) → 0 < n → n < 2 ^ 127 → number_of (part n) ≡ one_over n
part_value n some few = quotient_value (pos 1) n some (lit< tt) few
