-- What doubles are read as are p-values.
use Rattle.std.proofs.Common.{◌≡◌, refl, sym, ap, ap₂, ◌∙◌, ℕ, ◌≤◌, ◌^◌, ℤ, pos, ◌*ℤ◌, ◌≤ℤ◌, Some, true, ◌&&◌, nat_le, unsigned_abs, arith, List}
use Rattle.std.proofs.lemmas.Bool.Decides.{nat_tests}
use Rattle.std.proofs.lemmas.Int.{ints}
use Rattle.std.proofs.Math.ListN.{replicate, length-replicate}
use Rattle.std.specs.Ordering.{is_le, int_cmp}
use Rattle.field_core.specs.Arithmetic.{number_zero}
use Rattle.field_core.specs.View.{terms}
use Rattle.field_core.specs.declared.ratio.Ratio.{Ratio}
use Rattle.fraction.specs.Plain.{plain, fraction_parts}
use Rattle.fraction.specs.View.{number_of}
use Rattle.case_model.specs.Draft.{ArePValues, at_most, is_p_value}
use Rattle.case_model.specs.Sums.{zero_ratio, one_ratio}
use Rattle.case_model.proofs.Comparisons.{le_is, zero_is, one_is}
use Rattle.case_model.proofs.Holding.{all_replicate}
use Rattle.case_model.proofs.Same.{zero_of}
use Rattle.typed_numbers.specs.Readings.{reading_of}
use Rattle.typed_numbers.proofs.ByTheRules.{by_the_rules}
use Rattle.typed_numbers.proofs.Units.{short_units}

le_test : (a b : ℤ) → a ≤ℤ b → is_le (int_cmp a b) ≡ true
le_test a b h = grind (arith, nat_tests, ints)

short_test : (q n : ℕ) → q ≤ n → nat_le q n ≡ true
short_test q n h = grind (arith, nat_tests)

module _ (p : Ratio) (n q : ℕ) (e : terms p ≡ record { num = pos n; den = pos q }) (h : n ≤ q) where
  num : p.num ≡ pos n
  num = ap (λ t. t.num) e

  den : p.den ≡ pos q
  den = ap (λ t. t.den) e

  not_below : at_most number_zero (number_of p) ≡ true
  not_below =
      let low : (pos 0 *ℤ p.den) ≤ℤ (p.num *ℤ pos 1) = let a = num in omega (arith, ints, a) in
      sym (le_is zero_ratio p ∙ ap (λ z. at_most z (number_of p)) (zero_is zero_ratio refl)) ∙ le_test _ _ low

  not_above : at_most (number_of p) (number_of one_ratio) ≡ true
  not_above =
      let high : (p.num *ℤ pos 1) ≤ℤ (pos 1 *ℤ p.den) = let a = num in let b = den in omega (arith, ints, a, b, h) in
      sym (le_is p one_ratio) ∙ le_test _ _ high

  -- a fraction from 0 to 1 with a denominator of at most 10^30 is a p-value
  p_value_of : q ≤ 10 ^ 30 → is_p_value p ≡ true
  unfolding is_p_value
  p_value_of s = ap₂ (λ a b. a && b) (ap (λ d. nat_le (unsigned_abs d) (10 ^ 30)) den ∙ short_test q (10 ^ 30) s)
      (ap₂ (λ a b. a && b) not_below (ap (at_most (number_of p)) (sym (one_is one_ratio refl)) ∙ not_above))

pub reading_p_value : (bits : ℕ) (p : Ratio) → reading_of bits ≡ Some p → is_p_value p ≡ true
reading_p_value bits p e = let s = short_units bits p ((by_the_rules bits (Some p)).0 e) in p_value_of p s.n s.q s.terms s.at_most_one s.short

zero_p_value : is_p_value zero_ratio ≡ true
zero_p_value = p_value_of zero_ratio 0 1 refl (omega arith) (omega arith)

-- zeros are p-values
pub zeros : (n : ℕ) (z : Ratio) (ps : List Ratio) → fraction_parts z ≡ plain.zero → ps ≡ replicate n z → ArePValues n ps
zeros n z ps e made =
    let all = made ∙ ap (replicate n) (zero_of z e) in
    rw all (record { count = length-replicate n zero_ratio; each = all_replicate is_p_value n zero_ratio zero_p_value })
