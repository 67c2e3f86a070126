use Rattle.std.proofs.Common.{◌≡◌, sym, ap, ap₂, ◌∙◌, ℕ, ◌<◌, true, false, ◌&&◌, cond, List, length, get_or, arith}
use Rattle.std.proofs.lemmas.List.{get_or_default}
use Rattle.field_core.specs.declared.ratio.Ratio.{Ratio}
use Rattle.field_core.specs.NumberedSets.{members}
use Rattle.fraction.proofs.SameRatios.{same_number}
use Rattle.fraction.specs.View.{number_of}
use Rattle.case_model.specs.Draft.{at_most}
use Rattle.case_model.specs.Sums.{ratio_at, zero_ratio, number_at}
use Rattle.case_model.proofs.Comparisons.{le_is, zero_is}
use Rattle.closed_test.specs.WeightsView.{weight_at}
use Rattle.simes_test.specs.SimesTest.{is_up_to}
use Rattle.simes_test.proofs.SimesWeights.{zero_ratio_is}
use Rattle.simes_test.specs.SimesSums.{weight_up_to}
use Rattle.simes_test.proofs.sums.weight_up_to.Goals as goal
use Rattle.simes_test.proofs.sums.weight_up_to.Goals.{else-holds-via-then-holds+else-le, else-holds-via-else-holds}

module _ (ps : List Ratio) (n i j : ℕ) (x y : Ratio) (bi : i < length ps) (bj : j < length ps) (ai : x ≡ get_or ps i x) (aj : y ≡ get_or ps j y) where
  value_at : (k : ℕ) (z : Ratio) → k < length ps → z ≡ get_or ps k z → number_of z ≡ number_at ps k
  unfolding ratio_at
  value_at k z b a = ap number_of (a ∙ get_or_default ps k z zero_ratio b)

  up_to_is : is_up_to (number_at ps) (members n) j i ≡ (members n i && at_most (number_of x) (number_of y))
  unfolding is_up_to
  up_to_is = ap₂ (λ u v. members n i && at_most u v) (sym (value_at i x bi ai)) (sym (value_at j y bj aj))

  module _ (weight : ℕ → ℕ → Ratio) where
    chosen : members n i ≡ true → at_most (number_of x) (number_of y) ≡ true → weight_up_to ps weight n j i ≡ weight n i
    unfolding weight_up_to
    chosen m t = ap (λ b. cond b (weight n i) zero_ratio) (up_to_is ∙ ap₂ ◌&&◌ m t)

    not_small : members n i ≡ true → at_most (number_of x) (number_of y) ≡ false → weight_up_to ps weight n j i ≡ zero_ratio
    unfolding weight_up_to
    not_small m f = ap (λ b. cond b (weight n i) zero_ratio) (up_to_is ∙ ap₂ ◌&&◌ m f)

not_member : (ps : List Ratio) (weight : ℕ → ℕ → Ratio) (n j i : ℕ) → members n i ≡ false → weight_up_to ps weight n j i ≡ zero_ratio
unfolding weight_up_to is_up_to
not_member ps weight n j i f = ap (λ b. cond (b && at_most (number_at ps i) (number_at ps j)) (weight n i) zero_ratio) f

pub returns-then-le : goal.returns-then-le
returns-then-le c =
    let ps = c.args.p_values.now in
    let count = c.requires.count in
    c.weight.ensures ∙ sym (chosen ps c.args.set c.args.i c.args.j c.index-p_values-i.result c.index-p_values-j.result (omega (arith, count, c.requires.i))
    (omega (arith, count, c.requires.j)) c.index-p_values-i.is c.index-p_values-j.is (weight_at c.args.weights.now)
    (sym c.holds.ensures ∙ c.if-holds.true) (sym (c.le.ensures ∙ le_is c.index-p_values-i.result c.index-p_values-j.result) ∙ c.if-le.true))

pub returns-else-holds : goal.returns-else-holds
returns-else-holds c =
    let ps = c.args.p_values.now in
    let count = c.requires.count in
    let zero = same_number c.zero.result zero_ratio (zero_is c.zero.result c.zero.ensures ∙ sym zero_ratio_is) in
    zero ∙ elim c.else-holds.branch [
      | else-holds-via-then-holds+else-le w ↦
          sym (not_small ps c.args.set c.args.i c.args.j w.index-p_values-i.result w.index-p_values-j.result (omega (arith, count, c.requires.i))
          (omega (arith, count, c.requires.j)) w.index-p_values-i.is w.index-p_values-j.is (weight_at c.args.weights.now)
          (sym c.holds.ensures ∙ w.if-holds.true) (sym (w.le.ensures ∙ le_is w.index-p_values-i.result w.index-p_values-j.result) ∙ w.if-le.false))
      | else-holds-via-else-holds w ↦ sym
          (not_member ps (weight_at c.args.weights.now) c.args.set c.args.j c.args.i (sym c.holds.ensures ∙ w.if-holds.false))
    ]
