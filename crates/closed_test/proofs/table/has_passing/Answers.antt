use Rattle.std.proofs.Common.{◌≡◌, inl, inr, refl, sym, ap, subst, ◌∙◌, ℕ, ◌<◌, ◌↔◌, Bool, List, length, get_or, IsTrue, arith}
use Rattle.std.proofs.lemmas.List.{get_or_default}
use Rattle.field_core.specs.declared.ratio.Ratio.{Ratio}
use Rattle.field_core.specs.NumberedSets.{members}
use Rattle.field_core.proofs.Live.{true_not_false}
use Rattle.field_core.proofs.Positions.{at_or_below}
use Rattle.fraction.specs.View.{number_of}
use Rattle.case_model.specs.Sums.{ratio_at, zero_ratio, number_at}
use Rattle.case_model.specs.ClosedTest.{Passes}
use Rattle.closed_test.specs.WeightsView.{weight_at}
use Rattle.closed_test.proofs.table.has_passing.Goals as goal
use Rattle.closed_test.proofs.table.has_passing.Goals.{else-holds-via-then-holds+else-passes, else-holds-via-else-holds}

module _ (ps : List Ratio) (k : ℕ) (x : Ratio) (b : k < length ps) (at : x ≡ get_or ps k x) (weight : ℕ → ℕ → Ratio) (set : ℕ) (w alpha : Ratio)
    (is : w ≡ weight set k) (r : Bool) (test : IsTrue r ↔ Passes (number_of x) (number_of w) (number_of alpha)) where
  same_value : number_of x ≡ number_at ps k
  unfolding ratio_at
  same_value = ap number_of (at ∙ get_or_default ps k x zero_ratio b)

  passes_at : IsTrue r → Passes (number_at ps k) (number_of (weight set k)) (number_of alpha)
  passes_at t = subst (λ p. Passes p (number_of (weight set k)) (number_of alpha)) same_value
      (subst (λ v. Passes (number_of x) (number_of v) (number_of alpha)) is (test.0 t))

  tested_at : Passes (number_at ps k) (number_of (weight set k)) (number_of alpha) → IsTrue r
  tested_at h = test.1 (subst (λ v. Passes (number_of x) (number_of v) (number_of alpha)) (sym is)
      (subst (λ p. Passes p (number_of (weight set k)) (number_of alpha)) (sym same_value) h))

pub returns-then-passes : goal.returns-then-passes
returns-then-passes c =
    let few = c.size-k-end.ensures.size in
    let b : c.loop-k.k < length c.args.p_values.now = omega (arith, c.loop-k-test.true, few, c.requires.count) in (
      λ t. record {
        hypothesis = c.loop-k.k;
        member = record { below = omega (arith, c.loop-k-test.true, few); member = sym c.holds.ensures ∙ c.if-holds.true };
        passes = passes_at c.args.p_values.now c.loop-k.k c.index-p_values-k.result b c.index-p_values-k.is
            (weight_at c.args.weights.now) c.args.set c.weight.result c.args.alpha.now c.weight.ensures c.passes.result c.passes.ensures c.if-passes.true;
      },
      λ h. refl,
    )

pub loop-k-preserved : goal.loop-k-preserved
loop-k-preserved c = λ j p m h.
    let few = c.size-k-end.ensures.size in
    let b : c.loop-k.k < length c.args.p_values.now = omega (arith, c.loop-k-test.true, few, c.requires.count) in
    elim (at_or_below j c.loop-k.k (omega arith)) [
      | inr q ↦ c.loop-k.invariant j q m h
      | inl e ↦ elim c.else-holds.branch [
        | else-holds-via-then-holds+else-passes w ↦
            let here = subst (λ i. Passes (number_at c.args.p_values.now i) (number_of (weight_at c.args.weights.now c.args.set i))
            (number_of c.args.alpha.now)) e h in
            true_not_false (sym (tested_at c.args.p_values.now c.loop-k.k w.index-p_values-k.result b w.index-p_values-k.is
            (weight_at c.args.weights.now) c.args.set w.weight.result c.args.alpha.now w.weight.ensures w.passes.result w.passes.ensures here)
            ∙ w.if-passes.false)
        | else-holds-via-else-holds w ↦ true_not_false (sym m ∙ ap (members c.args.set) e ∙ sym c.holds.ensures ∙ w.if-holds.false)
      ]
    ]
