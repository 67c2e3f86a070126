use Rattle.std.proofs.Common.{◌≡◌, inl, inr, sym, ap, ◌∙◌, subst, ℕ, ◌+◌, ◌<◌, Bool, true, false, List, Option, Some, arith}
use Rattle.field_core.specs.Terms.{Terms}
use Rattle.field_core.specs.declared.ratio.Ratio.{Ratio}
use Rattle.field_core.specs.NumberedSets.{members}
use Rattle.field_core.proofs.Live.{true_not_false}
use Rattle.field_core.proofs.Positions.{at_or_below}
use Rattle.fraction.specs.View.{number_of}
use Rattle.case_model.specs.Sums.{number, number_at}
use Rattle.case_model.specs.ClosedTest.{Passes}
use Rattle.closed_test.specs.WeightsView.{weight_at}
use Rattle.simes_test.specs.SimesSums.{sum_up_to, IsSumDefined}
use Rattle.simes_test.specs.Tested.{PassesAtSum, IsMemberTested}
use Rattle.simes_test.proofs.set_test.is_rejected.Goals as goal
use Rattle.simes_test.proofs.set_test.is_rejected.Goals.{then-holds+in_ok-member_passes+then-branch, else-holds}
use Rattle.simes_test.proofs.set_test.is_rejected.Goals.{else-holds-via-then-holds+in_ok-member_passes+else-branch, else-holds-via-else-holds}

module _ (m : ℕ) (ps : List Ratio) (weight : ℕ → ℕ → Ratio) (alpha : Ratio) (set j : ℕ) where
  defined_next : IsSumDefined m ps weight set j → ((i : ℕ) → i < j → members set i ≡ true → IsSumDefined m ps weight set i) → (i : ℕ)
      → i < j + 1 → members set i ≡ true → IsSumDefined m ps weight set i
  defined_next here before i p e = elim (at_or_below i j (omega arith)) [
    | inl same ↦ subst (IsSumDefined m ps weight set) (sym same) here
    | inr q ↦ before i q e
  ]

  module _ (told : Bool) (T : IsMemberTested m ps weight alpha set j told) where
    own_defined : IsSumDefined m ps weight set j
    own_defined = (T.sum, T.is_sum)

    own_passes : told ≡ true → PassesAtSum m ps weight alpha set j
    own_passes t = record { sum = T.sum; is_sum = T.is_sum; passes = T.answer.0 t }

    own_told : PassesAtSum m ps weight alpha set j → told ≡ true
    own_told h =
        let same : h.sum ≡ T.sum = one_sum (sum_up_to m ps weight set j) h.sum T.sum h.is_sum T.is_sum in
        T.answer.1 (subst (λ t. Passes (number_at ps j) (number t) (number_of alpha)) same h.passes)
      where
        one_sum : (r : Option Terms) (s t : Terms) → r ≡ Some s → r ≡ Some t → s ≡ t
        one_sum r s t e f = cc

pub loop-j-preserved : goal.loop-j-preserved
loop-j-preserved c =
    let m = c.args.weights.now.size in
    let ps = c.args.p_values.now in
    let weight = weight_at c.args.weights.now in
    let alpha = c.args.alpha.now in
    let set = c.args.set in
    let j = c.loop-j.j in
    elim c.if-holds.branch [
      | then-holds+in_ok-member_passes+then-branch w ↦
          let T = w.in_ok-member_passes.ensures.tested in
          record {
            defined = defined_next m ps weight alpha set j (own_defined m ps weight alpha set j _ T) c.loop-j.invariant.defined;
            found = λ t. (j, omega arith, sym c.holds.ensures ∙ w.if-holds.true, own_passes m ps weight alpha set j _ T w.if-branch.true);
            each = λ i p e h. w.rejected-is;
          }
      | else-holds w ↦ elim w.else-holds.branch [
        | else-holds-via-then-holds+in_ok-member_passes+else-branch v ↦
            let T = v.in_ok-member_passes.ensures.tested in
            record {
              defined = defined_next m ps weight alpha set j (own_defined m ps weight alpha set j _ T) c.loop-j.invariant.defined;
              found = λ t. let f = c.loop-j.invariant.found (sym w.rejected-is ∙ t) in (f.0, omega (arith, f.1), f.2, f.3);
              each = λ i p e h. elim (at_or_below i j (omega arith)) [
                | inl same ↦ absurd (true_not_false
                    (sym (own_told m ps weight alpha set j _ T (subst (PassesAtSum m ps weight alpha set) same h)) ∙ v.if-branch.false))
                | inr q ↦ w.rejected-is ∙ c.loop-j.invariant.each i q e h
              ];
            }
        | else-holds-via-else-holds v ↦
            let out : members set j ≡ false = sym c.holds.ensures ∙ v.if-holds.false in
            record {
              defined = λ i p e. elim (at_or_below i j (omega arith)) [
                | inl same ↦ absurd (true_not_false (sym e ∙ ap (members set) same ∙ out))
                | inr q ↦ c.loop-j.invariant.defined i q e
              ];
              found = λ t. let f = c.loop-j.invariant.found (sym w.rejected-is ∙ t) in (f.0, omega (arith, f.1), f.2, f.3);
              each = λ i p e h. elim (at_or_below i j (omega arith)) [
                | inl same ↦ absurd (true_not_false (sym e ∙ ap (members set) same ∙ out))
                | inr q ↦ w.rejected-is ∙ c.loop-j.invariant.each i q e h
              ];
            }
      ]
    ]
