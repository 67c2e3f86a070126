-- What a run of adjusted values that is done gives.
use Rattle.std.proofs.Common.{◌≡◌, refl, sym, ap, ◌∙◌, subst, ℕ, zero, suc, List, Result, Ok, Err, IfOk, IfErr, OnOk}
use Rattle.field_core.specs.Arithmetic.{number_zero}
use Rattle.field_core.specs.Order.{◌≤ε◌}
use Rattle.field_core.specs.Sets.{whole}
use Rattle.field_core.specs.Runs.{left_after}
use Rattle.field_core.specs.declared.place.WideAt.{WideAt}
use Rattle.field_core.specs.declared.ratio.Ratio.{Ratio}
use Rattle.fraction.specs.View.{number_of}
use Rattle.case_model.specs.AdjustedValues.{IsAdjusted}
use Rattle.case_model.specs.CaseTests.{at_level, IsAdjustedIn}
use Rattle.case_model.specs.Content.{Content, ForSingle, entangled}
use Rattle.case_model.specs.Sums.{number_at, one_ratio}
use Rattle.case_model.proofs.PriorityOrders.{ratio_legal}
use Rattle.sequential.specs.Trials.{TrialContent, IsTrialOf}
use Rattle.sequential.specs.WideDecisions.{IsWideDecision, IsDecideFault}
use Rattle.sequential.specs.declared.priority.Priority.TheVariants.{Ratio as ByRatio}
use Rattle.sequential.proofs.Decided.{never_wide}
use Rattle.sequential.proofs.OtherLevels.{opening_at}
use Rattle.sequential.proofs.TrialFacts.{graph_valid, p_values_are}
use Rattle.adjusted_p.specs.declared.adjusted.Adjusted.{Adjusted}
use Rattle.sequential.specs.declared.fault.RunFault.{RunFault}
use Rattle.sequential.specs.declared.fault.RunFault.TheVariants.{Wide, NoMemory}
use Rattle.adjusted_p.specs.AdjustedLists.{adjusted_at, AreAdjusted}
use Rattle.adjusted_p.specs.RatioRuns.{IsLeastToOne, AreRunValues}
use Rattle.adjusted_p.specs.WrittenRun.{IsWideAdjusting, IsAdjustFault}
use Rattle.adjusted_p.specs.Adjusting.{IsAdjustingRun}
use Rattle.adjusted_p.proofs.LevelOne.{one_is}
use Rattle.adjusted_p.proofs.RunValues.{table_adjusted}

-- the level doesn't touch the graphs
same_graph : (c : Content) (a : Ratio) → entangled (at_level c a) ≡ entangled c
unfolding entangled
same_graph c a = refl

module _ (c : Content) (t : TrialContent) (xs : List Adjusted) (R : IsAdjustingRun (at_level c one_ratio) t xs) where
  T : IsTrialOf (at_level c one_ratio) t
  T = R.run.so_far.is_trial

  no_ratio : (j : ℕ) → ¬ IsLeastToOne (entangled (at_level c one_ratio)) (number_at t.p_values) (left_after whole t.rejected) j
  no_ratio j L =
      let high : L.least.ratio ≤ε number_of t.alpha = subst (λ z. L.least.ratio ≤ε z) (sym (ap number_of (sym T.alpha) ∙ one_is)) L.small in
      R.run.complete j (record {
        least = L.least;
        legal =
            ratio_legal (entangled (at_level c one_ratio)) (number_at t.p_values) (left_after whole t.rejected)
            (number_of t.alpha) j L.least.ratio L.least.is_ratio high;
      })

  done : AreRunValues (entangled (at_level c one_ratio)) (number_at t.p_values) whole number_zero R.steps
  done = record {
    steps = R.are_steps.values;
    end =
        subst (λ js. (j : ℕ) → ¬ IsLeastToOne (entangled (at_level c one_ratio)) (number_at t.p_values) (left_after whole js) j)
        (sym R.are_steps.removed) no_ratio;
  }

  each_value : (j : ℕ) → IsAdjustedIn c j (adjusted_at xs j).value (adjusted_at xs j).reached
  each_value j =
      subst (λ i. ForSingle i (λ ps. IsAdjusted (entangled c) (number_at ps) j (adjusted_at xs j).value (adjusted_at xs j).reached)) (sym T.inputs)
      (subst (λ E. IsAdjusted E (number_at t.p_values) j (adjusted_at xs j).value (adjusted_at xs j).reached) (same_graph c one_ratio)
      (table_adjusted (entangled (at_level c one_ratio)) (number_at t.p_values) (adjusted_at xs)
      (graph_valid (at_level c one_ratio) t T) R.steps done R.are_steps.is_table j))

  run_adjusted : AreAdjusted c xs
  run_adjusted = record { count = R.are_steps.count ∙ (p_values_are (at_level c one_ratio) t T).count; each = λ j h. each_value j }

  run_not_wide : (n : ℕ) (w : WideAt) → ¬ IsWideAdjusting c n w
  run_not_wide zero w h = never_wide (at_level c one_ratio) ByRatio R.lines t R.run zero w (opening_at c one_ratio ∙ h)
  run_not_wide (suc n) w h = never_wide (at_level c one_ratio) ByRatio R.lines t R.run (suc n) w h

-- ---- results

module _ (c : Content) (old new : TrialContent) (a : Ratio) (one : a ≡ one_ratio) (start : IsTrialOf (at_level c a) old) where
  started : IsTrialOf (at_level c one_ratio) old
  started = subst (λ b. IsTrialOf (at_level c b) old) one start

  pub values_are : (r : Result (List Adjusted) RunFault)
      → IfOk r (λ xs. (k : Content) → IsTrialOf k old → k.alpha ≡ one_ratio → IsAdjustingRun k new xs) → IfOk r (AreAdjusted c)
  values_are (Ok xs) h = run_adjusted c new xs (h (at_level c one_ratio) started refl)
  values_are (Err e) h = tt

  pub none_wide : (r : Result (List Adjusted) RunFault)
      → IfOk r (λ xs. (k : Content) → IsTrialOf k old → k.alpha ≡ one_ratio → IsAdjustingRun k new xs)
      → OnOk r ((n : ℕ) (w : WideAt) → ¬ IsWideAdjusting c n w)
  none_wide (Ok xs) h = run_not_wide c new xs (h (at_level c one_ratio) started refl)
  none_wide (Err e) h = tt

  wide_in : (n : ℕ) (w : WideAt) → IsWideDecision (at_level c one_ratio) ByRatio n w → IsWideAdjusting c n w
  wide_in zero w h = sym (opening_at c one_ratio) ∙ h
  wide_in (suc n) w h = h

  fault_is : (e : RunFault) → IsDecideFault (at_level c one_ratio) ByRatio e → IsAdjustFault c e
  fault_is (Wide n w) h = wide_in n w h
  fault_is NoMemory h = tt

  pub faults_are : (r : Result (List Adjusted) RunFault)
      → IfErr r (λ e. (k : Content) → IsTrialOf k old → k.alpha ≡ one_ratio → IsDecideFault k ByRatio e)
      → IfErr r (IsAdjustFault c)
  faults_are (Ok xs) h = tt
  faults_are (Err e) h = fault_is e (h (at_level c one_ratio) started refl)
