use Rattle.std.proofs.Common.{sym, ap, ◌∙◌, subst, length}
use Rattle.std.proofs.lemmas.List.{length-set, length-replicate}
use Rattle.case_model.proofs.Comparisons.{zero_is}
use Rattle.sequential.specs.RatioSteps.{IsRatioStep, IsStepByRatio}
use Rattle.sequential.specs.TrialView.{trial}
use Rattle.sequential.specs.declared.priority.Priority.TheVariants.{Ratio as ByRatio}
use Rattle.sequential.proofs.RunSteps.{step_smaller}
use Rattle.adjusted_p.specs.AdjustedLists.{not_reached}
use Rattle.adjusted_p.specs.Adjusting.{IsAdjustingSoFar}
use Rattle.adjusted_p.proofs.Steps.{adjusting_start, adjusting_step, adjusting_end, adjusting_fault}
use Rattle.adjusted_p.proofs.adjusted.run.Goals as goal

pub loop-next-init : goal.loop-next-init
loop-next-init c = record {
  so_far = λ k T e. adjusting_start k (trial c.args.current.now) c.zero-before.result c.size.result c.in_ok-values.values T c.requires
      (zero_is c.zero-before.result c.zero-before.ensures) c.in_ok-values.ensures c.size.ensures;
  count = ap length c.in_ok-values.ensures ∙ length-replicate c.size.result not_reached ∙ c.size.ensures;
}

step_is : (c : goal.After-set) → IsStepByRatio (trial c.loop-next.current) (trial c.reject_least_ratio.new.self) c.in-Ok-Some.next
step_is c = subst (IsRatioStep (trial c.loop-next.current) (trial c.reject_least_ratio.new.self)) c.in-Ok-Some.field-0-is c.in-Ok-Some.ensures.step

pub loop-next-preserved : goal.loop-next-preserved
loop-next-preserved c =
    let old = trial c.loop-next.current in
    let new = trial c.reject_least_ratio.new.self in
    let x = c.in-Ok-Some.next in
    let v = c.greater-before.result in
    let X = step_is c in
    record {
      so_far = λ k T e. subst (IsAdjustingSoFar k new v) (sym c.set.ensures)
          (adjusting_step k e old new c.loop-next.before v c.loop-next.values x (c.loop-next.invariant.so_far k T e) X c.greater-before.ensures);
      count = ap length c.set.ensures ∙ length-set c.loop-next.values x.line.hypothesis _ ∙ c.loop-next.invariant.count
          ∙ ap length (sym X.step.next.p_values);
    }

pub loop-next-smaller : goal.loop-next-smaller
unfolding trial
loop-next-smaller c = let X = step_is c in step_smaller ByRatio (trial c.loop-next.current) (trial c.reject_least_ratio.new.self) c.in-Ok-Some.next.line
    c.loop-next.current.whole X.step

pub returns-in-Ok-None-clause-run : goal.returns-in-Ok-None-clause-run
returns-in-Ok-None-clause-run c = λ k T e.
    let old = trial c.loop-next.current in
    let new = trial c.reject_least_ratio.new.self in
    adjusting_end k e old new c.loop-next.before c.loop-next.values (c.loop-next.invariant.so_far k T e)
    (subst (IsRatioStep old new) c.in-Ok-None.field-0-is c.in-Ok-None.ensures.step)

pub returns-in-Err-clause-fault : goal.returns-in-Err-clause-fault
returns-in-Err-clause-fault c = λ k T e.
    adjusting_fault k (trial c.loop-next.current) c.loop-next.before c.loop-next.values c.in-Err.wide (length c.rejected.result.now)
    (c.loop-next.invariant.so_far k T e) c.in-Err.ensures.wide (ap length c.rejected.ensures.value)
