use Rattle.std.proofs.Common.{◌≡◌, drop}
use Rattle.case_model.specs.CaseFaults.{first_from, first_of, step_sum}
use Rattle.case_model.proofs.spend_step.first_sum_fault.Given as goal

abbrev pub invariant-loop-step : goal.invariant-loop-step
invariant-loop-step l = first_from (λ _ s. step_sum l.i l.alpha s) l.step-index (drop l.step-index l.steps) ≡ first_of (λ _ s. step_sum l.i l.alpha s) l.steps
