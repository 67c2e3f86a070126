use Rattle.std.proofs.Common.{List}
use Rattle.case_model.specs.Content.{Content}
use Rattle.sequential.specs.Trials.{IsTrialOf, number_left}
use Rattle.sequential.specs.DecisionRuns.{IsRunSoFar}
use Rattle.sequential.specs.TrialView.{trial}
use Rattle.sequential.specs.declared.decision.StepLine.{StepLine}
use Rattle.sequential.proofs.decision.reject_all.Given as goal

abbrev pub invariant-loop-wide : goal.invariant-loop-wide
invariant-loop-wide l = (c : Content) → IsTrialOf c (trial l.fn.current) → (steps : List StepLine) × IsRunSoFar c l.priority steps (trial l.current)

abbrev pub decreases-loop-wide : goal.decreases-loop-wide
decreases-loop-wide l = number_left (trial l.current)
