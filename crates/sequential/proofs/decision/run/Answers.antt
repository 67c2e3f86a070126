use Rattle.std.proofs.Common.{sym, subst, ◌+◌}
use Rattle.sequential.specs.WideDecisions.{IsWideDecision}
use Rattle.sequential.specs.DecisionRuns.{IsStep, IsRunSoFar}
use Rattle.sequential.specs.TrialView.{trial}
use Rattle.sequential.proofs.RunSteps.{run_step, run_fault, step_smaller}
use Rattle.sequential.proofs.decision.run.Goals as goal

pub loop-line-smaller : goal.loop-line-smaller
unfolding trial
loop-line-smaller c =
    let old = trial c.loop-line.current in
    let new = trial c.next_step.new.current in
    step_smaller c.args.priority old new c.in-Ok-Some.line c.loop-line.current.whole
    (subst (IsStep c.args.priority old new) c.in-Ok-Some.field-0-is c.in-Ok-Some.ensures.step)

pub loop-line-preserved : goal.loop-line-preserved
loop-line-preserved c = λ k T.
    let old = trial c.loop-line.current in
    let new = trial c.next_step.new.current in
    subst (λ xs. IsRunSoFar k c.args.priority xs new) (sym c.in_ok-push-in-Ok-Some.ensures.pushed)
    (run_step k c.args.priority c.loop-line.steps old new c.in-Ok-Some.line (c.loop-line.invariant k T)
    (subst (IsStep c.args.priority old new) c.in-Ok-Some.field-0-is c.in-Ok-Some.ensures.step))

pub returns-in-Err-clause-fault : goal.returns-in-Err-clause-fault
returns-in-Err-clause-fault c = λ k T.
    subst (λ n. IsWideDecision k c.args.priority (n + 1) c.in-Err.wide) (sym c.len.ensures)
    (run_fault k c.args.priority c.loop-line.steps (trial c.loop-line.current) c.in-Err.wide (c.loop-line.invariant k T) c.in-Err.ensures.wide)
