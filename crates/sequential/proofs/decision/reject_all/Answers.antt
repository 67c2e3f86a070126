use Rattle.std.proofs.Common.{◌≡◌, [], ◌∷◌, ◌++◌, ◌+◌, length, sym, ap, ◌∙◌, subst}
use Rattle.sequential.specs.DecisionRuns.{IsStep}
use Rattle.sequential.specs.TrialView.{trial}
use Rattle.sequential.proofs.Decided.{run_decides, never_wide}
use Rattle.sequential.specs.WideDecisions.{IsWideDecision}
use Rattle.sequential.proofs.RunSteps.{run_start, run_step, run_end, run_fault, step_smaller, many}
use Rattle.sequential.proofs.decision.reject_all.Goals as goal

pub loop-wide-init : goal.loop-wide-init
loop-wide-init c = λ k T. ([], run_start k c.args.priority (trial c.args.current.now) T c.requires)

pub loop-wide-smaller : goal.loop-wide-smaller
unfolding trial
loop-wide-smaller c =
    let old = trial c.loop-wide.current in
    let new = trial c.next_step.new.current in
    step_smaller c.args.priority old new c.in-Ok-Some.field-0-0 c.loop-wide.current.whole
    (subst (IsStep c.args.priority old new) c.in-Ok-Some.field-0-is c.in-Ok-Some.ensures.step)

pub loop-wide-preserved : goal.loop-wide-preserved
loop-wide-preserved c = λ k T.
    let old = trial c.loop-wide.current in
    let new = trial c.next_step.new.current in
    let run = c.loop-wide.invariant k T in (
      run.0 ++ c.in-Ok-Some.field-0-0 ∷ [],
      run_step k c.args.priority run.0 old new c.in-Ok-Some.field-0-0 run.1
          (subst (IsStep c.args.priority old new) c.in-Ok-Some.field-0-is c.in-Ok-Some.ensures.step),
    )

pub returns-in-Ok-None-clause-all : goal.returns-in-Ok-None-clause-all
returns-in-Ok-None-clause-all c = λ k j T.
    let old = trial c.loop-wide.current in
    let new = trial c.next_step.new.current in
    let run = c.loop-wide.invariant k T in
    run_decides k c.args.priority run.0 new
    (run_end k c.args.priority run.0 old new run.1 (subst (IsStep c.args.priority old new) c.in-Ok-None.field-0-is c.in-Ok-None.ensures.step)) j

pub returns-in-Ok-None-clause-defined : goal.returns-in-Ok-None-clause-defined
returns-in-Ok-None-clause-defined c = λ k T.
    let old = trial c.loop-wide.current in
    let new = trial c.next_step.new.current in
    let run = c.loop-wide.invariant k T in
    never_wide k c.args.priority run.0 new
    (run_end k c.args.priority run.0 old new run.1 (subst (IsStep c.args.priority old new) c.in-Ok-None.field-0-is c.in-Ok-None.ensures.step))

pub returns-in-Err-clause-wide : goal.returns-in-Err-clause-wide
returns-in-Err-clause-wide c = λ k T.
    let run = c.loop-wide.invariant k T in
    let as_many : length run.0 ≡ length c.rejected.result.now = sym (many run.0) ∙ ap length (run.1.listed ∙ sym c.rejected.ensures.value) in
    subst (λ n. IsWideDecision k c.args.priority (n + 1) c.in-Err.wide) as_many
    (run_fault k c.args.priority run.0 (trial c.loop-wide.current) c.in-Err.wide run.1 c.in-Err.ensures.wide)
