use Rattle.sequential.specs.TrialView.{trial}
use Rattle.sequential.proofs.Decided.{run_decision, never_wide}
use Rattle.sequential.proofs.DecisionLaws.{decision_decides}
use Rattle.sequential.proofs.decision.decided.Goals as goal

pub returns-clause-value : goal.returns-clause-value
returns-clause-value c = λ k T.
    run_decision k c.args.priority c.in_ok-steps.steps (trial c.run.new.current) (c.in_ok-steps.ensures.run k T) c.in_ok-kept.kept c.in_ok-kept.ensures

pub returns-clause-defined : goal.returns-clause-defined
returns-clause-defined c = λ k T. never_wide k c.args.priority c.in_ok-steps.steps (trial c.run.new.current) (c.in_ok-steps.ensures.run k T)

pub returns-clause-closed : goal.returns-clause-closed
returns-clause-closed c = λ k T j. decision_decides k c.args.priority _ T.valid j (returns-clause-value c k T)
