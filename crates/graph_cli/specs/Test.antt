-- What `test` answers.
use Rattle.std.specs.Prelude.{◌≡◌, ℕ, List}
use Rattle.field_core.specs.declared.place.WideAt.{WideAt}
use Rattle.answers.specs.declared.answer.Answer.{Answer}
use Rattle.graph_cli.specs.declared.trouble.Trouble.{Trouble}
use Rattle.graph_cli.specs.declared.trouble.Trouble.TheVariants as troubles
use Rattle.answers.specs.Lines.{done}
use Rattle.answers.specs.Stages.{Stage, and_then, only}
use Rattle.case_model.specs.Content.{Content}
use Rattle.refusals.specs.declared.wide.When.TheVariants.{Step, AdjustedStep}
use Rattle.report.specs.TestReport.{test_report}
use Rattle.sequential.specs.declared.decision.Decision.{Decision}
use Rattle.sequential.specs.Decisions.{IsDecision}
use Rattle.sequential.specs.WideDecisions.{IsWideDecision}
use Rattle.sequential.specs.declared.priority.Priority.{Priority}
use Rattle.adjusted_p.specs.declared.adjusted.Adjusted.{Adjusted}
use Rattle.adjusted_p.specs.AdjustedLists.{AreAdjusted}
use Rattle.adjusted_p.specs.WrittenRun.{IsWideAdjusting}

-- the decision on a case, whose written run is defined; or the run's first operation that is undefined
abbrev pub decided : Priority → Content → Stage Trouble Decision
decided priority c = record {
  Gives = λ decision. ((step : ℕ) (wide : WideAt) → ¬ IsWideDecision c priority step wide) × IsDecision c priority decision;
  Refuses = λ r. (step : ℕ) × (wide : WideAt) × IsWideDecision c priority step wide × (r ≡ troubles.Wide (Step step) wide);
}

-- the adjusted values of a case, whose written run is defined; or the run's first operation that is undefined
abbrev pub adjusted : Content → Stage Trouble (List Adjusted)
adjusted c = record {
  Gives = λ values. ((step : ℕ) (wide : WideAt) → ¬ IsWideAdjusting c step wide) × AreAdjusted c values;
  Refuses = λ r. (step : ℕ) × (wide : WideAt) × IsWideAdjusting c step wide × (r ≡ troubles.Wide (AdjustedStep step) wide);
}

-- the decision, then the adjusted values, and the report of both
unfoldable pub test_stage : Priority → Content → Stage Trouble Answer
test_stage priority c = and_then (decided priority c) (λ decision. and_then (adjusted c) (λ values. only (done (test_report c decision values))))
