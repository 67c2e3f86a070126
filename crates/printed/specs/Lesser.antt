-- What `test` prints where p-values fall.
use Rattle.std.specs.Prelude.{◌≡◌, ℕ, true, List, Option, Some}
use Rattle.field_core.specs.Order.{◌≤ε◌}
use Rattle.field_core.specs.declared.ratio.Ratio.{Ratio}
use Rattle.answers.specs.declared.answer.Answer.{Answer}
use Rattle.answers.specs.declared.status.Status.TheVariants.{Done}
use Rattle.answers.specs.Stages.{IsAnswerOf}
use Rattle.case_model.specs.Content.{Content}
use Rattle.case_model.specs.Sums.{number_at}
use Rattle.command_words.specs.Asked.{Encoding, on_case}
use Rattle.command_words.specs.declared.command.CaseTask.TheVariants.{Test}
use Rattle.report.specs.TestReport.{is_rejected}
use Rattle.sequential.specs.OtherPValues.{with_p}
use Rattle.sequential.specs.declared.priority.Priority.{Priority}
use Rattle.graph_cli.specs.Accepted.{case_in}
use Rattle.graph_cli.specs.Laws.{ReportsClosedTest}
use Rattle.graph_cli.specs.Outcome.{AskFor, outcome}

-- Two texts are the reports of `test` on two cases, and the line `rejected` of the second one names each hypothesis that the line of the first one names.
pub record RejectsNoLess (priority other_priority : Priority) (c d : Content) (text other : List ℕ) : Type 0 where
  pub first : ReportsClosedTest priority c text
  pub second : ReportsClosedTest other_priority d other
  pub stays : (j : ℕ) → is_rejected first.decision.steps j ≡ true → is_rejected second.decision.steps j ≡ true

-- Two cases differ at most in their p-values, of which some fall and none rises. If `test` answers both with status 0, by whatever priorities and formats,
-- it rejects no less in the second one.
abbrev pub LesserPValuesRejectNoLess : Type 0
LesserPValuesRejectNoLess =
    (words others : List (List ℕ)) (format other_format : Encoding) (priority other_priority : Priority) (case other : List ℕ)
    (proof other_proof : Option (List ℕ)) (a b : Answer) (c : Content) (ps lesser : List Ratio)
    → AskFor words (on_case format (Test priority)) → IsAnswerOf (outcome words (Some case) proof) a → a.status ≡ Done
    → AskFor others (on_case other_format (Test other_priority)) → IsAnswerOf (outcome others (Some other) other_proof) b → b.status ≡ Done
    → (case_in format case).Gives (with_p c ps) → (case_in other_format other).Gives (with_p c lesser)
    → ((k : ℕ) → number_at lesser k ≤ε number_at ps k)
    → RejectsNoLess priority other_priority (with_p c ps) (with_p c lesser) a.text b.text
