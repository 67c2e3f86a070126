-- What `evidence` prints is confirmed by `check`.
use Rattle.std.specs.Prelude.{◌≡◌, ◌≤◌, ℕ, List, Option, Some, length}
use Rattle.answers.specs.declared.answer.Answer.{Answer}
use Rattle.answers.specs.declared.status.Status.TheVariants.{Done}
use Rattle.answers.specs.Lines.{done}
use Rattle.answers.specs.Stages.{IsAnswerOf, most_bytes}
use Rattle.case_model.specs.Content.{Content}
use Rattle.command_words.specs.Asked.{Encoding, on_case, check}
use Rattle.command_words.specs.declared.command.CaseTask.TheVariants.{Evidence as EvidenceTask}
use Rattle.evidence_check.specs.declared.evidence.Evidence.{Evidence}
use Rattle.evidence_check.specs.EvidenceView.{steps_of, keeps_of}
use Rattle.report.specs.CheckReport.{check_report}
use Rattle.sequential.specs.declared.priority.Priority.{Priority}
use Rattle.graph_cli.specs.Laws.{PrintsEvidence, ReportsCase, stepped, retained}
use Rattle.graph_cli.specs.Outcome.{AskFor, outcome}

-- The report that says yes, with status 0: it lists the hypotheses of the steps of evidence, in their order, and keeps those of its keeps.
abbrev pub confirmation : Content → Evidence → Answer
confirmation c v = done (check_report c 2 (stepped (steps_of v)) (retained (keeps_of v)))

-- The text is evidence, as `evidence` prints it, for a case that some bytes denote. To words that request `check`, these bytes and the text have exactly one
-- answer: the report that says yes, and lists and keeps what the evidence does.
pub record IsConfirmed (words : List (List ℕ)) (case : List ℕ) (c : Content) (text : List ℕ) : Type 0 where
  pub prints : PrintsEvidence c text
  pub answered : IsAnswerOf (outcome words (Some case) (Some text)) (confirmation c prints.evidence)
  pub only : (b : Answer) → IsAnswerOf (outcome words (Some case) (Some text)) b → b ≡ confirmation c prints.evidence

-- Words that request `evidence`, by any priority, have an answer with status 0, whose text isn't longer than an input may be. `check` confirms this text
-- for the same bytes of the case.
abbrev pub EvidenceIsConfirmedByCheck : Type 0
EvidenceIsConfirmedByCheck =
    (words others : List (List ℕ)) (format : Encoding) (priority : Priority) (file : ℕ) (case : List ℕ) (proof : Option (List ℕ)) (a : Answer)
    → AskFor words (on_case format (EvidenceTask priority)) → IsAnswerOf (outcome words (Some case) proof) a → a.status ≡ Done
    → length a.text ≤ most_bytes → AskFor others (check format file) → ReportsCase (IsConfirmed others case) format case a.text
