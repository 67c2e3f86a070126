-- The line `rejected` that `stages` prints doesn't depend on the order of the arrivals.
use Rattle.std.specs.Prelude.{◌≡◌, ◌↔◌, ℕ, List, Option, Some}
use Rattle.std.specs.List.{Contains}
use Rattle.answers.specs.declared.answer.Answer.{Answer}
use Rattle.answers.specs.declared.status.Status.TheVariants.{Done}
use Rattle.answers.specs.Stages.{IsAnswerOf}
use Rattle.case_model.specs.Content.{Content}
use Rattle.case_model.specs.StagedCase.{spends_in}
use Rattle.case_model.specs.declared.draft_stages.Arrival.{Arrival}
use Rattle.command_words.specs.Asked.{Encoding, on_case}
use Rattle.command_words.specs.declared.command.CaseTask.TheVariants.{Stages}
use Rattle.report.specs.StagesReport.{settled_line, stages_report}
use Rattle.staged_levels.specs.Looks.{arrivals_of}
use Rattle.staged_levels.specs.declared.event.Settled.{Settled}
use Rattle.graph_cli.specs.Accepted.{case_in}
use Rattle.graph_cli.specs.Outcome.{AskFor, outcome}

-- Two cases differ at most in the order of their arrivals: they have the same names, level, graphs and spends, and the same p-values arrived.
pub record HaveSameArrivals (c d : Content) : Type 0 where
  pub names : c.names ≡ d.names
  pub level : c.alpha ≡ d.alpha
  pub graphs : c.components ≡ d.components
  pub spends : spends_in c.inputs ≡ spends_in d.inputs
  pub arrived : (a : Arrival) → Contains (arrivals_of c.inputs) a ↔ Contains (arrivals_of d.inputs) a

-- Two texts are reports of looks at two cases, and have the same line `rejected`.
pub record RejectAlike (c d : Content) (one other : List ℕ) : Type 0 where
  pub looks : List (List Settled)
  pub other_looks : List (List Settled)
  pub one_is : one ≡ stages_report c looks
  pub other_is : other ≡ stages_report d other_looks
  pub same_line : settled_line c looks ≡ settled_line d other_looks

-- The answers of `stages` with status 0 for two cases that differ at most in the order of their arrivals, however they are written, have the same line
-- `rejected`.
abbrev pub StagesAgreeInEveryOrder : Type 0
StagesAgreeInEveryOrder =
    (words others : List (List ℕ)) (format other_format : Encoding) (case other : List ℕ) (proof other_proof : Option (List ℕ)) (a b : Answer)
    (c d : Content) → AskFor words (on_case format Stages) → AskFor others (on_case other_format Stages)
    → IsAnswerOf (outcome words (Some case) proof) a → IsAnswerOf (outcome others (Some other) other_proof) b → a.status ≡ Done → b.status ≡ Done
    → (case_in format case).Gives c → (case_in other_format other).Gives d → HaveSameArrivals c d → RejectAlike c d a.text b.text
