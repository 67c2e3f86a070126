-- `bounds` prints the bound of each set by the closed test.
use Rattle.std.specs.Prelude.{◌≡◌, ◌<◌, ◌^◌, ℕ, Bool, List, Option, Some, length}
use Rattle.field_core.specs.NumberedSets.{members}
use Rattle.field_core.specs.declared.ratio.Ratio.{Ratio}
use Rattle.fraction.specs.View.{number_of}
use Rattle.answers.specs.declared.answer.Answer.{Answer}
use Rattle.answers.specs.declared.status.Status.TheVariants.{Done}
use Rattle.answers.specs.Stages.{IsAnswerOf}
use Rattle.case_model.specs.ClosedTest.{IsClosedRejected}
use Rattle.case_model.specs.Content.{Content, ForSingle, entangled}
use Rattle.case_model.specs.DiscoveryBound.{IsBound}
use Rattle.case_model.specs.Sums.{number_at}
use Rattle.command_words.specs.Asked.{Encoding, on_case}
use Rattle.command_words.specs.declared.command.CaseTask.TheVariants.{Bounds}
use Rattle.report.specs.BoundsReport.{bounds_report}
use Rattle.graph_cli.specs.Laws.{ReportsCase}
use Rattle.graph_cli.specs.Outcome.{AskFor, outcome}
use Rattle.printed.specs.Sets.{AreAllSetsOnce, CountFalseMembers}

-- the closed test rejects a set, by these p-values and at the level of the case
abbrev pub RejectsSet : Content → List Ratio → (ℕ → Bool) → Type 0
RejectsSet c ps = IsClosedRejected (entangled c) (number_at ps) (number_of c.alpha)

-- the bound of a set is its size minus the greatest size of a subset that the closed test doesn't reject
abbrev pub IsClosedBoundIn : Content → (ℕ → Bool) → ℕ → Type 0
IsClosedBoundIn c S b = ForSingle c.inputs (λ ps. IsBound (length c.names) (RejectsSet c ps) S b)

-- If the closed test doesn't reject the set of the true hypotheses, no bound of a set is above the number of false hypotheses in the set.
abbrev pub ClosedBoundsCountFalse : Content → (ℕ → ℕ) → Type 0
ClosedBoundsCountFalse c bound = ForSingle c.inputs (λ ps. CountFalseMembers (length c.names) (RejectsSet c ps) bound)

-- The text is a report with exactly one line for each set that isn't empty, and the bounds in it are those of the sets by the closed test.
pub record ReportsSetBounds (c : Content) (text : List ℕ) : Type 0 where
  pub bound : ℕ → ℕ
  pub sets : List ℕ
  pub text_is : text ≡ bounds_report c bound sets
  pub all_sets : AreAllSetsOnce (length c.names) sets
  pub bounds : (n : ℕ) → n < 2 ^ length c.names → IsClosedBoundIn c (members n) (bound n)
  pub counts : ClosedBoundsCountFalse c bound

-- an answer with status 0 to words that request `bounds` reports the bounds of all sets of the case
abbrev pub BoundsAreOfTheClosedTest : Type 0
BoundsAreOfTheClosedTest = (words : List (List ℕ)) (format : Encoding) (case : List ℕ) (proof : Option (List ℕ)) (a : Answer)
    → AskFor words (on_case format Bounds) → IsAnswerOf (outcome words (Some case) proof) a → a.status ≡ Done
    → ReportsCase ReportsSetBounds format case a.text
