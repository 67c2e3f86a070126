-- `simes` prints the rejections and bounds of the closed test of weighted Simes tests.
use Rattle.std.specs.Prelude.{◌≡◌, ◌<◌, ◌≤◌, ◌^◌, ◌↔◌, ℕ, Bool, true, List, Option, Some, length, take}
use Rattle.field_core.specs.NumberedSets.{members}
use Rattle.field_core.specs.Sets.{set_of}
use Rattle.field_core.specs.declared.ratio.Ratio.{Ratio}
use Rattle.fraction.specs.View.{number_of}
use Rattle.answers.specs.declared.answer.Answer.{Answer}
use Rattle.answers.specs.declared.status.Status.TheVariants.{Done}
use Rattle.answers.specs.Stages.{IsAnswerOf}
use Rattle.case_model.specs.Content.{Content, ForSingle, entangled}
use Rattle.case_model.specs.DiscoveryBound.{IsBound}
use Rattle.case_model.specs.Sums.{number_at}
use Rattle.command_words.specs.Asked.{Encoding, on_case}
use Rattle.command_words.specs.declared.command.CaseTask.TheVariants.{Simes}
use Rattle.report.specs.SimesReport.{set_alone, first_set, simes_report}
use Rattle.simes_test.specs.SimesTest.{IsSimesClosed, IsSimesClosedAlone}
use Rattle.graph_cli.specs.Laws.{ReportsCase}
use Rattle.graph_cli.specs.Outcome.{AskFor, outcome}
use Rattle.graph_cli.specs.Simes.{AreLeadersIn}
use Rattle.printed.specs.Sets.{AreAllSetsOnce, CountFalseMembers}

-- the closed test of weighted Simes tests, at the level of the case, rejects the hypothesis at this position
abbrev pub IsSimesRejectedIn : Content → ℕ → Type 0
IsSimesRejectedIn c j = ForSingle c.inputs (λ ps. IsSimesClosedAlone (entangled c) (number_at ps) (number_of c.alpha) j)

-- the closed test of weighted Simes tests rejects a set, by these p-values and at the level of the case
abbrev pub SimesRejectsSet : Content → List Ratio → (ℕ → Bool) → Type 0
SimesRejectsSet c ps = IsSimesClosed (entangled c) (number_at ps) (number_of c.alpha)

-- the bound of a set is its size minus the greatest size of a subset that this closed test doesn't reject
abbrev pub IsSimesBoundIn : Content → (ℕ → Bool) → ℕ → Type 0
IsSimesBoundIn c S b = ForSingle c.inputs (λ ps. IsBound (length c.names) (SimesRejectsSet c ps) S b)

-- If this closed test doesn't reject the set of the true hypotheses, no bound of a set is above the number of false hypotheses in the set.
abbrev pub SimesBoundsCountFalse : Content → (ℕ → ℕ) → Type 0
SimesBoundsCountFalse c bound = ForSingle c.inputs (λ ps. CountFalseMembers (length c.names) (SimesRejectsSet c ps) bound)

-- The text is a report with exactly one line for each set that isn't empty. Its bounds and its line `rejected` are those of this closed test.
-- Its lines `top` name the bounds of the first hypothesis, the first two, and so on, by ascending p-value.
pub record ReportsSimesTest (c : Content) (text : List ℕ) : Type 0 where
  pub bound : ℕ → ℕ
  pub closed : ℕ → Bool
  pub leaders : List ℕ
  pub sets : List ℕ
  pub text_is : text ≡ simes_report c bound closed leaders sets
  pub all_sets : AreAllSetsOnce (length c.names) sets
  pub named : (j : ℕ) → (closed (set_alone c j) ≡ true) ↔ IsSimesRejectedIn c j
  pub bounds : (n : ℕ) → n < 2 ^ length c.names → IsSimesBoundIn c (members n) (bound n)
  pub order : AreLeadersIn c leaders
  pub tops : (k : ℕ) → k ≤ length c.names → IsSimesBoundIn c (set_of (take k leaders)) (bound (first_set c leaders k))
  pub counts : SimesBoundsCountFalse c bound

-- an answer with status 0 to words that request `simes` reports the closed test of weighted Simes tests on the case
abbrev pub SimesReportsAreOfTheSimesTest : Type 0
SimesReportsAreOfTheSimesTest = (words : List (List ℕ)) (format : Encoding) (case : List ℕ) (proof : Option (List ℕ)) (a : Answer)
    → AskFor words (on_case format Simes) → IsAnswerOf (outcome words (Some case) proof) a → a.status ≡ Done
    → ReportsCase ReportsSimesTest format case a.text
