-- `weights` prints the weights of all intersections, and they suffice for the closed test by whatever p-values.
use Rattle.std.specs.Prelude.{◌≡◌, ◌<◌, ◌^◌, ◌↔◌, ℕ, true, List, Option, Some, length}
use Rattle.field_core.specs.Number.{Number}
use Rattle.field_core.specs.NumberedSets.{members}
use Rattle.field_core.specs.Sets.{IsIn}
use Rattle.field_core.specs.declared.ratio.Ratio.{Ratio}
use Rattle.fraction.specs.View.{number_of}
use Rattle.answers.specs.declared.answer.Answer.{Answer}
use Rattle.answers.specs.declared.status.Status.TheVariants.{Done}
use Rattle.answers.specs.Stages.{IsAnswerOf}
use Rattle.case_model.specs.ClosedTest.{Passes, IsLocallyRejected, IsRejected}
use Rattle.case_model.specs.Content.{Content, entangled}
use Rattle.case_model.specs.IntersectionWeight.{IsIntersectionWeight}
use Rattle.command_words.specs.Asked.{Encoding, on_case}
use Rattle.command_words.specs.declared.command.CaseTask.TheVariants.{Weights}
use Rattle.report.specs.WeightsReport.{weights_report}
use Rattle.graph_cli.specs.Laws.{ReportsCase}
use Rattle.graph_cli.specs.Outcome.{AskFor, outcome}
use Rattle.printed.specs.Sets.{AreAllSetsOnce}

-- of `m` hypotheses, some member of the set with the number `n` has a p-value that passes at its weight there and a level
pub record HasMemberPassing (m : ℕ) (weight : ℕ → ℕ → Ratio) (p : ℕ → Number) (level : Number) (n : ℕ) : Type 0 where
  pub hypothesis : ℕ
  pub member : IsIn m (members n) hypothesis
  pub passes : Passes (p hypothesis) (number_of (weight n hypothesis)) level

-- The text is a report with exactly one line for each set that isn't empty, and the weights in it are those of the members in the intersections. They
-- suffice for the closed test, by whatever p-values and level: the local test rejects exactly the sets of which some member passes at its weight there.
-- The closed test rejects exactly the hypotheses all of whose sets have such a member.
pub record ReportsSetWeights (c : Content) (text : List ℕ) : Type 0 where
  pub weight : ℕ → ℕ → Ratio
  pub sets : List ℕ
  pub text_is : text ≡ weights_report c weight sets
  pub all_sets : AreAllSetsOnce (length c.names) sets
  pub weights : (n k : ℕ) → n < 2 ^ length c.names → IsIn (length c.names) (members n) k
      → IsIntersectionWeight (entangled c) (members n) k (number_of (weight n k))
  pub tests : (p : ℕ → Number) (level : Number) (n : ℕ) → n < 2 ^ length c.names
      → IsLocallyRejected (entangled c) p level (members n) ↔ HasMemberPassing (length c.names) weight p level n
  pub decides : (p : ℕ → Number) (level : Number) (j : ℕ) → j < length c.names → IsRejected (entangled c) p level j
      ↔ ((n : ℕ) → n < 2 ^ length c.names → members n j ≡ true → HasMemberPassing (length c.names) weight p level n)

-- an answer with status 0 to words that request `weights` reports the weights of all intersections of the case
abbrev pub WeightsAreOfTheIntersections : Type 0
WeightsAreOfTheIntersections = (words : List (List ℕ)) (format : Encoding) (case : List ℕ) (proof : Option (List ℕ)) (a : Answer)
    → AskFor words (on_case format Weights) → IsAnswerOf (outcome words (Some case) proof) a → a.status ≡ Done
    → ReportsCase ReportsSetWeights format case a.text
