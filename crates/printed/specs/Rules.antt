-- Cases on the graphs of textbook rules, whoever wrote the cases, are decided by the rules at the level of the case.
use Rattle.std.specs.Prelude.{◌≡◌, ◌↔◌, ◌≤◌, ◌<◌, ℕ, suc, pos, true, List, Option, Some, length}
use Rattle.field_core.specs.Fractions.{fraction}
use Rattle.field_core.specs.Number.{Number}
use Rattle.field_core.specs.declared.ratio.Ratio.{Ratio}
use Rattle.fraction.specs.View.{number_of}
use Rattle.adjusted_p.specs.AdjustedLists.{AreAdjusted}
use Rattle.adjusted_p.specs.declared.adjusted.Adjusted.{Adjusted}
use Rattle.answers.specs.declared.answer.Answer.{Answer}
use Rattle.answers.specs.declared.status.Status.TheVariants.{Done}
use Rattle.answers.specs.Stages.{IsAnswerOf, most_bytes}
use Rattle.case_model.specs.Content.{Content, entangled, is_plain}
use Rattle.case_model.specs.Sums.{number_at}
use Rattle.case_model.specs.TextbookGraphs.{IsHolmGraph, IsSequenceGraph, IsFallbackGraph}
use Rattle.case_model.specs.TextbookRules.{IsHolmRejected, IsSequenceRejected, IsFallbackRejected}
use Rattle.case_model.specs.declared.inputs.Inputs.TheVariants.{Single}
use Rattle.command_words.specs.Asked.{Encoding, on_case}
use Rattle.command_words.specs.declared.command.CaseTask.TheVariants.{Test}
use Rattle.report.specs.TestReport.{is_rejected, test_report}
use Rattle.sequential.specs.Decisions.{IsDecision}
use Rattle.sequential.specs.declared.decision.Decision.{Decision}
use Rattle.sequential.specs.declared.priority.Priority.{Priority}
use Rattle.textbook.specs.Gatekeeping.{IsGatekeepingGraph, IsGatekeepingRejected}
use Rattle.graph_cli.specs.Accepted.{case_in}
use Rattle.graph_cli.specs.Outcome.{AskFor, outcome}

-- The text is the report of the decision of a priority on a case and of its adjusted values, whose line `rejected` names exactly the hypotheses that a
-- rule rejects.
pub record ReportsRule (Rejects : ℕ → Type 0) (priority : Priority) (c : Content) (text : List ℕ) : Type 0 where
  pub decision : Decision
  pub adjusted : List Adjusted
  pub text_is : text ≡ test_report c decision adjusted
  pub decides : IsDecision c priority decision
  pub named : (j : ℕ) → (is_rejected decision.steps j ≡ true) ↔ Rejects j
  pub values : AreAdjusted c adjusted

-- Bytes denote, in whatever format, a case with p-values and with fractions alone, on a graph of some kind, and aren't more than an input may have. Then
-- an answer to words that request `test`, by any priority, has the status 0 and reports what a rule rejects.
abbrev pub AreTestedBy : (Content → Type 0) → (Content → List Ratio → ℕ → Type 0) → Type 0
AreTestedBy HasGraph Rejects =
    (words : List (List ℕ)) (format : Encoding) (priority : Priority) (bytes : List ℕ) (proof : Option (List ℕ)) (c : Content) (ps : List Ratio) (a : Answer)
    → (case_in format bytes).Gives c → length bytes ≤ most_bytes → c.inputs ≡ Single ps → is_plain c ≡ true → HasGraph c
    → AskFor words (on_case format (Test priority)) → IsAnswerOf (outcome words (Some bytes) proof) a
    → (a.status ≡ Done) × ReportsRule (Rejects c ps) priority c a.text

-- on Holm's graph `test` rejects what Holm's rule rejects at the level of the case
abbrev pub HolmGraphsAreTestedByHolm : Type 0
HolmGraphsAreTestedByHolm =
    AreTestedBy (λ c. IsHolmGraph (entangled c)) (λ c ps. IsHolmRejected (number_at ps) (number_of c.alpha) (length c.names))

-- on the graph of a fixed sequence `test` rejects what the fixed sequence rejects
abbrev pub SequencesAreTestedInOrder : Type 0
SequencesAreTestedInOrder =
    AreTestedBy (λ c. IsSequenceGraph (entangled c)) (λ c ps. IsSequenceRejected (number_at ps) (number_of c.alpha) (length c.names))

-- weights over a common denominator, which is above 0
abbrev pub over : (ℕ → ℕ) → ℕ → ℕ → Number
over a d i = fraction (pos (a i)) (pos (suc d))

-- on a fallback graph whose weights have a common denominator of at most 100,000,000 `test` rejects what fallback with these weights rejects
abbrev pub FallbacksAreTestedByFallback : Type 0
FallbacksAreTestedByFallback =
    (a : ℕ → ℕ) (d : ℕ) → d < 100000000
    → AreTestedBy (λ c. IsFallbackGraph (over a d) (entangled c))
    (λ c ps. IsFallbackRejected (number_at ps) (number_of c.alpha) (length c.names) (over a d))

-- on the graph of parallel gatekeeping with `a` primary and `b` secondary hypotheses `test` rejects what parallel gatekeeping rejects
abbrev pub GatesAreTestedByGatekeeping : Type 0
GatesAreTestedByGatekeeping =
    (a b : ℕ)
    → AreTestedBy (λ c. IsGatekeepingGraph a b (entangled c)) (λ c ps. IsGatekeepingRejected (number_at ps) (number_of c.alpha) a b)
