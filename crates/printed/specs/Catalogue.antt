-- What `catalogue` prints is read as the case of the named graph, on which the closed test decides as the rule of the textbooks.
use Rattle.std.specs.Prelude.{◌≡◌, ◌↔◌, ◌≤◌, ◌+◌, ℕ, List, Option, Some, Ok, length}
use Rattle.field_core.specs.Fractions.{one_over}
use Rattle.field_core.specs.Number.{Number}
use Rattle.field_core.specs.declared.ratio.Ratio.{Ratio}
use Rattle.fraction.specs.View.{number_of}
use Rattle.answers.specs.declared.answer.Answer.{Answer}
use Rattle.answers.specs.declared.status.Status.TheVariants.{Done}
use Rattle.answers.specs.Stages.{IsAnswerOf, most_bytes}
use Rattle.case_model.specs.Content.{Content, IsRejectedIn, entangled}
use Rattle.case_model.specs.Draft.{ArePValues}
use Rattle.case_model.specs.Sums.{number_at}
use Rattle.case_model.specs.TextbookGraphs.{IsHolmGraph, IsSequenceGraph, IsFallbackGraph}
use Rattle.case_model.specs.TextbookRules.{IsHolmRejected, IsSequenceRejected, IsFallbackRejected}
use Rattle.case_model.specs.Validity.{IsValidContent}
use Rattle.case_model.specs.declared.inputs.Inputs.TheVariants.{Bare}
use Rattle.catalogue.specs.WeightedGraphs.{names_of}
use Rattle.command_words.specs.Asked.{Encoding, on_case, catalogue}
use Rattle.command_words.specs.declared.command.CaseTask.TheVariants.{Test}
use Rattle.command_words.specs.declared.format.Format.TheVariants.{Text}
use Rattle.command_words.specs.declared.graph_name.SizedGraph.{SizedGraph}
use Rattle.command_words.specs.declared.graph_name.SizedGraph.TheVariants.{Holm, FixedSequence, Fallback, Parallel, ImprovedParallel}
use Rattle.sequential.specs.OtherPValues.{with_p}
use Rattle.sequential.specs.declared.priority.Priority.{Priority}
use Rattle.textbook.specs.DefinedDecisions.{IsNeverWide}
use Rattle.textbook.specs.Gatekeeping.{IsGatekeepingGraph, IsGatekeepingRejected}
use Rattle.graph_cli.specs.Accepted.{case_in}
use Rattle.graph_cli.specs.Graphs.{named_case}
use Rattle.graph_cli.specs.Outcome.{AskFor, outcome}
use Rattle.printed.specs.Canon.{IsReadAs}
use Rattle.printed.specs.Rules.{ReportsRule}

-- how many hypotheses a named graph has
abbrev pub graph_size : SizedGraph → ℕ
graph_size (Holm n) = n
graph_size (FixedSequence n) = n
graph_size (Fallback n) = n
graph_size (Parallel a b) = a + b
graph_size (ImprovedParallel a b) = a + b

-- the level of named graphs, 1/20
abbrev pub twentieth : Number
twentieth = one_over 20

-- Bytes denote the case with p-values, in whatever format, and aren't more than an input may have. Then an answer to words that request `test`, by any
-- priority, has the status 0 and reports the rule.
abbrev pub IsTestedBy : ((ℕ → Number) → ℕ → Type 0) → Content → Type 0
IsTestedBy Rejects c = (words : List (List ℕ)) (format : Encoding) (priority : Priority) (bytes : List ℕ) (proof : Option (List ℕ)) (ps : List Ratio)
    (a : Answer) → ArePValues (length c.names) ps → (case_in format bytes).Gives (with_p c ps) → length bytes ≤ most_bytes
    → AskFor words (on_case format (Test priority)) → IsAnswerOf (outcome words (Some bytes) proof) a
    → (a.status ≡ Done) × ReportsRule (Rejects (number_at ps)) priority (with_p c ps) a.text

-- By whatever p-values, one for each hypothesis, the closed test rejects exactly what a rule rejects, nothing is too wide, and `test` reports the rule.
pub record DecidesBy (Rejects : (ℕ → Number) → ℕ → Type 0) (c : Content) : Type 0 where
  pub rejects : (ps : List Ratio) → ArePValues (length c.names) ps → (j : ℕ) → IsRejectedIn (with_p c ps) j ↔ Rejects (number_at ps) j
  pub never_wide : (ps : List Ratio) → ArePValues (length c.names) ps → IsNeverWide (with_p c ps)
  pub tested : IsTestedBy Rejects c

-- The case has the graph of the textbooks, and is decided by their rule at the level 1/20. The weights of fallback are equal. Improved parallel
-- gatekeeping has no such rule, since how much a primary hypothesis gets back depends on how many secondary ones lead to it. Also, its graph of 32 and
-- 32 hypotheses is too wide.
abbrev pub HasItsRule : SizedGraph → Content → Type 0
HasItsRule (Holm n) c = IsHolmGraph (entangled c) × DecidesBy (λ p. IsHolmRejected p twentieth n) c
HasItsRule (FixedSequence n) c = IsSequenceGraph (entangled c) × DecidesBy (λ p. IsSequenceRejected p twentieth n) c
HasItsRule (Fallback n) c = IsFallbackGraph (λ i. one_over n) (entangled c) × DecidesBy (λ p. IsFallbackRejected p twentieth n (λ i. one_over n)) c
HasItsRule (Parallel a b) c = IsGatekeepingGraph a b (entangled c) × DecidesBy (λ p. IsGatekeepingRejected p twentieth a b) c
HasItsRule (ImprovedParallel a b) c = Unit {0}

-- The text is read as the case of a named graph: with its size, its weights and edges, at the level 1/20, and without p-values. With a p-value for
-- each hypothesis it is a case as well.
pub record PrintsNamedGraph (graph : SizedGraph) (printed : List ℕ) : Type 0 where
  pub case : Content
  pub read : IsReadAs Text case printed
  pub made : named_case graph ≡ Ok case
  pub names : case.names ≡ names_of (graph_size graph)
  pub level : number_of case.alpha ≡ twentieth
  pub bare : case.inputs ≡ Bare
  pub filled : (ps : List Ratio) → ArePValues (length case.names) ps → IsValidContent (with_p case ps)
  pub rule : HasItsRule graph case

-- an answer with status 0 to words that request `catalogue` is read as the case of the named graph
abbrev pub CatalogueIsOfTheNamedGraphs : Type 0
CatalogueIsOfTheNamedGraphs = (words : List (List ℕ)) (graph : SizedGraph) (case proof : Option (List ℕ)) (a : Answer)
    → AskFor words (catalogue graph) → IsAnswerOf (outcome words case proof) a → a.status ≡ Done → PrintsNamedGraph graph a.text
