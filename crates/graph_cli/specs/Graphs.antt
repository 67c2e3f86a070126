-- What `catalogue` answers.
use Rattle.std.specs.Prelude.{ℕ, ◌+◌, ◌-◌, ◌^◌, [], Result}
use Prim.Native.Nat.{min}
use Rattle.answers.specs.declared.answer.Answer.{Answer}
use Rattle.answers.specs.declared.refusal.Refusal.{Refusal}
use Rattle.answers.specs.Lines.{done}
use Rattle.answers.specs.Stages.{Stage, and_then, only}
use Rattle.case_model.specs.Content.{Content}
use Rattle.catalogue.specs.declared.fault.CatalogueFault.{CatalogueFault}
use Rattle.catalogue.specs.Makings.{holm_case, sequence_case, fallback_case, parallel_case, improved_case}
use Rattle.catalogue.specs.NamedGraphs.{equal_weights, part}
use Rattle.command_words.specs.declared.graph_name.SizedGraph.{SizedGraph}
use Rattle.command_words.specs.declared.graph_name.SizedGraph.TheVariants.{Holm, FixedSequence, Fallback, Parallel, ImprovedParallel}
use Rattle.edge_text.specs.CanonicalText.{canonical_text}
use Rattle.graph_cli.specs.Catalogue.{made_of}

-- how many hypotheses a named graph has, as it is reported: 2^64 - 1 if they are more
abbrev pub reported_size : SizedGraph → ℕ
reported_size (Holm n) = n
reported_size (FixedSequence n) = n
reported_size (Fallback n) = n
reported_size (Parallel a b) = min (a + b) (2 ^ 64 - 1)
reported_size (ImprovedParallel a b) = min (a + b) (2 ^ 64 - 1)

-- the case of a named graph, at the level 1/20 and without p-values; the weights of fallback are equal
unfoldable pub named_case : SizedGraph → Result Content CatalogueFault
named_case (Holm n) = holm_case n (part 20) []
named_case (FixedSequence n) = sequence_case n (part 20) []
named_case (Fallback n) = fallback_case (equal_weights n) (part 20) []
named_case (Parallel a b) = parallel_case a b (part 20) []
named_case (ImprovedParallel a b) = improved_case a b (part 20) []

-- the canonical text of the case that is the named graph; or the refusal that reports why no case of these sizes is made
unfoldable pub catalogue_stage : SizedGraph → Stage Refusal Answer
catalogue_stage graph = and_then (made_of (reported_size graph) (named_case graph)) (λ c. only (done (canonical_text c)))
