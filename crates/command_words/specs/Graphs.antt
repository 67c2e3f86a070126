-- Named graphs with their sizes.
use Rattle.std.specs.Prelude.{ℕ, Bool, true, false, Option, Some}
use Rattle.std.specs.Option.{option_map}
use Rattle.command_words.specs.declared.graph_name.GraphName.{GraphName}
use Rattle.command_words.specs.declared.graph_name.GraphName.TheVariants as names
use Rattle.command_words.specs.declared.graph_name.SizedGraph.{SizedGraph}
use Rattle.command_words.specs.declared.graph_name.SizedGraph.TheVariants.{Holm, FixedSequence, Fallback, Parallel, ImprovedParallel}

-- a graph has a second size
abbrev pub has_second : GraphName → Bool
has_second names.Holm = false
has_second names.FixedSequence = false
has_second names.Fallback = false
has_second names.Parallel = true
has_second names.ImprovedParallel = true

-- a graph with its sizes; nothing if the second one is missing
abbrev pub sized : GraphName → ℕ → Option ℕ → Option SizedGraph
sized names.Holm size second = Some (Holm size)
sized names.FixedSequence size second = Some (FixedSequence size)
sized names.Fallback size second = Some (Fallback size)
sized names.Parallel size second = option_map (Parallel size) second
sized names.ImprovedParallel size second = option_map (ImprovedParallel size) second
