use Rattle.std.proofs.Common.{◌≡◌, [], ◌++◌}
use Rattle.std.specs.List.{flat_map, range_with_len}
use Rattle.catalogue.specs.WeightedGraphs.{edges_from}
use Rattle.catalogue.proofs.draft.edges.Given as goal

abbrev pub invariant-loop-from : goal.invariant-loop-from
invariant-loop-from g l = l.edges ≡ [] ++ flat_map (edges_from (g.G.NamedGraph.graph l.graph)) (range_with_len 0 l.from)
