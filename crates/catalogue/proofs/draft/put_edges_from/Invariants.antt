use Rattle.std.proofs.Common.{◌≡◌, ◌++◌}
use Rattle.std.specs.List.{flat_map, range_with_len}
use Rattle.catalogue.specs.WeightedGraphs.{edge_in}
use Rattle.catalogue.proofs.draft.put_edges_from.Given as goal

abbrev pub invariant-loop-to : goal.invariant-loop-to
invariant-loop-to g l = l.edges ≡ l.fn.edges ++ flat_map (edge_in (g.G.NamedGraph.graph l.graph) l.from) (range_with_len 0 l.to)
