use Rattle.std.proofs.Common.{◌≡◌, map}
use Rattle.std.specs.List.{range_with_len}
use Rattle.catalogue.proofs.draft.weights.Given as goal

abbrev pub invariant-loop-i : goal.invariant-loop-i
invariant-loop-i g l = l.weights ≡ map (g.G.NamedGraph.graph l.graph).weight (range_with_len 0 l.i)
