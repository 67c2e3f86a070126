use Rattle.std.proofs.Common.{◌≡◌, map}
use Rattle.std.specs.List.{range_with_len}
use Rattle.catalogue.specs.WeightedGraphs.{name_of}
use Rattle.catalogue.proofs.draft.names.Given as goal

abbrev pub invariant-loop-i : goal.invariant-loop-i
invariant-loop-i l = l.names ≡ map name_of (range_with_len 0 l.i)
