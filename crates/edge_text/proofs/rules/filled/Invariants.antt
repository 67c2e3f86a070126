use Rattle.std.proofs.Common.{◌≡◌, map, take, Some}
use Rattle.edge_text.proofs.rules.filled.Given as goal

abbrev pub invariant-loop-value : goal.invariant-loop-value
invariant-loop-value l = l.filled ≡ map Some (take l.value-index l.values)
