use Rattle.std.proofs.Common.{◌≡◌, replicate}
use Rattle.adjusted_p.specs.AdjustedLists.{not_reached}
use Rattle.adjusted_p.proofs.adjusted.none_reached.Given as goal

abbrev pub invariant-loop : goal.invariant-loop
invariant-loop l = l.values ≡ replicate l.counter not_reached
