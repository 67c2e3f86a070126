use Rattle.std.proofs.Common.{◌≡◌, ◌+◌, ◌*◌, ◌<◌, ◌≤◌, ◌-◌}
use Rattle.typed_numbers.proofs.simplest.simplest_between.Given as goal

-- One fraction is below the interval and one above it, neighbours.
abbrev pub invariant-loop-below_den : goal.invariant-loop-below_den
invariant-loop-below_den l = record {
  below_den_some : 0 < l.below_den;
  above_den_some : 0 < l.above_den;
  below_num_short : l.below_num ≤ l.below_den;
  above_num_short : l.above_num ≤ l.above_den;
  below_den_short : l.below_den ≤ 536870912;
  above_den_short : l.above_den ≤ 536870912;
  unit : l.above_num * l.below_den ≡ l.below_num * l.above_den + 1;
  below : l.below_num * l.scale + l.ends ≤ l.low * l.below_den;
  above : l.high * l.above_den + l.ends ≤ l.above_num * l.scale;
}

abbrev pub decreases-loop-below_den : goal.decreases-loop-below_den
decreases-loop-below_den l = 1000000000 - (l.below_den + l.above_den)
