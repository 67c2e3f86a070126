use Rattle.std.proofs.Common.{◌≡◌, ◌<ℤ◌, pos, Ok}
use Rattle.row_removal.specs.Gathering.{common_below}
use Rattle.row_removal.proofs.gathering.GivenGraph.common_denominator.Given as goal

abbrev pub invariant-loop-k : goal.invariant-loop-k
invariant-loop-k l = (common_below l.self l.row l.k ≡ Ok l.c) × (pos 0 <ℤ l.c)
