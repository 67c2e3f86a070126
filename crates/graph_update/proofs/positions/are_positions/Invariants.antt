use Rattle.std.proofs.Common.{take}
use Rattle.field_core.specs.Sets.{whole}
use Rattle.field_core.specs.Runs.{IsOrder}
use Rattle.graph_update.proofs.positions.are_positions.Given as goal

-- the positions so far are below the size, each once
abbrev pub invariant-loop-i : goal.invariant-loop-i
invariant-loop-i l = IsOrder l.size whole (take l.i l.removed)
