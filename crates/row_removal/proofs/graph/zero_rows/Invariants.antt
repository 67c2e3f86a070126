use Rattle.std.proofs.Common.{◌≡◌, replicate}
use Rattle.row_removal.specs.StoredRow.{zero_row}
use Rattle.row_removal.proofs.graph.zero_rows.Given as goal

abbrev pub invariant-loop : goal.invariant-loop
invariant-loop l = l.rows.items ≡ replicate l.counter (zero_row l.count)
