use Rattle.std.proofs.Common.{◌≡◌, length, take, All}
use Rattle.row_removal.specs.StoredRow.{StoredRow}
use Rattle.row_removal.proofs.graph.copy_rows.Given as goal

abbrev pub invariant-loop-l : goal.invariant-loop-l
invariant-loop-l l = (take l.l l.rows ≡ take l.l l.other) × All (λ (r : StoredRow). length r.numerators ≡ l.count) l.rows
