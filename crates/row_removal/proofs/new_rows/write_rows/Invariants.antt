use Rattle.std.proofs.Common.{◌≡◌, length, All}
use Rattle.field_core.specs.Filled.{AreFilledBelow}
use Rattle.row_removal.specs.StoredRow.{StoredRow}
use Rattle.row_removal.specs.StoredRows.{rows_size}
use Rattle.row_removal.specs.RowRemoval.{new_row}
use Rattle.row_removal.proofs.new_rows.write_rows.Given as goal

abbrev pub invariant-loop-l : goal.invariant-loop-l
invariant-loop-l l =
    AreFilledBelow (λ k r. r ≡ new_row l.graph l.j k) l.l l.next
    × All (λ (r : StoredRow). length r.numerators ≡ rows_size l.graph) l.next
    × (length l.spare.numerators ≡ rows_size l.graph)
