use Rattle.std.proofs.Common.{◌≡◌, length}
use Rattle.field_core.specs.Filled.{AreFilledBelow}
use Rattle.row_removal.specs.StoredRows.{rows_size}
use Rattle.row_removal.specs.RowRemoval.{new_numerator}
use Rattle.row_removal.proofs.new_rows.write_numerators.Given as goal

abbrev pub invariant-loop-k : goal.invariant-loop-k
invariant-loop-k l = AreFilledBelow (λ k r. r ≡ new_numerator l.graph l.j l.l k) l.k l.next × (length l.next ≡ rows_size l.graph)
