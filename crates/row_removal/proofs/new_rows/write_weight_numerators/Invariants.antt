use Rattle.std.proofs.Common.{◌≡◌, length}
use Rattle.field_core.specs.Filled.{AreFilledBelow}
use Rattle.row_removal.specs.StoredRows.{rows_size}
use Rattle.row_removal.specs.RowRemoval.{new_weight}
use Rattle.row_removal.proofs.new_rows.write_weight_numerators.Given as goal

abbrev pub invariant-loop-l : goal.invariant-loop-l
invariant-loop-l l = AreFilledBelow (λ k r. r ≡ new_weight l.graph l.j k) l.l l.next × (length l.next ≡ rows_size l.graph)
