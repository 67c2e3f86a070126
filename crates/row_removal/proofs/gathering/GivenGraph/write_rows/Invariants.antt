use Rattle.std.proofs.Common.{◌≡◌, Some, length, All}
use Rattle.field_core.specs.Filled.{AreFilledBelow}
use Rattle.removal.specs.StoredGraph.{size}
use Rattle.row_removal.specs.StoredRow.{StoredRow}
use Rattle.row_removal.specs.Gathering.{gathered_row}
use Rattle.row_removal.proofs.gathering.GivenGraph.write_rows.Given as goal

abbrev pub invariant-loop-l : goal.invariant-loop-l
invariant-loop-l l =
    AreFilledBelow (λ k r. r ≡ gathered_row l.self (Some k)) l.l l.next
    × All (λ (r : StoredRow). length r.numerators ≡ size l.self) l.next
