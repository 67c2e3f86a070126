use Rattle.std.proofs.Common.{◌≡◌, length, take}
use Rattle.row_removal.proofs.row.copy_all.Given as goal

abbrev pub invariant-loop-k : goal.invariant-loop-k
invariant-loop-k l = (take l.k l.numerators ≡ take l.k l.other) × (length l.numerators ≡ length l.other)
