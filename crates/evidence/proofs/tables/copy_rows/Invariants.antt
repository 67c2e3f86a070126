use Rattle.std.proofs.Common.{◌≡◌, take}
use Rattle.evidence.proofs.tables.copy_rows.Given as goal

abbrev pub invariant-loop-l : goal.invariant-loop-l
invariant-loop-l g l = l.copied ≡ take l.l l.rows
