use Rattle.std.proofs.Common.{take}
use Rattle.study_sqlite.specs.Rows.{AreRows}
use Rattle.study_sqlite.proofs.rows.read_rows.Given as goal

abbrev pub invariant-loop-at : goal.invariant-loop-at
invariant-loop-at l = AreRows (take l.at l.rows) l.looks
