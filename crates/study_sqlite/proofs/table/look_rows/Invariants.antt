use Rattle.std.proofs.Common.{take}
use Rattle.std.specs.List.{AllZip}
use Rattle.study_sqlite.specs.Statements.{IsShownAs}
use Rattle.study_sqlite.proofs.table.look_rows.Given as goal

abbrev pub invariant-loop-at : goal.invariant-loop-at
invariant-loop-at l = AllZip IsShownAs (take l.at l.answer) l.rows
