use Rattle.std.proofs.Common.{◌≡◌, drop}
use Rattle.case_model.specs.CaseFaults.{first_from, component_rows, rows_fault}
use Rattle.case_model.proofs.row_sums.rows_fault.Given as goal

abbrev pub invariant-loop-c : goal.invariant-loop-c
invariant-loop-c l = first_from (component_rows l.count) l.c (drop l.c l.components) ≡ rows_fault l.count l.components
