use Rattle.std.proofs.Common.{◌≡◌, None}
use Rattle.case_model.specs.CaseFaults.{first_below, row_sum}
use Rattle.case_model.proofs.row_sums.first_row.Given as goal

abbrev pub invariant-loop-i : goal.invariant-loop-i
invariant-loop-i l = first_below (row_sum l.count l.c l.table) l.i ≡ None
