use Rattle.std.proofs.Common.{◌≡◌, ℕ, ◌+◌, ◌^◌, ◌<◌, true, false}
use Rattle.field_core.specs.NumberedSets.{members}
use Rattle.case_model.specs.SetTableView.{answer_of}
use Rattle.closed_test.proofs.closed.all_larger.Given as goal

abbrev pub invariant-loop-k : goal.invariant-loop-k
invariant-loop-k l = (j : ℕ) → j < l.k → members l.set j ≡ false → answer_of l.closed (l.set + 2 ^ j) ≡ true
