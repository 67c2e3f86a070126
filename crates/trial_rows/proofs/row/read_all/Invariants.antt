use Rattle.std.proofs.Common.{◌≡◌, ◌<◌, ℕ, Some, get_or}
use Rattle.case_model.specs.Sums.{ratio_at}
use Rattle.typed_numbers.specs.Readings.{reading_of}
use Rattle.trial_rows.proofs.row.read_all.Given as goal

abbrev pub invariant-loop-j : goal.invariant-loop-j
invariant-loop-j l = (k : ℕ) → k < l.j → reading_of (get_or l.doubles k 0) ≡ Some (ratio_at l.p_values k)
