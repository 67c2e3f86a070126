use Rattle.std.proofs.Common.{◌<◌, ℕ, get_or}
use Rattle.typed_numbers.specs.Readings.{reading_of}
use Rattle.trial_rows.specs.Rows.{in_row}
use Rattle.welungad_c.specs.Readings.{AreWordsOf}
use Rattle.welungad_c.proofs.readings.write_readings.Given as goal

abbrev pub invariant-loop-i : goal.invariant-loop-i
invariant-loop-i l = (k : ℕ) → k < l.i → AreWordsOf (reading_of (get_or l.doubles k 0)) (in_row 4 l.out k)
