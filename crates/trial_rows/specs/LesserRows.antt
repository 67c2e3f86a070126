-- Rows in which p-values fall.
use Rattle.std.specs.Prelude.{◌≡◌, ◌<◌, ℕ, length}
use lib.Dec.{T}
use lib.Ieee.{binary64, le, of_bits}
use Rattle.case_model.specs.Content.{Content}
use Rattle.trial_rows.specs.Rows.{IsRowTested}

-- Of the doubles with these bits, each of the first `m` lesser ones is at most the double at the same place, as the kit compares doubles.
abbrev pub AreLesser : ℕ → (lesser doubles : ℕ → ℕ) → Type 0
AreLesser m lesser doubles = (j : ℕ) → j < m → T (le (of_bits binary64 (lesser j)) (of_bits binary64 (doubles j)))

-- If two rows on one case are decided, and each double of the one is at most that of the other, the one has a mark wherever the other has.
abbrev pub MarksStayWhereDoublesFall : Type 0
MarksStayWhereDoublesFall = (c : Content) (doubles lesser marks others : ℕ → ℕ) → AreLesser (length c.names) lesser doubles
    → IsRowTested c doubles marks 0 → IsRowTested c lesser others 0 → (j : ℕ) → j < length c.names → marks j ≡ 1 → others j ≡ 1
