-- Statements on rows.
use Rattle.std.specs.Prelude.{◌≡◌, ℕ, ℤ, List}
use Rattle.graph_io.specs.declared.keeper.Look.{Look}
use Rattle.study_sqlite.specs.declared.row.LookRow.{LookRow}
use Rattle.study_sqlite.specs.Rows.{IsRow, AreRows, IsFirstBad}

-- no row is that of two looks
abbrev pub RowsSayOneLook : Type 0
RowsSayOneLook =
    (hypothesis stage : ℤ) (p : List ℕ) (first second : Look)
    → IsRow hypothesis stage p first → IsRow hypothesis stage p second → first ≡ second

-- no look has two rows
abbrev pub LooksHaveOneRow : Type 0
LooksHaveOneRow =
    (look : Look) (hypothesis stage other other_stage : ℤ) (p other_p : List ℕ)
    → IsRow hypothesis stage p look → IsRow other other_stage other_p look
    → (hypothesis ≡ other) × (stage ≡ other_stage) × (p ≡ other_p)

-- rows are read as one list of looks
abbrev pub RowsAreReadOneWay : Type 0
RowsAreReadOneWay = (rows : List LookRow) (first second : List Look) → AreRows rows first → AreRows rows second → first ≡ second

-- rows have at most one first bad row
abbrev pub RowsHaveOneFault : Type 0
RowsHaveOneFault = (rows : List LookRow) (first second : ℕ) → IsFirstBad rows first → IsFirstBad rows second → first ≡ second

-- rows of looks have no bad row
abbrev pub ReadRowsHaveNoFault : Type 0
ReadRowsHaveNoFault = (rows : List LookRow) (looks : List Look) (place : ℕ) → AreRows rows looks → ¬ IsFirstBad rows place
