-- Rows of looks.
use Rattle.std.specs.Prelude.{◌≡◌, ◌<◌, ◌^◌, ◌+◌, ℕ, ℤ, pos, List, ◌∷◌, ◌++◌, length}
use Rattle.std.specs.List.{AllZip}
use Rattle.field_core.specs.View.{terms}
use Rattle.fraction.specs.Spelling.{spelling}
use Rattle.graph_io.specs.declared.keeper.Look.{Look}
use Rattle.study_sqlite.specs.declared.fault.RowsFault.{RowsFault}
use Rattle.study_sqlite.specs.declared.fault.RowsFault.TheVariants.{Bad, NoMemory}
use Rattle.study_sqlite.specs.declared.row.LookRow.{LookRow}

-- Three values are the row of a look: its hypothesis and its stage, which are numbers of 32 bits, and its p-value as it is printed.
pub record IsRow (hypothesis stage : ℤ) (p : List ℕ) (look : Look) : Type 0 where
  pub hypothesis_is : hypothesis ≡ pos look.hypothesis
  pub hypothesis_size : look.hypothesis < 2 ^ 32
  pub stage_is : stage ≡ pos look.stage
  pub stage_size : look.stage < 2 ^ 32
  pub p_is : p ≡ spelling (terms look.p)

-- the three values of a row are the row of a look
abbrev pub IsRowOf : LookRow → Look → Type 0
IsRowOf row look = IsRow row.hypothesis row.stage row.p look

-- a row for each look, in order
abbrev pub AreRows : List LookRow → List Look → Type 0
AreRows rows looks = AllZip IsRowOf rows looks

-- a row that is not the row of a look
abbrev pub IsOfNone : LookRow → Type 0
IsOfNone row = (look : Look) → ¬ IsRowOf row look

-- The row at a place, counted from 1, is not the row of a look, and those before it are rows of looks.
pub record IsFirstBad (rows : List LookRow) (place : ℕ) : Type 0 where
  pub before : List LookRow
  pub row : LookRow
  pub after : List LookRow
  pub looks : List Look
  pub rows_are : rows ≡ before ++ row ∷ after
  pub place_is : place ≡ length before + 1
  pub good : AreRows before looks
  pub bad : IsOfNone row

-- why rows gave no looks
abbrev pub IsRowsFault : List LookRow → RowsFault → Type 0
IsRowsFault rows (Bad place) = IsFirstBad rows place
IsRowsFault rows NoMemory = Unit {0}
