-- The statements on the table of looks, and what they did by what a connection showed before and after.
use Rattle.std.specs.Prelude.{◌≡◌, ◌⊎◌, ℕ, List, [], ◌∷◌, Contains, Ok, Err}
use Rattle.std.specs.List.{AllZip}
use Rattle.graph_io.specs.declared.keeper.Look.{Look}
use Rattle.sqlite.specs.declared.error.Error.{Error}
use Rattle.sqlite.specs.declared.types.Value.TheVariants.{Int, Text}
use Rattle.sqlite.specs.Order.{Row, column}
use Rattle.sqlite.specs.State.{State, Executes, Shown, FailsToQuery}
pub use Rattle.kept_rows.specs.Table.{make_sql, put_sql, rows_sql}
use Rattle.study_sqlite.specs.declared.fault.FileFault.{FileFault}
use Rattle.study_sqlite.specs.declared.fault.FileFault.TheVariants.{Refused, NoMemory}
use Rattle.study_sqlite.specs.declared.row.LookRow.{LookRow}
use Rattle.study_sqlite.specs.FileFaults.{fault_of_error}
use Rattle.study_sqlite.specs.Rows.{IsRowOf}

-- the values of a row, in the order of the columns
abbrev pub values_of : LookRow → Row
values_of row = Int row.hypothesis ∷ Int row.stage ∷ Text row.p ∷ []

-- a row of an answer shows a row of a look in its first three columns
pub record IsShownAs (shown : Row) (row : LookRow) : Type 0 where
  pub hypothesis : column shown 0 ≡ Int row.hypothesis
  pub stage : column shown 1 ≡ Int row.stage
  pub p : column shown 2 ≡ Text row.p

-- a row of an answer shows a row that is not the row of a look
abbrev pub ShowsNoLook : Row → Type 0
ShowsNoLook shown = (row : LookRow) (look : Look) → IsShownAs shown row → ¬ IsRowOf row look

module _ (old new : State) where
  -- a statement ran
  abbrev pub Ran : List ℕ → Row → Type 0
  Ran sql values = (count : ℕ) × Executes sql values old new (Ok count)

  -- a statement gave an error, which is reported as this fault
  abbrev pub RanInto : List ℕ → Row → FileFault → Type 0
  RanInto sql values fault = (error : Error) × (fault ≡ fault_of_error error) × Executes sql values old new (Err error)

  -- the rows are those that the query showed, in its order
  abbrev pub ShowedRows : List LookRow → Type 0
  ShowedRows rows = (answer : List Row) × Shown rows_sql [] old new answer × AllZip IsShownAs answer rows

  -- the query of the rows gave an error other than out of memory
  abbrev pub IsQueryRefused : Type 0
  IsQueryRefused = (error : Error) × (fault_of_error error ≡ Refused) × FailsToQuery rows_sql [] old new error

  -- a row that the query showed is not the row of a look
  abbrev pub ShowedNoLook : Type 0
  ShowedNoLook = (answer : List Row) × (shown : Row) × Shown rows_sql [] old new answer × Contains answer shown × ShowsNoLook shown

  -- why the rows gave no looks
  abbrev pub AreRowsRefused : Type 0
  AreRowsRefused = IsQueryRefused ⊎ ShowedNoLook

  -- out of memory, the query of the rows failed, or it showed rows
  abbrev pub AreRowsCut : Type 0
  AreRowsCut =
      ((error : Error) × (fault_of_error error ≡ NoMemory) × FailsToQuery rows_sql [] old new error)
      ⊎ ((answer : List Row) × Shown rows_sql [] old new answer)
