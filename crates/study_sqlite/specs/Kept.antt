-- Looks in the table of looks, by what a connection held before and after.
use Rattle.std.specs.Prelude.{◌⊎◌, List, []}
use Rattle.graph_io.specs.declared.keeper.Look.{Look}
use Rattle.sqlite.specs.Store.{Ghosts}
use Rattle.sqlite.specs.Held.{Held, state}
use Rattle.study_sqlite.specs.declared.fault.FileFault.TheVariants.{Refused, NoMemory}
use Rattle.study_sqlite.specs.declared.row.LookRow.{LookRow}
use Rattle.study_sqlite.specs.Rows.{IsRowOf, AreRows}
use Rattle.study_sqlite.specs.Statements.{make_sql, put_sql, values_of, Ran, RanInto, ShowedRows, AreRowsRefused, AreRowsCut}

module _ {S : Type 0} (g : Ghosts S) (before after : Held S) where
  -- The looks are those of all rows: the table was made if it wasn't there, and then its rows were shown.
  pub record AreKept (looks : List Look) : Type 0 where
    pub middle : Held S
    pub rows : List LookRow
    pub made : Ran (state g before) (state g middle) make_sql []
    pub shown : ShowedRows (state g middle) (state g after) rows
    pub read : AreRows rows looks

  -- The row of the look was put after the others: the table was made if it wasn't there, and then the row was put there.
  pub record IsPut (look : Look) : Type 0 where
    pub middle : Held S
    pub row : LookRow
    pub made : Ran (state g before) (state g middle) make_sql []
    pub row_is : IsRowOf row look
    pub ran : Ran (state g middle) (state g after) put_sql (values_of row)

  -- the statement that makes the table gave an error
  abbrev pub IsTableRefused : Type 0
  IsTableRefused = RanInto (state g before) (state g after) make_sql [] Refused

  -- the table was made if it wasn't there, and then its rows gave no looks
  pub record AreMadeRowsRefused : Type 0 where
    pub middle : Held S
    pub made : Ran (state g before) (state g middle) make_sql []
    pub refused : AreRowsRefused (state g middle) (state g after)

  -- why a connection gave no looks
  abbrev pub AreLooksRefused : Type 0
  AreLooksRefused = IsTableRefused ⊎ AreMadeRowsRefused

  -- the table was made if it wasn't there, and then the statement that puts the row of the look gave an error
  pub record IsRowRefused (look : Look) : Type 0 where
    pub middle : Held S
    pub row : LookRow
    pub made : Ran (state g before) (state g middle) make_sql []
    pub row_is : IsRowOf row look
    pub refused : RanInto (state g middle) (state g after) put_sql (values_of row) Refused

  -- why a connection took no look
  abbrev pub IsLookRefused : Look → Type 0
  IsLookRefused look = IsTableRefused ⊎ IsRowRefused look

  -- the statement that makes the table was out of memory
  abbrev pub IsTableCut : Type 0
  IsTableCut = RanInto (state g before) (state g after) make_sql [] NoMemory

  -- out of memory, nothing but these ran: the statement that makes the table if it isn't there, and the query of its rows
  abbrev pub AreLooksCut : Type 0
  AreLooksCut = IsTableCut ⊎ ((middle : Held S) × Ran (state g before) (state g middle) make_sql [] × AreRowsCut (state g middle) (state g after))

  -- the table was made if it wasn't there, and then the statement that puts the row of the look was out of memory
  pub record IsRowCut (look : Look) : Type 0 where
    pub middle : Held S
    pub row : LookRow
    pub made : Ran (state g before) (state g middle) make_sql []
    pub row_is : IsRowOf row look
    pub cut : RanInto (state g middle) (state g after) put_sql (values_of row) NoMemory

  -- out of memory, the table was made at most if it wasn't there, and the statement that puts the row did not run, or gave this error
  abbrev pub IsLookCut : Look → Type 0
  IsLookCut look = IsTableCut ⊎ (Ran (state g before) (state g after) make_sql [] ⊎ IsRowCut look)
