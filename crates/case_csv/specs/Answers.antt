-- What readers of records return, one after another, up to the first fault.
use Rattle.std.specs.Prelude.{ℕ, Bool, true, false, Result, Ok, Err}
use Rattle.field_core.specs.Answers.{IsUnless, told_as}
use Rattle.case_csv.specs.declared.fault.CsvFault.{CsvFault}
use Rattle.case_csv.specs.declared.fault.CsvFault.TheVariants as faults
use Rattle.case_csv.specs.declared.fault.RowKind.{RowKind}

-- what is wrong with records: the record and the column, both from 1, and the kind of fault
pub record RowFault : Type 0 where
  pub row : ℕ
  pub column : ℕ
  pub kind : RowKind

-- the fault of records, as the crate reports it
abbrev pub row_fault : RowFault → CsvFault
row_fault fault = faults.Row fault.row fault.column fault.kind

-- the answer, with its fault as the crate reports it
abbrev pub told : {A : Type 0} → Result A RowFault → Result A CsvFault
told answer = told_as row_fault answer

-- the result is this answer, or the error for no memory
abbrev pub IsAnswer : {A : Type 0} → Result A CsvFault → Result A RowFault → Type 0
IsAnswer result answer = IsUnless faults.NoMemory result (told answer)

-- the answer of a cell, with its fault at the number of its record and its column
abbrev pub at : {A : Type 0} → ℕ → ℕ → Result A RowKind → Result A RowFault
at row column answer = told_as (λ kind. record { row = row; column = column; kind = kind }) answer

-- nothing if a test holds, and else this fault
abbrev pub holds_or : RowKind → Bool → Result (Unit {0}) RowKind
holds_or kind true = Ok tt
holds_or kind false = Err kind
