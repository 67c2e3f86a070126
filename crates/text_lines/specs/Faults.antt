-- The faults of lines.
use Rattle.std.specs.Prelude.{ℕ, Result, Ok, Err}

-- the number of a line, and what is wrong with it
pub record FaultAt (Kind : Type 0) : Type 0 where
  pub line : ℕ
  pub kind : Kind

-- the same answer, a fault being on the line of this number
abbrev pub on_line : {A Kind : Type 0} → ℕ → Result A Kind → Result A (FaultAt Kind)
on_line number (Ok x) = Ok x
on_line number (Err kind) = Err (record { line = number; kind = kind })
