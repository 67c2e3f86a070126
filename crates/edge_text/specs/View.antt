-- What the reader's functions return, and lines as the writer appends them.
use Rattle.std.specs.Prelude.{◌≡◌, ℕ, List, [], ◌∷◌, ◌++◌, Result, Ok, Err}
use Rattle.text_lines.specs.Faults.{FaultAt}
use Rattle.text_lines.specs.Spelling.{line_spelt}
use Rattle.edge_text.specs.declared.fault.LineKind.{LineKind}
use Rattle.edge_text.specs.declared.fault.TextFault.{TextFault}
use Rattle.edge_text.specs.declared.fault.TextFault.TheVariants as faults
use Rattle.edge_text.specs.Faults.{IsFirstFault}
use Rattle.edge_text.specs.Grammar.{Words}

-- the result is this answer, its fault on the line of this number, or out of memory
abbrev pub Gives : {A : Type 0} → ℕ → Result A LineKind → Result A TextFault → Type 0
Gives number said (Ok x) = said ≡ Ok x
Gives number said (Err (faults.Line n kind)) = (n ≡ number) × (said ≡ Err kind)
Gives number said (Err (faults.Case refused)) = ⊥
Gives number said (Err faults.NoMemory) = Unit {0}

-- the result is this answer of a whole text, or out of memory
abbrev pub GivesAll : {A : Type 0} → Result A (FaultAt LineKind) → Result A TextFault → Type 0
GivesAll said (Ok x) = said ≡ Ok x
GivesAll said (Err (faults.Line n kind)) = said ≡ Err (record { line = n; kind = kind })
GivesAll said (Err (faults.Case refused)) = ⊥
GivesAll said (Err faults.NoMemory) = Unit {0}

-- the first fault of a text, or out of memory
abbrev pub IsFaultAt : List ℕ → TextFault → Type 0
IsFaultAt bytes (faults.Line n kind) = IsFirstFault bytes n kind
IsFaultAt bytes (faults.Case refused) = ⊥
IsFaultAt bytes faults.NoMemory = Unit {0}

-- a line of these words, and its end
abbrev pub line_of : Words → List ℕ
line_of words = line_spelt words ++ 10 ∷ []
