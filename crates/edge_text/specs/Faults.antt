-- The first line of a text that is not allowed, and what is wrong with it.
use Rattle.std.specs.Prelude.{◌≡◌, ℕ, List, Err}
use Rattle.edge_text.specs.declared.fault.LineKind.{LineKind}
use Rattle.edge_text.specs.Document.{text_reading}

-- the first fault of a text: the number of its line, from 1, and what is wrong with it
abbrev pub IsFirstFault : List ℕ → ℕ → LineKind → Type 0
IsFirstFault bytes number kind = text_reading bytes ≡ Err (record { line = number; kind = kind })
