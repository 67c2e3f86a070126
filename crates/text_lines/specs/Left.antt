-- What is left of a text, with its first line at hand.
use Rattle.std.specs.Prelude.{◌≡◌, ◌+◌, ℕ, List, [], ◌∷◌, Option, Some, None}
use Rattle.text_lines.specs.Lines.{Row, Remainder, rows_left, end_at}
use Rattle.text_lines.specs.View.{row}
use Rattle.text_lines.specs.declared.line.Line.{Line}

-- the lines that are still to be read, and the number of the line after the last one
pub record Left : Type 0 where
  pub rows : List Row
  pub end : ℕ

-- the first of these lines
abbrev pub first_of : List Row → Option Row
first_of [] = None
first_of (row ∷ rows) = Some row

-- the lines after the first one
abbrev pub rows_after_first : List Row → List Row
rows_after_first [] = []
rows_after_first (row ∷ rows) = rows

-- this line, if there is one, and the lines after it
abbrev pub rows_from : Option Line → List Row → List Row
rows_from (Some line) rows = row line ∷ rows
rows_from None rows = []

-- a line, if there is one, and what is left after it
abbrev pub ahead : Option Line → Remainder → Left
ahead first lines = record { rows = rows_from first (rows_left lines); end = end_at lines }

-- if there is no first line, all lines were taken
abbrev pub AreTaken : Option Line → Remainder → Type 0
AreTaken (Some line) lines = Unit {0}
AreTaken None lines = (rows_left lines ≡ []) × (lines.before + 1 ≡ end_at lines)
