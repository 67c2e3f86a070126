-- The first of the rows that are left.
use Rattle.std.proofs.Common.{◌≡◌, List, [], ◌∷◌, Some}
use Rattle.text_lines.specs.Lines.{Row}
use Rattle.text_lines.specs.Left.{first_of, rows_after_first}

pub first_row : (rows : List Row) (row : Row) → Some row ≡ first_of rows → rows ≡ row ∷ rows_after_first rows
first_row [] row e = absurd (cc e)
first_row (x ∷ rows) row e = cc
