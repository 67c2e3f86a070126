-- Lines as contracts of readers see them.
use Rattle.std.specs.Prelude.{◌≡◌, ◌+◌, Option, IfSome, IfNone}
use Rattle.std.specs.Iterator.{YieldsFirstBy}
use Rattle.text_lines.specs.declared.line.Line.{Line}
use Rattle.text_lines.specs.Lines.{Row, Remainder, rows_left, end_at}

-- a line that was taken
abbrev pub row : Line → Row
row line = record { number = line.number; text = line.text.now }

-- The next line that isn't skipped was taken, and the lines before what is left end with it. If there is no such line, all lines were taken.
pub record TakesRow (old : Remainder) (result : Option Line) (new : Remainder) : Type 0 where
  pub row : YieldsFirstBy row rows_left old result new
  pub end : end_at new ≡ end_at old
  pub behind : IfSome result (λ line. new.before ≡ line.number)
  pub done : IfNone result (new.before + 1 ≡ end_at old)
