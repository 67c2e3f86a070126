-- Languages of lines: a text is read line by line, from place to place.
use Rattle.std.specs.Prelude.{ℕ, List, [], ◌∷◌, Result}
use Rattle.field_core.specs.Answers.{and_then}
use Rattle.text_lines.specs.Lines.{Row}
pub use Rattle.text_lines.specs.Faults.{FaultAt, on_line}

-- A language of lines has three parts. What it sees of the text of a line: the text itself, or its words. The place after a line at a place, or what
-- is wrong with the line. What a text that ends at a place reads as, or what is wrong with that.
pub record Language (Line Place Said Kind : Type 0) : Type 0 where
  pub line_of : List ℕ → Line
  pub step : Place → Line → Result Place Kind
  pub end : Place → Result Said Kind

-- what lines denote from a place on, or the first fault; `end` is the number of the line after the last one
abbrev pub reading : {Line Place Said Kind : Type 0} → Language Line Place Said Kind → Place → List Row → ℕ → Result Said (FaultAt Kind)
reading L place [] end = on_line end (L.end place)
reading L place (row ∷ rows) end = and_then (on_line row.number (L.step place (L.line_of row.text))) (λ next. reading L next rows end)
