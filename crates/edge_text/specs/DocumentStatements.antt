-- The form of texts of cases: what lines say by it, and the places at which they are read.
use Rattle.std.specs.Prelude.{◌≡◌, ◌↔◌, ℕ, List, map, Some, Ok, codes}
use Rattle.field_core.specs.declared.ratio.Ratio.{Ratio}
use Rattle.case_model.specs.declared.draft.Draft.{Draft}
use Rattle.text_lines.specs.Forms.{Leaf, texts_seen, reading, IsDocument}
use Rattle.text_lines.specs.FormStatements.{BeginsDocument}
use Rattle.text_lines.specs.Kinds.{keyed_line}
use Rattle.text_lines.specs.Languages.{reading as reading_by_places}
use Rattle.text_lines.specs.Lines.{Row, rows_of}
use Rattle.edge_text.specs.declared.fault.LineKind.{LineKind}
use Rattle.edge_text.specs.declared.fault.LineKind.TheVariants.{Ended}
use Rattle.edge_text.specs.declared.place.Place.TheVariants.{Alpha}
use Rattle.edge_text.specs.Document.{edge_line, further_line, document, kinds, IsText}
use Rattle.edge_text.specs.Faults.{IsFirstFault}
use Rattle.edge_text.specs.Grammar.{Words, IsAlphaLine, IsNamesLine, IsPLine, IsShareLine, IsWeightsLine, IsEdgeLine, IsStagesLine, IsSpendLine, IsTableLine, IsArriveLine}
use Rattle.edge_text.specs.Places.{cases}
use Rattle.edge_text.specs.WordReading.{number, numbers, given, count, shares, first_step, arrival}

-- a text denotes a draft exactly if its lines are a document of this draft
abbrev pub TextsSayTheirLines : Type 0
TextsSayTheirLines = (bytes : List ℕ) (draft : Draft) → IsText bytes draft ↔ IsDocument document (texts_seen (rows_of bytes)) draft

-- reading from place to place gives the same draft as reading by the form, or the same fault on the same line
abbrev pub PlacesAreOfTheForm : Type 0
PlacesAreOfTheForm = (rows : List Row) (end : ℕ) → reading_by_places cases Alpha rows end ≡ reading kinds document (texts_seen rows) end

-- some document begins with all lines of a text that only ends too early
abbrev pub TextsCanEnd : Type 0
TextsCanEnd = (bytes : List ℕ) (number : ℕ) → IsFirstFault bytes number Ended → BeginsDocument document (texts_seen (rows_of bytes))

-- a line is read as one of this kind, with what it says, exactly if the relation holds of the line and of that
abbrev pub IsReadAs : {A : Type 0} → Leaf (List ℕ) LineKind A → (List ℕ → A → Type 0) → Type 0
IsReadAs {A} kind Is = (line : List ℕ) (said : A) → (kind line ≡ Some (Ok said)) ↔ Is line said

-- of the lines `alpha`, `hypotheses`, `p`, `component` and `weights`
pub record LinesOfNumbersAreRead : Type 0 where
  pub alpha : IsReadAs (keyed_line (codes "alpha") number) IsAlphaLine
  pub names : IsReadAs (keyed_line (codes "hypotheses") (λ words. Ok words)) IsNamesLine
  pub p : IsReadAs (keyed_line (codes "p") given) (λ line p. (values : List Ratio) × IsPLine line values × (p ≡ map Some values))
  pub share : IsReadAs (keyed_line (codes "component") number) IsShareLine
  pub weights : IsReadAs (keyed_line (codes "weights") numbers) IsWeightsLine

-- of the lines `edge`
abbrev pub EdgesAreRead : Type 0
EdgesAreRead = (names : Words) → IsReadAs (edge_line names) (IsEdgeLine names)

-- of the lines `stages`, `spend`, `table` and `arrive`, for a hypothesis of this name
pub record StageLinesAreRead (names : Words) (name : List ℕ) : Type 0 where
  pub count : IsReadAs (keyed_line (codes "stages") count) IsStagesLine
  pub spend : IsReadAs (keyed_line (codes "spend") (shares name)) (IsSpendLine name)
  pub table : IsReadAs (keyed_line (codes "table") (first_step name)) (IsTableLine name)
  pub further : IsReadAs (further_line name) (IsTableLine name)
  pub arrive : IsReadAs (keyed_line (codes "arrive") (arrival names)) (IsArriveLine names)

abbrev pub LinesOfStagesAreRead : Type 0
LinesOfStagesAreRead = (names : Words) (name : List ℕ) → StageLinesAreRead names name
