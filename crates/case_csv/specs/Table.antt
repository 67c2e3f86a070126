-- What the records of CSV denote, or their first fault: a header, and for each hypothesis a name, a weight, a p-value and a row of edges.
use Rattle.std.specs.Prelude.{◌≡◌, pos, ℕ, ◌+◌, ◌-◌, ◌==◌, ◌&&◌, ◌||◌, Bool, true, false, if◌then◌else◌, List, []}
use Rattle.std.specs.Prelude.{◌∷◌, ◌++◌, Option, Some, None, Result, Ok, Err, map, length, take, drop, get_or, nat_lt, codes}
use Rattle.std.specs.List.{suffix_len}
use Rattle.std.specs.Str.{bytes_eq}
use Rattle.field_core.specs.declared.ratio.Ratio.{Ratio}
use Rattle.field_core.specs.Answers.{◌>>=◌, mapped, told_as}
use Rattle.fraction.specs.Plain.{one_reduced}
use Rattle.fraction.specs.Numerals.{numeral_of}
use Rattle.case_model.specs.declared.draft.Draft.{Draft}
use Rattle.case_model.specs.declared.draft_component.DraftComponent.{DraftComponent}
use Rattle.case_model.specs.declared.draft_edge.DraftEdge.{DraftEdge}
use Rattle.case_model.specs.Entries.{is_zero_entry}
use Rattle.entries.specs.Entries.{entry_of}
use Rattle.text_lines.specs.Words.{is_blank, after_blanks}
use Rattle.case_csv.specs.declared.fault.RowKind.{RowKind}
use Rattle.case_csv.specs.declared.fault.RowKind.TheVariants.{NoHeader, Header, Count, Width, Name, Number, Expr}
use Rattle.case_csv.specs.declared.table.Start.{Start}
use Rattle.case_csv.specs.Records.{records_of}
use Rattle.case_csv.specs.Answers.{RowFault, at, holds_or}

-- ---- cells

-- a field without the spaces and tabs around it
unfoldable pub bare : List ℕ → List ℕ
bare field = take (length (after_blanks field) - suffix_len is_blank (after_blanks field)) (after_blanks field)

-- the cells of a record: its fields, bare
abbrev pub Cells : Type 0
Cells = List (List ℕ)

-- the records of a text, by their cells
abbrev pub cells_of : List ℕ → List Cells
cells_of bytes = map (map bare) (records_of bytes)

-- the cell at a place of a record, from 0
abbrev pub cell_at : Cells → ℕ → List ℕ
cell_at cells place = get_or cells place []

-- ---- the header

-- whether a cell is allowed at a place of the header, from 0: nothing or `hypothesis`, then `weight`, then `p`
abbrev pub is_heading : ℕ → List ℕ → Bool
is_heading place cell =
    if place == 0 then (length cell == 0) || bytes_eq cell (codes "hypothesis")
    else if place == 1 then bytes_eq cell (codes "weight")
    else bytes_eq cell (codes "p")

-- whether the header has a cell at the place that is allowed there
abbrev pub has_heading : Cells → ℕ → Bool
has_heading header place = nat_lt place (length header) && is_heading place (cell_at header place)

-- nothing if the header has a cell at the place that is allowed there, and else the fault
abbrev pub heading : Cells → ℕ → Result (Unit {0}) RowFault
heading header place = at 1 (place + 1) (holds_or Header (has_heading header place))

-- the names in a header: the cells after the first three
abbrev pub header_of : Cells → Result (List (List ℕ)) RowFault
header_of header = do
  hypothesis ← heading header 0
  weight ← heading header 1
  p ← heading header 2
  Ok (drop 3 header)

-- ---- a row

-- whether a cell is that of a p-value that is not given: nothing or `NA`
abbrev pub is_missing : List ℕ → Bool
is_missing cell = (length cell == 0) || bytes_eq cell (codes "NA")

-- a numeral
abbrev pub number_of : List ℕ → Result Ratio RowKind
number_of cell = told_as Number (numeral_of cell)

-- a p-value, or none if it is missing
abbrev pub given_or : Bool → List ℕ → Result (Option Ratio) RowKind
given_or true cell = Ok None
given_or false cell = mapped Some (number_of cell)

abbrev pub p_value_of : List ℕ → Result (Option Ratio) RowKind
p_value_of cell = given_or (is_missing cell) cell

-- an expression, the weight of an edge
abbrev pub edge_of : List ℕ → Result (List Ratio) RowKind
edge_of cell = told_as Expr (entry_of cell)

-- the cells before the edges, in the record of this number: the record is as wide as the header, and has the name, a weight, and a p-value or none
abbrev pub start_of : ℕ → ℕ → List ℕ → Cells → Result Start RowFault
start_of width number name cells = do
  wide ← at number 1 (holds_or Width (length cells == width))
  named ← at number 1 (holds_or Name (bytes_eq (cell_at cells 0) name))
  weight ← at number 2 (number_of (cell_at cells 1))
  p ← at number 3 (p_value_of (cell_at cells 2))
  Ok (record { weight = weight; p = p })

-- the edges of a row, from left to right, of which the first is in this column
abbrev pub entries_of : ℕ → ℕ → Cells → Result (List (List Ratio)) RowFault
entries_of number column [] = Ok []
entries_of number column (cell ∷ cells) = do
  entry ← at number column (edge_of cell)
  entries ← entries_of number (column + 1) cells
  Ok (entry ∷ entries)

-- what a row denotes: a weight, a p-value or none, and the entries of a row of edges
pub record RowSaid : Type 0 where
  pub weight : Ratio
  pub p : Option Ratio
  pub entries : List (List Ratio)

-- the row of the hypothesis of this name
abbrev pub row_of : ℕ → ℕ → List ℕ → Cells → Result RowSaid RowFault
row_of width number name cells = do
  start ← start_of width number name cells
  entries ← entries_of number 4 (drop 3 cells)
  Ok (record { weight = start.weight; p = start.p; entries = entries })

-- ---- the rows

-- a record that is missing or surplus
abbrev pub wrong_count : {A : Type 0} → ℕ → Result A RowFault
wrong_count number = Err (record { row = number; column = 1; kind = Count })

-- a row for each name, in their order, of which the first is in the record of this number
abbrev pub rows_of : ℕ → ℕ → List (List ℕ) → List Cells → Result (List RowSaid) RowFault
rows_of width number [] [] = Ok []
rows_of width number [] (surplus ∷ records) = wrong_count number
rows_of width number (name ∷ names) [] = wrong_count number
rows_of width number (name ∷ names) (cells ∷ records) = do
  row ← row_of width number name cells
  rows ← rows_of width (number + 1) names records
  Ok (row ∷ rows)

-- ---- the sheet

-- what a sheet denotes: the names of its hypotheses, and their rows
pub record SheetSaid : Type 0 where
  pub names : List (List ℕ)
  pub rows : List RowSaid

-- What records denote, or their first fault. The header is read first, then each record in order: whether it is surplus, its
-- width, and its cells from left to right. A missing record is found last.
abbrev pub sheet_of : List Cells → Result SheetSaid RowFault
sheet_of [] = Err (record { row = 1; column = 1; kind = NoHeader })
sheet_of (header ∷ records) = do
  names ← header_of header
  rows ← rows_of (length header) 2 names records
  Ok (record { names = names; rows = rows })

-- ---- the draft

-- the edge of an entry, if it has one: a zero from a hypothesis to itself is not an edge
abbrev pub edge_at : ℕ → ℕ → List Ratio → List DraftEdge
edge_at from to entry = if (from == to) && is_zero_entry entry then [] else record { from = from; to = to; entry = entry } ∷ []

-- the edges of a row, from the hypothesis at one place to that at another place and to those after it
abbrev pub row_edges : ℕ → ℕ → List (List Ratio) → List DraftEdge
row_edges from to [] = []
row_edges from to (entry ∷ entries) = edge_at from to entry ++ row_edges from (to + 1) entries

-- the edges of rows, from the hypothesis at a place and those after it
abbrev pub table_edges : ℕ → List RowSaid → List DraftEdge
table_edges from [] = []
table_edges from (row ∷ rows) = row_edges from 0 row.entries ++ table_edges (from + 1) rows

-- 1/1
abbrev pub one : Ratio
one = record { num = pos 1; den = pos 1; valid = one_reduced }

-- the one component of rows, with share 1
abbrev pub component_of : List RowSaid → DraftComponent
component_of rows = record { share = one; weights = map (λ row. row.weight) rows; edges = table_edges 0 rows }

-- the draft of a level, names and rows
abbrev pub draft_of : Ratio → List (List ℕ) → List RowSaid → Draft
draft_of alpha names rows = record { names = names; alpha = alpha; p = map (λ row. row.p) rows; components = component_of rows ∷ []; stages = None }

-- the draft that records denote at a level
abbrev pub table_of : Ratio → List Cells → Result Draft RowFault
table_of alpha records = mapped (λ said. draft_of alpha said.names said.rows) (sheet_of records)

-- these records are a header and a row for each of its names, and they denote this draft at the level
abbrev pub IsTable : List Cells → Ratio → Draft → Type 0
IsTable records alpha draft = table_of alpha records ≡ Ok draft
