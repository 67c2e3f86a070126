-- Lines of CSV that denotes no draft.
use Rattle.std.specs.Prelude.{ℕ, List, ◌++◌, codes}
use Rattle.std.specs.Fmt.{decimal}
use Rattle.answers.specs.declared.refusal.Refusal.{Refusal}
use Rattle.case_csv.specs.declared.fault.RowKind.{RowKind}
use Rattle.case_csv.specs.declared.fault.RowKind.TheVariants.{NoHeader, Header, Count, Width, Name, Number, Expr}
use Rattle.refusals.specs.LinePieces.{malformed_at}
use Rattle.refusals.specs.TextRefusal.{number_refusal, expression_refusal}

-- a cell, by its record and its column, both from 1
abbrev pub at_cell : ℕ → ℕ → List ℕ
at_cell row column = (codes "row " ++ decimal row) ++ (codes " column " ++ decimal column)

-- a cell of a record isn't allowed
unfoldable pub cell_refusal : ℕ → ℕ → RowKind → Refusal
cell_refusal row column NoHeader = malformed_at (at_cell row column) (codes "header")
cell_refusal row column Header = malformed_at (at_cell row column) (codes "header")
cell_refusal row column Count = malformed_at (at_cell row column) (codes "records")
cell_refusal row column Width = malformed_at (at_cell row column) (codes "width")
cell_refusal row column Name = malformed_at (at_cell row column) (codes "name")
cell_refusal row column (Number fault) = number_refusal (at_cell row column) fault
cell_refusal row column (Expr fault) = expression_refusal (at_cell row column) fault
