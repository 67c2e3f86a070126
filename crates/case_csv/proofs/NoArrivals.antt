-- The edges of a sheet are between its hypotheses, and no p-value of a stage arrives.
use Rattle.std.proofs.Common.{◌≡◌, ◌∙◌, ◌&&◌, ℕ, List, sym, ap, refl, true, Ok}
use Rattle.field_core.specs.declared.ratio.Ratio.{Ratio}
use Rattle.field_core.proofs.Results.{came_from}
use Rattle.case_model.specs.declared.draft.Draft.{Draft}
use Rattle.case_model.specs.Draft.{have_known_ends, have_known_arrivals}
use Rattle.case_csv.specs.Table.{Cells, RowSaid, SheetSaid, draft_of, sheet_of, IsTable}
use Rattle.case_csv.proofs.Drafts.{sheet_known}

none_stage : (alpha : Ratio) (names : List (List ℕ)) (rows : List RowSaid) → have_known_arrivals (draft_of alpha names rows) ≡ true
unfolding have_known_arrivals
none_stage alpha names rows = refl

pub no_arrivals : (records : List Cells) (alpha : Ratio) (d : Draft) → IsTable records alpha d → have_known_arrivals d ≡ true
no_arrivals records alpha d h =
    let said = came_from (sheet_of records) _ d h in
    let is : draft_of alpha said.0.names said.0.rows ≡ d = cc in
    ap have_known_arrivals (sym is) ∙ none_stage alpha said.0.names said.0.rows

some_ends : (alpha : Ratio) (records : List Cells) (said : SheetSaid) → sheet_of records ≡ Ok said
    → have_known_ends (draft_of alpha said.names said.rows) ≡ true
unfolding have_known_ends
some_ends alpha records said e = ap (λ b. b && true) (sheet_known alpha records said e)

-- each edge of a sheet is between its hypotheses
pub table_ends : (records : List Cells) (alpha : Ratio) (d : Draft) → IsTable records alpha d → have_known_ends d ≡ true
table_ends records alpha d h =
    let said = came_from (sheet_of records) _ d h in
    let is : draft_of alpha said.0.names said.0.rows ≡ d = cc in
    ap have_known_ends (sym is) ∙ some_ends alpha records said.0 said.1
