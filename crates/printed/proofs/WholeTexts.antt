-- What texts and sheets say has edges with a coefficient for each power.
use Rattle.std.proofs.Common.{◌≡◌, refl, sym, ap, ap₂, ◌∙◌, ℕ, ◌+◌, ◌==◌, ◌&&◌, Bool, true, false, cond}
use Rattle.std.proofs.Common.{List, [], ◌∷◌, drop, length, Ok}
use Rattle.std.specs.List.{list_all}
use Rattle.field_core.proofs.Results.{came_from, same_value, value_told}
use Rattle.field_core.specs.declared.ratio.Ratio.{Ratio}
use Rattle.case_model.specs.declared.draft.Draft.{Draft}
use Rattle.case_model.specs.Entries.{is_whole_entry, is_zero_entry}
use Rattle.case_model.proofs.Holding.{both, all_append}
use Rattle.case_csv.specs.Answers.{at}
use Rattle.case_csv.specs.Table.{Cells, RowSaid, SheetSaid, edge_of, start_of, entries_of, row_of, rows_of, header_of, sheet_of, edge_at, row_edges}
use Rattle.case_csv.specs.Table.{table_edges, draft_of, IsTable}
use Rattle.case_csv.specs.declared.fault.RowKind.TheVariants.{Expr}
use Rattle.edge_text.specs.Document.{IsText}
use Rattle.edge_text.proofs.Texts.{edges_pass, text_edges}
use Rattle.entries.specs.Entries.{entry_of}
use Rattle.entries.proofs.Entries.{entry_is}
use Rattle.printed.proofs.WholeDrafts.{whole_edge, whole_component, IsWhole}
use Rattle.printed.proofs.WholeValues.{entry_whole}

-- ---- texts

pub text_whole : (bytes : List ℕ) (d : Draft) → IsText bytes d → IsWhole d
text_whole bytes d h =
    edges_pass whole_edge d.components (text_edges bytes d (λ e. whole_edge e ≡ true) h (λ line e said. entry_whole _ e.entry said.are.says))

-- ---- sheets

entries_whole : (number column : ℕ) (cells : Cells) (entries : List (List Ratio)) → entries_of number column cells ≡ Ok entries
    → list_all is_whole_entry entries ≡ true
entries_whole number column [] entries e = ap (list_all is_whole_entry) (sym (same_value [] entries e))
entries_whole number column (cell ∷ cells) entries e =
    let first = came_from (at number column (edge_of cell)) _ entries e in
    let rest = came_from (entries_of number (column + 1) cells) _ entries first.2 in
    let said = value_told Expr (entry_of cell) first.0 (value_told _ (edge_of cell) first.0 first.1) in
    ap (list_all is_whole_entry) (sym (same_value (first.0 ∷ rest.0) entries rest.2))
    ∙ ap₂ (λ x y. x && y) (entry_whole cell first.0 (entry_is cell first.0 said)) (entries_whole number (column + 1) cells rest.0 rest.1)

-- a row with whole entries
abbrev whole_row : RowSaid → Bool
whole_row row = list_all is_whole_entry row.entries

row_whole : (width number : ℕ) (name : List ℕ) (cells : Cells) (row : RowSaid) → row_of width number name cells ≡ Ok row → whole_row row ≡ true
row_whole width number name cells row e =
    let start = came_from (start_of width number name cells) _ row e in
    let entries = came_from (entries_of number 4 (drop 3 cells)) _ row start.2 in
    ap whole_row (sym (same_value (record { weight = start.0.weight; p = start.0.p; entries = entries.0 }) row entries.2))
    ∙ entries_whole number 4 (drop 3 cells) entries.0 entries.1

rows_whole : (width number : ℕ) (names : List (List ℕ)) (records : List Cells) (rows : List RowSaid) → rows_of width number names records ≡ Ok rows
    → list_all whole_row rows ≡ true
rows_whole width number [] [] rows e = ap (list_all whole_row) (sym (same_value [] rows e))
rows_whole width number [] (surplus ∷ records) rows e = absurd (cc e)
rows_whole width number (name ∷ names) [] rows e = absurd (cc e)
rows_whole width number (name ∷ names) (cells ∷ records) rows e =
    let row = came_from (row_of width number name cells) _ rows e in
    let rest = came_from (rows_of width (number + 1) names records) _ rows row.2 in
    ap (list_all whole_row) (sym (same_value (row.0 ∷ rest.0) rows rest.2))
    ∙ ap₂ (λ x y. x && y) (row_whole width number name cells row.0 row.1) (rows_whole width (number + 1) names records rest.0 rest.1)

sheet_whole : (records : List Cells) (said : SheetSaid) → sheet_of records ≡ Ok said → list_all whole_row said.rows ≡ true
sheet_whole [] said e = absurd (cc e)
sheet_whole (header ∷ records) said e =
    let names = came_from (header_of header) _ said e in
    let rows = came_from (rows_of (length header) 2 names.0 records) _ said names.2 in
    ap (λ (s : SheetSaid). list_all whole_row s.rows) (sym (same_value (record { names = names.0; rows = rows.0 }) said rows.2))
    ∙ rows_whole (length header) 2 names.0 records rows.0 rows.1

edge_whole : (t : Bool) (from to : ℕ) (entry : List Ratio) → is_whole_entry entry ≡ true
    → list_all whole_edge (cond t [] (record { from = from; to = to; entry = entry } ∷ [])) ≡ true
edge_whole true from to entry h = refl
edge_whole false from to entry h = ap (λ b. b && true) h

row_edges_whole : (from to : ℕ) (entries : List (List Ratio)) → list_all is_whole_entry entries ≡ true
    → list_all whole_edge (row_edges from to entries) ≡ true
row_edges_whole from to [] h = refl
row_edges_whole from to (entry ∷ entries) h =
    let b = both (is_whole_entry entry) (list_all is_whole_entry entries) h in
    all_append whole_edge (edge_at from to entry) (row_edges from (to + 1) entries) (edge_whole ((from == to) && is_zero_entry entry) from to entry b.left)
    (row_edges_whole from (to + 1) entries b.right)

table_edges_whole : (from : ℕ) (rows : List RowSaid) → list_all whole_row rows ≡ true → list_all whole_edge (table_edges from rows) ≡ true
table_edges_whole from [] h = refl
table_edges_whole from (row ∷ rows) h =
    let b = both (whole_row row) (list_all whole_row rows) h in
    all_append whole_edge (row_edges from 0 row.entries) (table_edges (from + 1) rows) (row_edges_whole from 0 row.entries b.left)
    (table_edges_whole (from + 1) rows b.right)

pub sheet_draft_whole : (records : List Cells) (alpha : Ratio) (d : Draft) → IsTable records alpha d → IsWhole d
sheet_draft_whole records alpha d h =
    let said = came_from (sheet_of records) _ d h in
    ap (λ (e : Draft). list_all whole_component e.components) (sym (same_value (draft_of alpha said.0.names said.0.rows) d said.2))
    ∙ ap (λ b. b && true) (table_edges_whole 0 said.0.rows (sheet_whole records said.0 said.1))
