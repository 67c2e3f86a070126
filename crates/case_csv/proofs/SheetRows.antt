-- The rows after a header, one by one.
use Rattle.std.proofs.Common.{◌≡◌, ◌<◌, ◌+◌, ◌∙◌, ℕ, Bool, List, [], ◌∷◌, refl, sym, ap}
use Rattle.std.proofs.Common.{map, drop, get_or, length, arith, append_assoc, Result, Ok, Err}
use Rattle.std.proofs.lemmas.List.{drop_more}
use Rattle.case_csv.specs.declared.table.Table.{Table}
use Rattle.field_core.specs.Answers.{and_then, mapped}
use Rattle.case_csv.specs.Answers.{RowFault, told}
use Rattle.case_csv.specs.Records.{Fields}
use Rattle.case_csv.specs.Table.{bare, RowSaid, row_edges, table_edges, row_of, rows_of, wrong_count}
use Rattle.case_csv.specs.View.{cells_in, kept, more_rows, with_row}
use Rattle.case_csv.proofs.Results.{made_of}
use Rattle.case_csv.proofs.RowEntries.{kept_append}

more : (keep : Bool) (from : ℕ) (table : Table) (row : RowSaid) (rows : List RowSaid)
    → more_rows keep from table (row ∷ rows) ≡ more_rows keep (from + 1) (with_row keep from table row) rows
more keep from table row rows =
    let weights = append_assoc table.weights (row.weight ∷ []) (map (λ row. row.weight) rows) in
    let p = append_assoc table.p (row.p ∷ []) (map (λ row. row.p) rows) in
    let edges = append_assoc table.edges (kept keep (row_edges from 0 row.entries)) (kept keep (table_edges (from + 1) rows)) in
    rw (weights, p, edges, kept_append keep (row_edges from 0 row.entries) (table_edges (from + 1) rows)) refl

module _ (keep : Bool) (width : ℕ) (names : List (List ℕ)) where
  -- the rows that were taken, with those of the records that are left
  abbrev pub with_rest : Table → ℕ → List Fields → Result Table RowFault
  with_rest table from left = mapped (more_rows keep from table) (rows_of width (from + 2) (drop from names) (cells_in left))

  abbrev one_read : Table → ℕ → Result RowSaid RowFault → ℕ → List Fields → Result Table RowFault
  one_read table from r number left = mapped (more_rows keep from table)
      (and_then r (λ row. and_then (rows_of width number (drop (from + 1) names) (cells_in left)) (λ rows. Ok (row ∷ rows))))

  next_number : (from : ℕ) → from + 2 + 1 ≡ from + 1 + 2
  next_number from = omega arith

  one_of_rest : (table : Table) (from : ℕ) (fields : Fields) (left : List Fields) → from < length names
      → with_rest table from (fields ∷ left) ≡ one_read table from (row_of width (from + 2) (get_or names from []) (map bare fields)) (from + 1 + 2) left
  one_of_rest table from fields left small =
      ap (λ ns. mapped (more_rows keep from table) (rows_of width (from + 2) ns (cells_in (fields ∷ left)))) (drop_more names from [] small)
      ∙ ap (λ number. one_read table from (row_of width (from + 2) (get_or names from []) (map bare fields)) number left) (next_number from)

  later : (table : Table) (from : ℕ) (row : RowSaid) (rest : Result (List RowSaid) RowFault)
      → mapped (more_rows keep from table) (and_then rest (λ rows. Ok (row ∷ rows))) ≡ mapped (more_rows keep (from + 1) (with_row keep from table row)) rest
  later table from row (Ok rows) = ap Ok (more keep from table row rows)
  later table from row (Err fault) = refl

  -- one more row is taken
  pub one_more : (table new : Table) (from : ℕ) (name : List ℕ) (fields : Fields) (left : List Fields) → from < length names → name ≡ get_or names from []
      → told (mapped (with_row keep from table) (row_of width (from + 2) name (map bare fields))) ≡ Ok new
      → with_rest table from (fields ∷ left) ≡ with_rest new (from + 1) left
  one_more table new from name fields left small is took =
      let row = made_of (with_row keep from table) (row_of width (from + 2) name (map bare fields)) new took in
      one_of_rest table from fields left small
      ∙ ap (λ r. one_read table from r (from + 1 + 2) left) (ap (λ n. row_of width (from + 2) n (map bare fields)) (sym is) ∙ row.1)
      ∙ later table from row.0 (rows_of width (from + 1 + 2) (drop (from + 1) names) (cells_in left)) ∙ ap (λ t. with_rest t (from + 1) left) (sym row.2)

  -- a record is missing
  pub missing : (table : Table) (from : ℕ) → from < length names → with_rest table from [] ≡ wrong_count (from + 2)
  missing table from small = ap (λ ns. mapped (more_rows keep from table) (rows_of width (from + 2) ns [])) (drop_more names from [] small)
