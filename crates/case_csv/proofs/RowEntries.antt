-- The edges of a row, one by one.
use Rattle.std.proofs.Common.{◌≡◌, ◌<◌, ◌+◌, ◌∙◌, ℕ, Bool, true, false, List, [], ◌∷◌, ◌++◌, refl, sym, ap}
use Rattle.std.proofs.Common.{drop, get_or, length, arith, append_assoc, Result, Ok, Err}
use Rattle.std.proofs.lemmas.List.{drop_more}
use lib.Seq.{get_or-drop}
use Rattle.field_core.specs.declared.ratio.Ratio.{Ratio}
use Rattle.case_model.specs.declared.draft_edge.DraftEdge.{DraftEdge}
use Rattle.case_csv.specs.declared.fault.RowKind.{RowKind}
use Rattle.field_core.specs.Answers.{and_then, mapped}
use Rattle.case_csv.specs.Answers.{RowFault, at}
use Rattle.case_csv.specs.Table.{Cells, edge_of, entries_of, edge_at, row_edges}
use Rattle.case_csv.specs.View.{kept}

-- a cell after the first three
pub get_behind : (cells : Cells) (i : ℕ) → get_or cells (i + 3) [] ≡ get_or (drop 3 cells) i []
get_behind cells i = ap (λ n. get_or cells n []) (third i) ∙ sym (get_or-drop 3 cells i [])
  where
    third : (i : ℕ) → i + 3 ≡ 3 + i
    third i = omega arith

pub kept_append : (keep : Bool) (es fs : List DraftEdge) → kept keep (es ++ fs) ≡ kept keep es ++ kept keep fs
kept_append true es fs = refl
kept_append false es fs = refl

module _ (keep : Bool) (from number : ℕ) (cells : Cells) where
  -- the edges that were taken, with those of the cells from a place on
  abbrev pub with_rest : List DraftEdge → ℕ → Result (List DraftEdge) RowFault
  with_rest edges to = mapped (λ entries. edges ++ kept keep (row_edges from to entries)) (entries_of number (to + 4) (drop to cells))

  abbrev one_read : List DraftEdge → ℕ → Result (List Ratio) RowKind → ℕ → Result (List DraftEdge) RowFault
  one_read edges to r column = mapped (λ entries. edges ++ kept keep (row_edges from to entries))
      (and_then (at number (to + 4) r) (λ entry. and_then (entries_of number column (drop (to + 1) cells)) (λ entries. Ok (entry ∷ entries))))

  next_column : (to : ℕ) → to + 4 + 1 ≡ to + 1 + 4
  next_column to = omega arith

  one_of_rest : (edges : List DraftEdge) (to : ℕ) (r : Result (List Ratio) RowKind) → to < length cells → edge_of (get_or cells to []) ≡ r
      → with_rest edges to ≡ one_read edges to r (to + 1 + 4)
  one_of_rest edges to r small is =
      ap (λ cs. mapped (λ entries. edges ++ kept keep (row_edges from to entries)) (entries_of number (to + 4) cs)) (drop_more cells to [] small)
      ∙ ap (λ answer. one_read edges to answer (to + 4 + 1)) is ∙ ap (one_read edges to r) (next_column to)

  later : (edges : List DraftEdge) (to : ℕ) (entry : List Ratio) (rest : Result (List (List Ratio)) RowFault)
      → mapped (λ entries. edges ++ kept keep (row_edges from to entries)) (and_then rest (λ entries. Ok (entry ∷ entries)))
      ≡ mapped (λ entries. (edges ++ kept keep (edge_at from to entry)) ++ kept keep (row_edges from (to + 1) entries)) rest
  later edges to entry (Ok entries) = ap Ok (ap (λ es. edges ++ es) (kept_append keep (edge_at from to entry) (row_edges from (to + 1) entries))
      ∙ sym (append_assoc edges (kept keep (edge_at from to entry)) (kept keep (row_edges from (to + 1) entries))))
  later edges to entry (Err fault) = refl

  -- one more edge is taken
  pub one_more : (edges new : List DraftEdge) (to : ℕ) (entry : List Ratio) → to < length cells → edge_of (get_or cells to []) ≡ Ok entry
      → new ≡ edges ++ kept keep (edge_at from to entry) → with_rest edges to ≡ with_rest new (to + 1)
  one_more edges new to entry small is put = one_of_rest edges to (Ok entry) small is ∙ later edges to entry (entries_of number (to + 1 + 4) (drop (to + 1) cells))
      ∙ ap (λ es. with_rest es (to + 1)) (sym put)
