-- The drafts of sheets, and the cases or errors that they give.
use Rattle.std.proofs.Common.{◌≡◌, ◌≢◌, ◌<◌, ◌≤◌, ◌+◌, ◌-◌, ◌∙◌, ◌⊎◌, inl, inr, ◌==◌, ℕ, suc, Bool, true, false, ◌&&◌}
use Rattle.std.proofs.Common.{List, [], ◌∷◌, ◌++◌, Some, None, refl, sym, ap, subst, map, drop, length, arith, Result, Ok, Err}
use Rattle.std.specs.Prelude.{nat_lt, if◌then◌else◌}
use Rattle.std.specs.List.{list_all}
use Rattle.std.proofs.lemmas.Bool.{lt-ltb, cases_Bool}
use Rattle.std.proofs.lemmas.Bool.Decides.{nat_tests}
use Rattle.std.proofs.lemmas.List.{length-drop}
use Rattle.std.proofs.lemmas.List.Folds.{list_all-append}
use Rattle.field_core.specs.Answers.{and_then, mapped}
use Rattle.field_core.specs.declared.ratio.Ratio.{Ratio}
use Rattle.field_core.proofs.Results.{came_from}
use Rattle.case_model.specs.declared.case.Case.{Case}
use Rattle.case_model.specs.declared.draft.Draft.{Draft}
use Rattle.case_model.specs.declared.draft_edge.DraftEdge.{DraftEdge}
use Rattle.case_model.specs.declared.draft_component.DraftComponent.{DraftComponent}
use Rattle.case_model.specs.declared.fault.Refused.{Refused}
use Rattle.case_model.specs.declared.fault.CaseFault.TheVariants.{TooMany, NoMemory as OutOfMemory}
use Rattle.case_model.specs.CaseFaults.{no_hypothesis, too_many, names_fault, early_fault, case_fault}
use Rattle.case_model.specs.CaseView.{content}
use Rattle.case_model.specs.Content.{content_of}
use Rattle.case_model.specs.Draft.{goes_between, have_known_ends, have_known_arrivals}
use Rattle.case_model.proofs.Holding.{both}
use Rattle.case_model.specs.Entries.{is_zero_entry}
use Rattle.case_csv.specs.declared.fault.CsvFault.{CsvFault}
use Rattle.case_csv.specs.declared.fault.CsvFault.TheVariants as faults
use Rattle.case_csv.specs.declared.fault.RowKind.TheVariants.{Header, Width}
use Rattle.case_csv.specs.declared.table.Table.{Table}
use Rattle.case_csv.specs.Answers.{RowFault, told, at, holds_or}
use Rattle.case_csv.specs.Records.{Fields, records_of}
use Rattle.case_csv.specs.Table.{Cells, bare, cells_of, has_heading, header_of, start_of, edge_of, entries_of, RowSaid, row_of, rows_of, SheetSaid, sheet_of}
use Rattle.case_csv.specs.Table.{edge_at, row_edges, table_edges, one, draft_of}
use Rattle.case_csv.specs.Reading.{IsCaseOf, IsCsvFault}
use Rattle.case_csv.specs.View.{cells_in, kept, keeps, rows_table, one_component, kept_draft}
use Rattle.case_csv.proofs.Results.{made_of, unmade, held}

-- ---- the reader's steps

pub made : (alpha : Ratio) (names : List (List ℕ)) (table : Table) (new components : List DraftComponent) (share : Ratio) → new ≡ []
    → components ≡ new ++ record { share = share; weights = table.weights; edges = table.edges } ∷ [] → share ≡ one
    → components ≡ record { share = one; weights = table.weights; edges = table.edges } ∷ []
made alpha names table new components share none pushed is = rw (pushed, none, is) refl

-- the draft of the rows after a header
behind_header : (alpha : Ratio) (names : List (List ℕ)) (r : Result (List RowSaid) RowFault)
    → mapped (kept_draft alpha) (and_then r (λ rows. Ok (record { names = names; rows = rows })))
    ≡ mapped (one_component alpha names) (mapped (rows_table (keeps (length names))) r)
behind_header alpha names (Ok rows) = refl
behind_header alpha names (Err fault) = refl

pub sheet_read : (alpha : Ratio) (bytes : List ℕ) (fields : Fields) (after : List Fields) (names known : List (List ℕ)) (columns : ℕ)
    → records_of bytes ≡ fields ∷ after → header_of (map bare fields) ≡ Ok names → columns ≡ length (map bare fields) → known ≡ names
    → mapped (kept_draft alpha) (sheet_of (cells_of bytes))
    ≡ mapped (one_component alpha names) (mapped (rows_table (keeps (length known))) (rows_of columns 2 known (cells_in after)))
sheet_read alpha bytes fields after names known columns e h w k =
    ap (λ rs. mapped (kept_draft alpha) (sheet_of (cells_in rs))) e
    ∙ rw (h, w, k) (behind_header alpha names (rows_of (length (map bare fields)) 2 names (cells_in after)))

-- the header is three cells wider than its names
above_two : (header : Cells) → has_heading header 2 ≡ true → 3 ≤ length header
above_two header h =
    let within = (both (nat_lt 2 (length header)) _ h).left in
    grind (arith, nat_tests)

pub three_wide : (header : Cells) (names : List (List ℕ)) → header_of header ≡ Ok names → (3 ≤ length header) × (names ≡ drop 3 header)
three_wide header names e =
    let first = came_from (at 1 1 (holds_or Header (has_heading header 0))) _ names e in
    let second = came_from (at 1 2 (holds_or Header (has_heading header 1))) _ names first.2 in
    let third = came_from (at 1 3 (holds_or Header (has_heading header 2))) _ names second.2 in
    (above_two header (held 1 3 Header (has_heading header 2) third.1), cc)

-- ---- known ends

edge_known : (count from to : ℕ) (entry : List Ratio) → from < count → to < count → list_all (goes_between count) (edge_at from to entry) ≡ true
edge_known count from to entry f t = by ((from == to) && is_zero_entry entry)
  where
    by : (b : Bool) → list_all (goes_between count) (if b then [] else record { from = from; to = to; entry = entry } ∷ []) ≡ true
    by true = refl
    by false = rw (lt-ltb from count f, lt-ltb to count t) refl

all_append : (count : ℕ) (es fs : List DraftEdge) → list_all (goes_between count) es ≡ true → list_all (goes_between count) fs ≡ true
    → list_all (goes_between count) (es ++ fs) ≡ true
all_append count es fs h k = list_all-append (goes_between count) es fs ∙ rw (h, k) refl

row_known : (count from to : ℕ) (entries : List (List Ratio)) → from < count → to + length entries ≤ count
    → list_all (goes_between count) (row_edges from to entries) ≡ true
row_known count from to [] f t = refl
row_known count from to (e ∷ entries) f t = all_append count (edge_at from to e) (row_edges from (to + 1) entries)
    (edge_known count from to e f (omega (arith, t))) (row_known count from (to + 1) entries f (omega (arith, t)))

entries_many : (number column : ℕ) (cells : Cells) (entries : List (List Ratio)) → entries_of number column cells ≡ Ok entries
    → length entries ≡ length cells
entries_many number column [] entries e = let none : [] ≡ entries = cc in ap length (sym none)
entries_many number column (cell ∷ cells) entries e =
    let first = came_from (at number column (edge_of cell)) _ entries e in
    let rest = came_from (entries_of number (column + 1) cells) _ entries first.2 in
    let all : first.0 ∷ rest.0 ≡ entries = cc in
    ap length (sym all) ∙ ap suc (entries_many number (column + 1) cells rest.0 rest.1)

row_wide : (width number : ℕ) (name : List ℕ) (cells : Cells) (row : RowSaid) → row_of width number name cells ≡ Ok row
    → length row.entries ≡ width - 3
row_wide width number name cells row e =
    let start = came_from (start_of width number name cells) _ row e in
    let wide = came_from (at number 1 (holds_or Width (length cells == width))) _ start.0 start.1 in
    let entries = came_from (entries_of number 4 (drop 3 cells)) _ row start.2 in
    let said : record { weight = start.0.weight; p = start.0.p; entries = entries.0 } ≡ row = cc in
    let as_wide : length cells ≡ width = grind (arith, nat_tests, held number 1 Width (length cells == width) wide.1) in
    ap (λ (r : RowSaid). length r.entries) (sym said) ∙ entries_many number 4 (drop 3 cells) entries.0 entries.1 ∙ length-drop 3 cells ∙ ap (λ n. n - 3) as_wide

rows_known : (width count number from : ℕ) (names : List (List ℕ)) (records : List Cells) (rows : List RowSaid)
    → rows_of width number names records ≡ Ok rows → width ≡ count + 3 → from + length names ≤ count
    → list_all (goes_between count) (table_edges from rows) ≡ true
rows_known width count number from [] [] rows e w f = let none : [] ≡ rows = cc in ap (λ rs. list_all (goes_between count) (table_edges from rs)) (sym none)
rows_known width count number from [] (r ∷ records) rows e w f = absurd (cc e)
rows_known width count number from (n ∷ names) [] rows e w f = absurd (cc e)
rows_known width count number from (n ∷ names) (r ∷ records) rows e w f =
    let first = came_from (row_of width number n r) _ rows e in
    let rest = came_from (rows_of width (number + 1) names records) _ rows first.2 in
    let all : first.0 ∷ rest.0 ≡ rows = cc in
    ap (λ rs. list_all (goes_between count) (table_edges from rs)) (sym all)
    ∙ all_append count (row_edges from 0 first.0.entries) (table_edges (from + 1) rest.0)
    (row_known count from 0 first.0.entries (omega (arith, f)) (omega (arith, row_wide width number n r first.0 first.1, w)))
    (rows_known width count (number + 1) (from + 1) names records rest.0 rest.1 w (omega (arith, f)))

kept_known : (count : ℕ) (keep : Bool) (es : List DraftEdge) → list_all (goes_between count) es ≡ true
    → list_all (goes_between count) (kept keep es) ≡ true
kept_known count true es h = h
kept_known count false es h = refl

pub sheet_known : (alpha : Ratio) (records : List Cells) (said : SheetSaid) → sheet_of records ≡ Ok said
    → list_all (goes_between (length said.names)) (table_edges 0 said.rows) ≡ true
sheet_known alpha [] said e = absurd (cc e)
sheet_known alpha (header ∷ records) said e =
    let names = came_from (header_of header) _ said e in
    let rows = came_from (rows_of (length header) 2 names.0 records) _ said names.2 in
    let all : record { names = names.0; rows = rows.0 } ≡ said = cc in
    let wide = three_wide header names.0 names.1 in
    let count : length header ≡ length names.0 + 3 = omega (arith, wide.0, length-drop 3 header, ap length wide.1) in
    subst (λ (s : SheetSaid). list_all (goes_between (length s.names)) (table_edges 0 s.rows) ≡ true) all
    (rows_known (length header) (length names.0) 2 0 names.0 records rows.0 rows.1 count (omega arith))

kept_ends : (alpha : Ratio) (records : List Cells) (said : SheetSaid) → sheet_of records ≡ Ok said → have_known_ends (kept_draft alpha said) ≡ true
unfolding have_known_ends
kept_ends alpha records said e =
    rw (kept_known (length said.names) (keeps (length said.names)) (table_edges 0 said.rows) (sheet_known alpha records said e)) refl

pub ends_known : (alpha : Ratio) (records : List Cells) (draft : Draft) → told (mapped (kept_draft alpha) (sheet_of records)) ≡ Ok draft
    → have_known_ends draft ≡ true
ends_known alpha records draft e =
    let said = made_of (kept_draft alpha) (sheet_of records) draft e in
    ap have_known_ends said.2 ∙ kept_ends alpha records said.0 said.1

none_arrived : (alpha : Ratio) (said : SheetSaid) → have_known_arrivals (kept_draft alpha said) ≡ true
unfolding have_known_arrivals
none_arrived alpha said = refl

pub arrivals_known : (alpha : Ratio) (records : List Cells) (draft : Draft) → told (mapped (kept_draft alpha) (sheet_of records)) ≡ Ok draft
    → have_known_arrivals draft ≡ true
arrivals_known alpha records draft e =
    let said = made_of (kept_draft alpha) (sheet_of records) draft e in
    ap have_known_arrivals said.2 ∙ none_arrived alpha said.0

-- ---- edges that are left out

names_many : (names : List (List ℕ)) → 64 < length names → names_fault names ≡ Some (TooMany (length names))
unfolding names_fault no_hypothesis too_many
names_many names many =
    let some : (length names == 0) ≡ false = grind (arith, nat_tests) in
    let above : nat_lt 64 (length names) ≡ true = lt-ltb 64 (length names) many in
    rw (some, above) refl

many_refused : (d : Draft) → 64 < length d.names → case_fault d ≡ Some (TooMany (length d.names))
unfolding case_fault early_fault
many_refused d many = rw (names_many d.names many) refl

few_is : (n : ℕ) → nat_lt 64 n ≡ false → keeps n ≡ true
few_is n h = grind (arith, nat_tests)

above_is : (n : ℕ) → nat_lt 64 n ≡ true → 64 < n
above_is n h = grind (arith, nat_tests)

abbrev whole : Ratio → SheetSaid → Draft
whole alpha said = draft_of alpha said.names said.rows

all_kept : (alpha : Ratio) (said : SheetSaid) → keeps (length said.names) ≡ true → kept_draft alpha said ≡ whole alpha said
all_kept alpha said few = rw few refl

-- no other fault is found
pub same_fault : (alpha : Ratio) (said : SheetSaid) → case_fault (whole alpha said) ≡ case_fault (kept_draft alpha said)
same_fault alpha said = elim (cases_Bool (nat_lt 64 (length said.names))) [
  | inl many ↦ many_refused (whole alpha said) (above_is (length said.names) many) ∙ sym (many_refused (kept_draft alpha said) (above_is (length said.names) many))
  | inr few ↦ ap case_fault (sym (all_kept alpha said (few_is (length said.names) few)))
]

-- a draft without fault is whole
pub same_draft : (alpha : Ratio) (said : SheetSaid) → case_fault (kept_draft alpha said) ≡ None → kept_draft alpha said ≡ whole alpha said
same_draft alpha said h = elim (cases_Bool (nat_lt 64 (length said.names))) [
  | inl many ↦ absurd (cc (sym h ∙ many_refused (kept_draft alpha said) (above_is (length said.names) many)))
  | inr few ↦ all_kept alpha said (few_is (length said.names) few)
]

-- ---- the case or the fault

pub case_said : (bytes : List ℕ) (alpha : Ratio) (draft : Draft) (case : Case) → told (mapped (kept_draft alpha) (sheet_of (cells_of bytes))) ≡ Ok draft
    → case_fault draft ≡ None → content case ≡ content_of draft → IsCaseOf bytes alpha case
case_said bytes alpha draft case read f c =
    let said = made_of (kept_draft alpha) (sheet_of (cells_of bytes)) draft read in
    let none = ap case_fault (sym said.2) ∙ f in
    let same = same_draft alpha said.0 none in
    record {
      draft = whole alpha said.0;
      says = ap (mapped (whole alpha)) said.1;
      faultless = same_fault alpha said.0 ∙ none;
      content_is = c ∙ ap content_of (said.2 ∙ same);
    }

-- a fault of a record is one of the bytes
row_fault : (bytes : List ℕ) (alpha : Ratio) (r : Result SheetSaid RowFault) (fault : CsvFault) → sheet_of (cells_of bytes) ≡ r → told r ≡ Err fault
    → IsCsvFault bytes alpha fault
unfolding IsCsvFault
row_fault bytes alpha (Ok said) fault e h = absurd (cc h)
row_fault bytes alpha (Err f) fault e h =
    let is : faults.Row f.row f.column f.kind ≡ fault = cc in subst (IsCsvFault bytes alpha) is e

pub sheet_fault : (bytes : List ℕ) (alpha : Ratio) (fault : CsvFault)
    → (fault ≡ faults.NoMemory) ⊎ (told (mapped (kept_draft alpha) (sheet_of (cells_of bytes))) ≡ Err fault) → IsCsvFault bytes alpha fault
unfolding IsCsvFault
sheet_fault bytes alpha fault (inl memory) = subst (IsCsvFault bytes alpha) (sym memory) tt
sheet_fault bytes alpha fault (inr h) = row_fault bytes alpha (sheet_of (cells_of bytes)) fault refl (unmade (kept_draft alpha) _ fault h)

-- so is one of the draft
pub draft_fault : (bytes : List ℕ) (alpha : Ratio) (draft : Draft) (refused : Refused) (fault : CsvFault)
    → told (mapped (kept_draft alpha) (sheet_of (cells_of bytes))) ≡ Ok draft
    → (refused.fault ≡ OutOfMemory) ⊎ (case_fault draft ≡ Some refused.fault) → refused.names ≡ draft.names
    → ((refused.fault ≡ OutOfMemory) × (fault ≡ faults.NoMemory)) ⊎ ((refused.fault ≢ OutOfMemory) × (fault ≡ faults.Case refused))
    → IsCsvFault bytes alpha fault
unfolding IsCsvFault
draft_fault bytes alpha draft refused fault read f n (inl (m, e)) = subst (IsCsvFault bytes alpha) (sym e) tt
draft_fault bytes alpha draft refused fault read (inl m) n (inr (o, e)) = absurd (o m)
draft_fault bytes alpha draft refused fault read (inr f) n (inr (o, e)) =
    let said = made_of (kept_draft alpha) (sheet_of (cells_of bytes)) draft read in
    subst (IsCsvFault bytes alpha) (sym e) (record {
      draft = whole alpha said.0;
      says = ap (mapped (whole alpha)) said.1;
      fault_is = same_fault alpha said.0 ∙ ap case_fault (sym said.2) ∙ f;
      names_are = n ∙ ap (λ (d : Draft). d.names) said.2;
    })
