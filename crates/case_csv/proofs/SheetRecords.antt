-- The records of a sheet are read back from its text, and say its draft.
use Rattle.std.proofs.Common.{◌≡◌, ◌≢◌, refl, sym, ap, ap₂, subst, ◌∙◌, ℕ, zero, suc, ◌+◌, ◌-◌, ◌<◌}
use Rattle.std.proofs.Common.{◌==◌, ◌||◌, inl, inr, List, [], ◌∷◌, ◌++◌, length, map, take, drop, get_or, true}
use Rattle.std.proofs.Common.{false, Some, None, Ok, arith}
use Rattle.std.specs.Prelude.{codes}
use Rattle.std.specs.List.{AllByRecursion, flat_map, prefix_len, suffix_len, range_with_len}
use Rattle.std.specs.Str.{bytes_eq}
use Rattle.std.proofs.lemmas.Bool.{cases_Bool, lt-ltb}
use Rattle.std.proofs.lemmas.Bool.Decides.{nat_tests}
use Rattle.std.proofs.lemmas.List.{take_all}
use Rattle.std.proofs.lemmas.List.FromFn.{length-map-range_with_len}
use Rattle.std.proofs.lemmas.List.Sums.{suffix_len_is}
use Rattle.std.proofs.lemmas.Option.{slice_get-get_or}
use Rattle.std.proofs.lemmas.Slice.Eq.{bytes_eq-Decides}
use Rattle.csv.specs.Machine.{next_record}
use Rattle.csv.specs.Reading.{default_config, strip_bom, records}
use Rattle.csv.specs.Writing.{default_writer, read_back, row_text}
use Rattle.csv.specs.declared.parser.State.TheVariants as st
use Rattle.csv.proofs.RoundTrip.{read-write}
use Rattle.field_core.specs.View.{terms}
use Rattle.field_core.specs.declared.ratio.Ratio.{Ratio}
use Rattle.numerals.specs.Numeral.{IsNumeralOf}
use Rattle.fraction.specs.Spelling.{IsSpellingByte}
use Rattle.fraction.proofs.ReadBack.{spelling_bytes, spelling_some}
use Rattle.case_model.specs.Sums.{ratio_at}
use Rattle.case_model.specs.declared.component.Component.{Component}
use Rattle.case_model.specs.declared.inputs.Inputs.{Inputs}
use Rattle.case_model.specs.declared.inputs.Inputs.TheVariants.{Bare, Single, Staged}
use Rattle.case_model.specs.Entries.{entry_at}
use Rattle.case_model.specs.Validity.{Each}
use Rattle.edge_expression.specs.EntryReading.{IsEntryText}
use Rattle.edge_expression.specs.EntryTexts.{entry_text}
use Rattle.edge_text.specs.CanonicalText.{number_word, name_at}
use Rattle.edge_text.proofs.CanonicalWords.{number_is_word, entry_is_word, high_word}
use Rattle.text_lines.specs.Spelling.{IsPlain, IsWord}
use Rattle.text_lines.specs.Words.{is_blank, after_blanks}
use Rattle.case_csv.specs.Records.{Fields, records_of, text_of}
use Rattle.case_csv.specs.Sheet.{header_fields, p_field, row_fields}
use Rattle.case_csv.specs.declared.fault.RowKind.TheVariants.{Number}
use Rattle.field_core.specs.Answers.{mapped, told_as}
use Rattle.case_csv.specs.Table.{Cells, bare, header_of, is_missing, given_or, p_value_of, entries_of, RowSaid, row_of, rows_of}
use Rattle.fraction.proofs.Numerals.{numeral_ok}
use Rattle.entries.proofs.Entries.{entry_ok}
use Rattle.case_csv.proofs.RecordsLeft.{one_left, none_left}
use Rattle.case_csv.proofs.SheetDrafts.{p_at, content_with, said_at}

-- ---- records are read back from their text

-- each record has a field
abbrev pub HaveFields : List Fields → Type 0
HaveFields [] = Unit {0}
HaveFields (row ∷ rows) = (row ≢ []) × HaveFields rows

same_row : (row : Fields) → row ≢ [] → read_back row ≡ row
same_row [] h = absurd (h refl)
same_row (x ∷ row) h = refl

none_more : next_record default_config st.StartRecord [] [] [] ≡ None
unfolding next_record
none_more = refl

rows_back : (rows : List Fields) → HaveFields rows → records default_config (flat_map (row_text default_writer) rows) ≡ rows
rows_back [] h = none_left st.StartRecord [] none_more
rows_back (row ∷ rows) h =
    let rest = flat_map (row_text default_writer) rows in
    one_left st.StartRecord (row_text default_writer row ++ rest) (read_back row, st.StartRecord, rest) refl (read-write row rest)
    ∙ ap₂ ◌∷◌ (same_row row h.0) (rows_back rows h.1)

-- a text that begins with another byte has no byte order mark
no_mark : (b : ℕ) (xs : List ℕ) → (b == 239) ≡ false → strip_bom (b ∷ xs) ≡ b ∷ xs
unfolding strip_bom
no_mark b [] other = refl
no_mark b (c ∷ []) other = refl
no_mark b (c ∷ d ∷ xs) other = rw other refl

-- the bytes of a sheet after its first one
record Begins (b : ℕ) (text : List ℕ) : Type 0 where
  rest : List ℕ
  is : text ≡ b ∷ rest

header_begins : (names : List (List ℕ)) (rows : List Fields) → Begins 104 (flat_map (row_text default_writer) (header_fields names ∷ rows))
header_begins names rows = record { rest = _; is = refl }

pub sheet_back : (names : List (List ℕ)) (rows : List Fields) → HaveFields rows
    → records_of (text_of (header_fields names ∷ rows)) ≡ header_fields names ∷ rows
unfolding records_of text_of
sheet_back names rows h =
    let text = flat_map (row_text default_writer) (header_fields names ∷ rows) in
    let begins = header_begins names rows in
    ap (records default_config) (ap strip_bom begins.is ∙ no_mark 104 begins.rest refl ∙ sym begins.is)
    ∙ rows_back (header_fields names ∷ rows)
    ((λ e. let q : Path (List (List ℕ)) (codes "hypothesis" ∷ codes "weight" ∷ codes "p" ∷ names) [] = e in cc), h)

-- ---- no blanks stand around a field

blank_plain : (b : ℕ) → IsPlain b → is_blank b ≡ false
blank_plain b h =
    let space : b ≢ 32 = h.space in
    let tab : b ≢ 9 = h.tab in
    grind (arith, nat_tests)

plain_at : (field : List ℕ) (i d : ℕ) → AllByRecursion IsPlain field → i < length field → is_blank (get_or field i d) ≡ false
plain_at [] i d h l = absurd (omega arith)
plain_at (b ∷ field) zero d h l = blank_plain b h.0
plain_at (b ∷ field) (suc i) d h l = plain_at field i d h.1 (omega arith)

front_plain : (field : List ℕ) → AllByRecursion IsPlain field → after_blanks field ≡ field
unfolding after_blanks
front_plain [] h = refl
front_plain (b ∷ field) h =
    let none : prefix_len is_blank (b ∷ field) ≡ 0 = rw (blank_plain b h.0) refl in
    ap (λ n. drop n (b ∷ field)) none

back_plain : (field : List ℕ) → AllByRecursion IsPlain field → suffix_len is_blank field ≡ 0
back_plain field h =
    suffix_len_is is_blank field (length field) 0 (omega arith) (λ k l g. absurd (omega arith)) (λ some. plain_at field (length field - 1) 0 h (omega arith))
    ∙ omega arith

pub plain_bare : (field : List ℕ) → AllByRecursion IsPlain field → bare field ≡ field
unfolding bare
plain_bare field h =
    ap (λ (f : List ℕ). take (length f - suffix_len is_blank f) f) (front_plain field h)
    ∙ ap (λ n. take (length field - n) field) (back_plain field h) ∙ take_all (length field - 0) field (omega arith)

pub word_bare : (field : List ℕ) → IsWord field → bare field ≡ field
word_bare field h = plain_bare field h.plain

names_bare : (names : List (List ℕ)) → Each names IsWord → map bare names ≡ names
names_bare [] h = refl
names_bare (n ∷ ns) h = ap₂ ◌∷◌ (word_bare n (h 0 n refl)) (names_bare ns (λ i x e. h (suc i) x e))

pub header_bare : (names : List (List ℕ)) → Each names IsWord → map bare (header_fields names) ≡ header_fields names
header_bare names h =
    ap₂ ◌∷◌ (word_bare (codes "hypothesis") (high_word (codes "hypothesis") (omega arith) refl))
    (ap₂ ◌∷◌ (word_bare (codes "weight") (high_word (codes "weight") (omega arith) refl))
    (ap₂ ◌∷◌ (word_bare (codes "p") (high_word (codes "p") (omega arith) refl)) (names_bare names h)))

p_bare : (inputs : Inputs) (i : ℕ) → bare (p_field inputs i) ≡ p_field inputs i
p_bare Bare i = plain_bare [] tt
p_bare (Single ps) i = word_bare (number_word (ratio_at ps i)) (number_is_word (ratio_at ps i))
p_bare (Staged s) i = plain_bare [] tt

edges_bare : (entry : ℕ → List Ratio) (p n : ℕ) → map bare (map (λ j. entry_text (entry j)) (range_with_len p n)) ≡ map (λ j. entry_text (entry j))
    (range_with_len p n)
edges_bare entry p zero = refl
edges_bare entry p (suc n) = ap₂ ◌∷◌ (word_bare (entry_text (entry p)) (entry_is_word (entry p))) (edges_bare entry (p + 1) n)

-- ---- what a row says

missing_no : (cell : List ℕ) → 0 < length cell → ¬ (cell ≡ codes "NA") → is_missing cell ≡ false
missing_no cell some other = elim (cases_Bool (bytes_eq cell (codes "NA"))) [
  | inl t ↦ absurd (other ((bytes_eq-Decides cell (codes "NA")).0 t))
  | inr f ↦
      let none : (length cell == 0) ≡ false = grind (arith, nat_tests) in
      ap₂ (λ a b. a || b) none f
]

no_letter : IsSpellingByte 78 → ⊥
no_letter (inl h) = omega (arith, h.1)
no_letter (inr (inl h)) = omega (arith, h)
no_letter (inr (inr h)) = omega (arith, h)

number_given : (x : Ratio) → is_missing (number_word x) ≡ false
number_given x =
    missing_no (number_word x) (spelling_some (terms x) x.valid)
    (λ e. let bytes = subst (AllByRecursion IsSpellingByte) e (spelling_bytes (terms x) x.valid) in no_letter bytes.0)

pub p_said : (x : Ratio) → IsNumeralOf (number_word x) (terms x) → p_value_of (number_word x) ≡ Ok (Some x)
p_said x h = ap (λ b. given_or b (number_word x)) (number_given x) ∙ ap (λ r. mapped Some (told_as Number r)) (numeral_ok (number_word x) x h)

entries_said : (number column : ℕ) (entry : ℕ → List Ratio) (p n : ℕ) → ((j : ℕ) → IsEntryText (entry_text (entry j)) (entry j))
    → entries_of number column (map (λ j. entry_text (entry j)) (range_with_len p n)) ≡ Ok (map entry (range_with_len p n))
entries_said number column entry p zero h = refl
entries_said number column entry p (suc n) h =
    rw (entry_ok (entry_text (entry p)) (entry p) (h p), entries_said number (column + 1) entry (p + 1) n h) refl

module _ (names : List (List ℕ)) (alpha : Ratio) (k : Component) (inputs : Inputs) where
  -- what a case needs so that its sheet says it
  pub record IsSheetSaid : Type 0 where
    pub names_are : Each names IsWord
    pub weights : (i : ℕ) → i < length names → IsNumeralOf (number_word (ratio_at k.weights i)) (terms (ratio_at k.weights i))
    pub p_values : (i : ℕ) → i < length names → p_value_of (p_field inputs i) ≡ Ok (p_at inputs i)
    pub entries : (i j : ℕ) → IsEntryText (entry_text (entry_at (length names) k.edges i j)) (entry_at (length names) k.edges i j)

  abbrev cells_at : ℕ → Cells
  cells_at i = map bare (row_fields (content_with names alpha k inputs) i)

  row_bare : IsSheetSaid → (i : ℕ) → i < length names → cells_at i ≡ row_fields (content_with names alpha k inputs) i
  row_bare h i l =
      let weight = ratio_at k.weights i in
      ap₂ ◌∷◌ (word_bare (name_at names i) (h.names_are i (name_at names i) (slice_get-get_or names i [] l)))
      (ap₂ ◌∷◌ (word_bare (number_word weight) (number_is_word weight)) (ap₂ ◌∷◌ (p_bare inputs i) (edges_bare (entry_at (length names) k.edges i) 0 (length names))))

  row_said : IsSheetSaid → (number i : ℕ) → i < length names
      → row_of (length (header_fields names)) number (name_at names i) (row_fields (content_with names alpha k inputs) i) ≡ Ok (said_at names alpha k inputs i)
  row_said h number i l =
      let wide : (length (row_fields (content_with names alpha k inputs) i) == length (header_fields names)) ≡ true =
      grind (arith, nat_tests, length-map-range_with_len (λ j. entry_text (entry_at (length names) k.edges i j)) 0 (length names)) in
      let named : bytes_eq (name_at names i) (name_at names i) ≡ true = (bytes_eq-Decides (name_at names i) (name_at names i)).1 refl in
      rw (
        wide,
        named,
        numeral_ok (number_word (ratio_at k.weights i)) (ratio_at k.weights i) (h.weights i l),
        h.p_values i l,
        entries_said number 4 (entry_at (length names) k.edges i) 0 (length names) (h.entries i),
      ) refl

  pub each_row_said : IsSheetSaid → (number i : ℕ) → i < length names
      → row_of (length (header_fields names)) number (name_at names i) (cells_at i) ≡ Ok (said_at names alpha k inputs i)
  each_row_said h number i l = ap (row_of (length (header_fields names)) number (name_at names i)) (row_bare h i l) ∙ row_said h number i l

-- rows by their places
pub rows_by_place : (width number : ℕ) (cells : ℕ → Cells) (said : ℕ → RowSaid) (names : List (List ℕ)) (p : ℕ)
    → ((n i q : ℕ) → p + i ≡ q → i < length names → row_of width n (name_at names i) (cells q) ≡ Ok (said q))
    → rows_of width number names (map cells (range_with_len p (length names))) ≡ Ok (map said (range_with_len p (length names)))
rows_by_place width number cells said [] p h = refl
rows_by_place width number cells said (name ∷ names) p h =
    rw (
      h number 0 p (omega arith) (omega arith),
      rows_by_place width (number + 1) cells said names (p + 1) (λ n i q s l. h n (suc i) q (omega arith) (omega arith)),
    ) refl

pub header_said : (names : List (List ℕ)) → header_of (header_fields names) ≡ Ok names
header_said names =
    let all = length (header_fields names) in
    rw (lt-ltb 0 all (omega arith), lt-ltb 1 all (omega arith), lt-ltb 2 all (omega arith)) refl

pub rows_have_fields : (row : ℕ → Fields) → ((i : ℕ) → row i ≢ []) → (p n : ℕ) → HaveFields (map row (range_with_len p n))
rows_have_fields row h p zero = tt
rows_have_fields row h p (suc n) = (h p, rows_have_fields row h (p + 1) n)
