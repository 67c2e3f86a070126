-- The lines of canonical texts, and the document that they are.
use Rattle.std.proofs.Common.{append-nil, ◌≡◌, ◌≢◌, refl, sym, ap, subst, ◌∙◌, ℕ, zero, suc, ◌+◌, ◌*◌, ◌/◌, ◌%◌, ◌<◌}
use Rattle.std.proofs.Common.{◌≤◌, ◌==◌, inl, inr, List, [], ◌∷◌, ◌++◌, length, map, get_or, Bool, true, false, Some, None, Result, Ok, arith}
use Rattle.std.specs.Prelude.{codes, if◌then◌else◌}
use Rattle.std.specs.List.{AllByRecursion, AllZip, flat_map, list_all, position_from}
use Rattle.std.specs.Option.{option_map}
use Rattle.std.specs.Str.{bytes_eq}
use Rattle.std.proofs.lemmas.Bool.{cases_Bool}
use Rattle.std.proofs.lemmas.Bool.Decides.{nat_tests}
use Rattle.std.proofs.lemmas.Iterator.Adapters.{position_from-zero}
use Rattle.std.proofs.lemmas.Option.{slice_get-get_or}
use Rattle.std.proofs.lemmas.Slice.Eq.{bytes_eq-Decides}
use Rattle.field_core.specs.declared.ratio.Ratio.{Ratio}
use Rattle.case_model.specs.Draft.{is_short}
use Rattle.case_model.specs.Names.{position_of}
use Rattle.case_model.specs.Validity.{Each, EachTwo}
use Rattle.case_model.specs.Entries.{is_zero_entry}
use Rattle.text_lines.specs.Spelling.{line_spelt, text_of, IsWord, IsLine, numbered}
use Rattle.text_lines.specs.Lines.{rows_of, texts_in}
use Rattle.text_lines.specs.Words.{words_after, after_words}
use Rattle.text_lines.proofs.Spelt.{words_of_line, rows_of_text, behind_spelt, behind_blank}
use Rattle.edge_expression.specs.EntryReading.{IsEntryText}
use Rattle.edge_expression.specs.EntryTexts.{entry_text}
use Rattle.edge_expression.proofs.EntriesReadBack.{entry_reads_back}
use Rattle.text_lines.specs.Kinds.{keyed_line}
use Rattle.edge_text.specs.declared.fault.LineKind.{LineKind}
use Rattle.edge_text.specs.Document.{edge_line}
use Rattle.edge_text.specs.Grammar.{Words}
use Rattle.edge_text.specs.WordReading.{edge}
use Rattle.edge_text.proofs.Leaves.{same_name, edge_said as edge_words_said}
use Rattle.edge_text.specs.CanonicalText.{name_at, edge_words, edge_lines, table_lines}
use Rattle.edge_text.proofs.CanonicalDrafts.{edge_at, before, edges_from}
use Rattle.edge_text.proofs.CanonicalWords.{is_high, high_word, entry_is_word, blank_entry}

-- ---- lines by their words

-- a line that begins with a keyword
pub keyed : (b : ℕ) (bs : List ℕ) (words : Words) → (b == 35) ≡ false → list_all is_high (b ∷ bs) ≡ true → AllByRecursion IsWord words
    → IsLine ((b ∷ bs) ∷ words)
keyed b bs words e h w = (no_comment, high_word (b ∷ bs) (omega arith) h, w)
  where
    no_comment : b ≢ 35
    no_comment q = grind (arith, nat_tests)

-- it says what its words say
pub line_says : {A : Type 0} (keyword : List ℕ) (words : Words) (says : Words → Result A LineKind) (x : A) → IsLine (keyword ∷ words) → says words ≡ Ok x
    → keyed_line keyword says (line_spelt (keyword ∷ words)) ≡ Some (Ok x)
line_says keyword words says x h e =
    let same : bytes_eq keyword keyword ≡ true = same_name keyword in
    ap (λ ws. option_map says (words_after keyword ws)) (words_of_line (keyword ∷ words) (h.1, h.2)) ∙ rw same (ap Some e)

-- it is of no other kind
pub line_apart : {A : Type 0} (keyword : List ℕ) (words : Words) (other : List ℕ) (says : Words → Result A LineKind) → IsLine (keyword ∷ words)
    → bytes_eq keyword other ≡ false → keyed_line other says (line_spelt (keyword ∷ words)) ≡ None
line_apart keyword words other says h n =
    ap (λ ws. option_map says (words_after other ws)) (words_of_line (keyword ∷ words) (h.1, h.2)) ∙ rw n refl

pub all_append : {A : Type 0} (P : A → Type 0) (xs ys : List A) → AllByRecursion P xs → AllByRecursion P ys → AllByRecursion P (xs ++ ys)
all_append P [] ys h k = k
all_append P (x ∷ xs) ys h k = (h.0, all_append P xs ys h.1 k)

pub all_flat : {A B : Type 0} (P : B → Type 0) (f : A → List B) (xs : List A) → Each xs (λ x. AllByRecursion P (f x))
    → AllByRecursion P (flat_map f xs)
all_flat P f [] h = tt
all_flat P f (x ∷ xs) h = all_append P (f x) (flat_map f xs) (h 0 x refl) (all_flat P f xs (λ n y e. h (suc n) y e))

texts_numbered : (n : ℕ) (lines : List Words) → texts_in (numbered n lines) ≡ map line_spelt lines
texts_numbered n [] = refl
texts_numbered n (line ∷ lines) = ap (λ (ts : List (List ℕ)). line_spelt line ∷ ts) (texts_numbered (n + 1) lines)

-- the lines of a spelt text
pub texts_spelt : (lines : List Words) → AllByRecursion IsLine lines → texts_in (rows_of (text_of lines)) ≡ map line_spelt lines
texts_spelt lines h = ap texts_in (rows_of_text lines h) ∙ texts_numbered 0 lines

-- ---- names

-- no name stands again after itself
abbrev pub AreDistinct : List (List ℕ) → Type 0
AreDistinct [] = Unit {0}
AreDistinct (name ∷ names) = AllByRecursion (λ other. ¬ (name ≡ other)) names × AreDistinct names

pub each_holds : {A : Type 0} (P : A → Type 0) (xs : List A) → Each xs P → AllByRecursion P xs
each_holds P [] h = tt
each_holds P (x ∷ xs) h = (h 0 x refl, each_holds P xs (λ n y e. h (suc n) y e))

pub distinct : (names : List (List ℕ)) → EachTwo names (λ a b. ¬ (a ≡ b)) → AreDistinct names
distinct [] h = tt
distinct (name ∷ names) h = (
  each_holds (λ other. ¬ (name ≡ other)) names (λ j y e. h 0 (suc j) name y (omega arith) refl e),
  distinct names (λ i j x y l e f. h (suc i) (suc j) x y (omega arith) e f),
)

pub other_name : (a b : List ℕ) → ¬ (a ≡ b) → bytes_eq a b ≡ false
other_name a b n = elim (cases_Bool (bytes_eq a b)) [ inl t ↦ absurd (n ((bytes_eq-Decides a b).0 t)) | inr f ↦ f ]

name_apart : (name : List ℕ) (names : List (List ℕ)) (i : ℕ) → AllByRecursion (λ other. ¬ (name ≡ other)) names → i < length names
    → ¬ (get_or names i [] ≡ name)
name_apart name [] i h l e = absurd (omega arith)
name_apart name (other ∷ names) zero h l e = h.0 (sym e)
name_apart name (other ∷ names) (suc i) h l e = name_apart name names i h.1 (omega arith) e

place_from : (p : ℕ) (names : List (List ℕ)) (i q : ℕ) → AreDistinct names → i < length names → p + i ≡ q
    → position_from (bytes_eq (get_or names i [])) p names ≡ Some q
place_from p [] i q h l e = absurd (omega arith)
place_from p (name ∷ names) zero q h l e =
    let s : p ≡ q = omega arith in
    ap (λ b. if b then Some p else position_from (bytes_eq name) (p + 1) names) (same_name name) ∙ ap Some s
place_from p (name ∷ names) (suc i) q h l e =
    let w : i < length names = omega arith in
    let s : p + 1 + i ≡ q = omega arith in
    ap (λ b. if b then Some p else position_from (bytes_eq (get_or names i [])) (p + 1) names)
    (other_name (get_or names i []) name (name_apart name names i h.0 w)) ∙ place_from (p + 1) names i q h.1 w s

-- the position of a name
pub place_of_name : (names : List (List ℕ)) (i : ℕ) → AreDistinct names → i < length names → position_of (name_at names i) names ≡ Some i
place_of_name names i h l = position_from-zero (bytes_eq (name_at names i)) names ∙ place_from 0 names i i h l (omega arith)

pub name_word : (names : List (List ℕ)) (i : ℕ) → Each names IsWord → i < length names → IsWord (name_at names i)
name_word names i h l = h i (name_at names i) (slice_get-get_or names i [] l)

-- ---- edges

behind_three : (a b c t : List ℕ) → IsWord a → IsWord b → IsWord c → after_words 3 (line_spelt (a ∷ b ∷ c ∷ t ∷ [])) ≡ 32 ∷ (t ++ [])
behind_three a b c t ha hb hc =
    ap (after_words 2) (behind_spelt 32 a (b ++ 32 ∷ (c ++ 32 ∷ (t ++ []))) refl ha)
    ∙ ap (after_words 1) (behind_blank 32 (b ++ 32 ∷ (c ++ 32 ∷ (t ++ []))) refl ∙ behind_spelt 32 b (c ++ 32 ∷ (t ++ [])) refl hb)
    ∙ behind_blank 32 (c ++ 32 ∷ (t ++ [])) refl ∙ behind_spelt 32 c (t ++ []) refl hc

edge_word : IsWord (codes "edge")
edge_word = high_word (codes "edge") (omega arith) refl

-- what an entry needs so that it is read back
pub record IsEntry (e : List Ratio) : Type 0 where
  pub five : length e ≡ 5
  pub short : list_all is_short e ≡ true

module _ (names : List (List ℕ)) (words : Each names IsWord) (apart : AreDistinct names) where
  edge_is_line : (i j : ℕ) (e : List Ratio) → i < length names → j < length names → IsLine (edge_words names i j e)
  edge_is_line i j e hi hj = keyed _ _ (name_at names i ∷ name_at names j ∷ entry_text e ∷ []) refl refl
      (name_word names i words hi, (name_word names j words hj, (entry_is_word e, tt)))

  edge_said : (i j : ℕ) (e : List Ratio) → i < length names → j < length names → IsEntry e
      → edge_line names (line_spelt (edge_words names i j e)) ≡ Some (Ok (record { from = i; to = j; entry = e }))
  edge_said i j e hi hj h =
      let a = name_at names i in
      let b = name_at names j in
      let line = line_spelt (edge_words names i j e) in
      let w : Words = a ∷ b ∷ entry_text e ∷ [] in
      let says : IsEntryText (after_words 3 line) e =
      subst (λ t. IsEntryText t e) (sym (behind_three (codes "edge") a b (entry_text e) edge_word (name_word names i words hi)
      (name_word names j words hj) ∙ ap (λ t. 32 ∷ t) (append-nil (entry_text e))))
      (blank_entry (entry_text e) e (entry_reads_back e h.five h.short)) in
      line_says (codes "edge") w (edge names line) (record { from = i; to = j; entry = e }) (edge_is_line i j e hi hj)
      (edge_words_said names line w (record { from = i; to = j; entry = e }) (record {
        from = a;
        to = b;
        ends = record { further = entry_text e; others = []; words_are = refl };
        from_is = place_of_name names i apart hi;
        to_is = place_of_name names j apart hj;
        says = says;
      }))

  abbrev m : ℕ
  m = length names

  row_below : (q : ℕ) → q < m * m → q / m < m
  row_below q h = grind arith

  column_below : (q : ℕ) → q < m * m → q % m < m
  column_below q h = grind arith

  pub edges_lines : (p : ℕ) (table : List (List Ratio)) → p + length table ≤ m * m → AllByRecursion IsLine (table_lines names p table)
  unfolding edge_lines
  edges_lines p [] h = tt
  edges_lines p (e ∷ es) h = all_append IsLine (edge_lines names p e) (table_lines names (p + 1) es) (by_test (is_zero_entry e))
      (edges_lines (p + 1) es (omega arith))
    where
      by_test : (b : Bool) → AllByRecursion IsLine (if b then [] else edge_words names (p / m) (p % m) e ∷ [])
      by_test true = tt
      by_test false = let w : p < m * m = omega arith in (edge_is_line (p / m) (p % m) e (row_below p w) (column_below p w), tt)

  pub edges_said : (p : ℕ) (table : List (List Ratio)) → p + length table ≤ m * m → Each (edges_from m p table) (λ e. IsEntry e.entry)
      → AllZip (λ line e. edge_line names line ≡ Some (Ok e)) (map line_spelt (table_lines names p table)) (edges_from m p table)
  unfolding edge_lines
  edges_said p [] h g = tt
  edges_said p (e ∷ es) h g = by_test (is_zero_entry e) g (λ k. edges_said (p + 1) es (omega arith) k)
    where
      by_test : (b : Bool) → Each (before b (edge_at m p e) (edges_from m (p + 1) es)) (λ e. IsEntry e.entry)
          → (Each (edges_from m (p + 1) es) (λ e. IsEntry e.entry)
          → AllZip (λ line e. edge_line names line ≡ Some (Ok e)) (map line_spelt (table_lines names (p + 1) es)) (edges_from m (p + 1) es))
          → AllZip (λ line e. edge_line names line ≡ Some (Ok e)) (map line_spelt
          ((if b then [] else edge_words names (p / m) (p % m) e ∷ []) ++ table_lines names (p + 1) es))
          (before b (edge_at m p e) (edges_from m (p + 1) es))
      by_test true g rest = rest g
      by_test false g rest =
          let w : p < m * m = omega arith in
          (edge_said (p / m) (p % m) e (row_below p w) (column_below p w) (g 0 (edge_at m p e) refl), rest (λ n x q. g (suc n) x q))
