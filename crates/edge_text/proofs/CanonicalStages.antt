-- The lines of stages in canonical texts.
use Rattle.std.proofs.Common.{◌≡◌, refl, sym, ap, subst, ◌∙◌, ℕ, suc, ◌<◌, ◌≤◌, List, [], ◌∷◌, ◌++◌, length, map, Some, None, Ok, if◌then◌else◌}
use Rattle.std.proofs.Common.{arith, append_assoc}
use Rattle.std.specs.Prelude.{codes}
use Rattle.std.specs.Fmt.{decimal}
use Rattle.std.specs.List.{AllByRecursion, AllZip}
use Rattle.std.proofs.lemmas.List.{append-nil, map-append}
use Rattle.field_core.specs.declared.ratio.Ratio.{Ratio}
use Rattle.case_model.specs.declared.draft_stages.Arrival.{Arrival}
use Rattle.case_model.specs.declared.spend.Spend.{Spend}
use Rattle.case_model.specs.declared.spend.Spend.TheVariants.{Shares, Table}
use Rattle.case_model.specs.declared.spend_step.SpendStep.{SpendStep}
use Rattle.case_model.specs.Validity.{Each}
use Rattle.text_lines.specs.Forms.{Say, Line, Then}
use Rattle.text_lines.specs.Kinds.{keyed_line, more_lines, each_after}
use Rattle.text_lines.specs.Spelling.{line_spelt, IsWord, IsLine}
use Rattle.text_lines.specs.Words.{words_after}
use Rattle.text_lines.proofs.Spelt.{words_of_line}
use Rattle.edge_text.specs.Document.{if_named, if_step, further_line, table, spend}
use Rattle.edge_text.specs.Grammar.{Words}
use Rattle.edge_text.specs.CanonicalText.{number_word, name_at, spend_words, table_words, arrive_words, spend_lines, spends_lines}
use Rattle.edge_text.specs.WordReading.{shares, first_step, step_of, step_words, arrival}
use Rattle.edge_text.proofs.CanonicalWords.{IsSaid, zip_map, all_map, number_is_word, numbers_are_words, whole_is, whole_is_word}
use Rattle.edge_text.proofs.CanonicalLines.{keyed, line_says, line_apart, all_append, AreDistinct, other_name, place_of_name, name_word}
use Rattle.edge_text.proofs.FormSpells.{Other, Spells, spells_say, spells_line, spells_then, spells_last, spells_may, spells_other, spells_lines}
use Rattle.edge_text.proofs.Leaves.{shares_said, first_said, arrival_said}
use Rattle.edge_text.proofs.LinesTaken.{further_words}

-- ---- what hypotheses spend

-- what a spend needs so that it is read back
abbrev pub IsSpendSaid : Spend → Type 0
IsSpendSaid (Shares fractions) = (0 < length fractions) × Each fractions IsSaid
IsSpendSaid (Table steps) = (0 < length steps) × Each steps (λ s. IsSaid s.from × (0 < length s.levels) × Each s.levels IsSaid)

spend_line : (name : List ℕ) (fractions : List Ratio) → IsWord name → IsLine (spend_words name fractions)
spend_line name fractions h = keyed _ _ (name ∷ map number_word fractions) refl refl (h, numbers_are_words fractions)

table_line : (name : List ℕ) (step : SpendStep) → IsWord name → IsLine (table_words name step)
table_line name step h = keyed _ _ (name ∷ number_word step.from ∷ map number_word step.levels) refl refl
    (h, (number_is_word step.from, numbers_are_words step.levels))

pub spend_lines_are : (name : List ℕ) (spend : Spend) → IsWord name → AllByRecursion IsLine (spend_lines name spend)
unfolding spend_lines
spend_lines_are name (Shares fractions) h = (spend_line name fractions h, tt)
spend_lines_are name (Table steps) h = all_map IsLine (table_words name) steps (λ i s e. table_line name s h)

-- the words of a step of its table
step_said : (name : List ℕ) (step : SpendStep) → IsSaid step.from → 0 < length step.levels → Each step.levels IsSaid
    → first_step name (name ∷ number_word step.from ∷ map number_word step.levels) ≡ Ok step
step_said name step from some levels = first_said name (name ∷ number_word step.from ∷ map number_word step.levels) step (record {
  numerals = number_word step.from ∷ map number_word step.levels;
  words_are = refl;
  each = (from, zip_map _ number_word step.levels levels);
  some = some;
})

-- further steps of a table
steps_said : (name : List ℕ) (steps : List SpendStep) → IsWord name → Each steps (λ s. IsSaid s.from × (0 < length s.levels) × Each s.levels IsSaid)
    → AllZip (λ line t. further_line name line ≡ Some (Ok t)) (map line_spelt (map (table_words name) steps)) steps
steps_said name [] h s = tt
steps_said name (t ∷ ts) h s =
    let w = s 0 t refl in
    let l = table_line name t h in (
      ap (λ ws. if_step name (words_after (codes "table") ws)) (words_of_line (table_words name t) (l.1, l.2))
          ∙ further_words name (name ∷ number_word t.from ∷ map number_word t.levels) t (step_said name t w.0 w.1 w.2),
      steps_said name ts h (λ i x e. s (suc i) x e),
    )

-- the lines of a spend, before a line that is not a step of its table
spend_said : (name : List ℕ) (x : Spend) (after : List (List ℕ)) → IsWord name → IsSpendSaid x → Other (further_line name) after
    → Spells (spend name) (map line_spelt (spend_lines name x)) x after
unfolding spend_lines
spend_said name (Shares fractions) after h s o =
    let words : Words = name ∷ map number_word fractions in
    spells_may (keyed_line (codes "spend") (shares name)) (λ xs. Say (Shares xs)) (table name) (line_spelt (spend_words name fractions)) [] fractions (Shares fractions) after
    (line_says (codes "spend") words (shares name) fractions (spend_line name fractions h) (shares_said name words fractions
    (record { numerals = map number_word fractions; words_are = refl; each = zip_map _ number_word fractions s.1; some = s.0 })))
    (spells_say (Shares fractions) after)
spend_said name (Table []) after h s o = absurd (let few : 0 < length {A = SpendStep} [] = s.0 in omega arith)
spend_said name (Table (t ∷ ts)) after h s o =
    let words : Words = name ∷ number_word t.from ∷ map number_word t.levels in
    let first = line_spelt (table_words name t) in
    let rest = map line_spelt (map (table_words name) ts) in
    let w = s.1 0 t refl in
    spells_other (keyed_line (codes "spend") (shares name)) (λ xs. Say (Shares xs)) (table name) (first ∷ rest) (Table (t ∷ ts)) after
    (line_apart (codes "table") words (codes "spend") (shares name) (table_line name t h) refl)
    (spells_then (Line (keyed_line (codes "table") (first_step name))) (λ step. Then (more_lines (further_line name) (step ∷ [])) (λ steps. Say (Table steps)))
    (first ∷ []) rest t (Table (t ∷ ts)) after
    (spells_line (keyed_line (codes "table") (first_step name)) first t (rest ++ after)
    (line_says (codes "table") words (first_step name) t (table_line name t h) (step_said name t w.0 w.1 w.2)))
    (spells_last (more_lines (further_line name) (t ∷ [])) Table rest (t ∷ ts) after
    (spells_lines (further_line name) (t ∷ []) rest ts after (steps_said name ts h (λ i x e. s.1 (suc i) x e)) o)))

-- ---- where a table ends

-- a step of another table
table_other : (name other : List ℕ) (step : SpendStep) → IsWord other → ¬ (name ≡ other) → 0 < length step.levels
    → further_line name (line_spelt (table_words other step)) ≡ None
table_other name other step h n some =
    let l = table_line other step h in
    ap (λ ws. if_step name (words_after (codes "table") ws)) (words_of_line (table_words other step) (l.1, l.2)) ∙ by step.levels some
  where
    by : (levels : List Ratio) → 0 < length levels → if_named name (step_words (other ∷ number_word step.from ∷ map number_word levels)) ≡ None
    by [] few = absurd (let q : 0 < length {A = Ratio} [] = few in omega arith)
    by (x ∷ xs) few = ap (λ b. if b then Some (step_of (number_word step.from) (number_word x ∷ map number_word xs)) else None) (other_name other name (λ e. n (sym e)))

-- what other hypotheses spend does not continue the table of this name
rest_other : (name : List ℕ) (names : List (List ℕ)) (spends : List Spend) (after : List (List ℕ)) → AllByRecursion IsWord names
    → AllByRecursion (λ other. ¬ (name ≡ other)) names → Each spends IsSpendSaid → Other (further_line name) after
    → Other (further_line name) (map line_spelt (spends_lines names spends) ++ after)
unfolding spend_lines
rest_other name [] spends after h n s o = o
rest_other name (other ∷ names) [] after h n s o = o
rest_other name (other ∷ names) (Shares fractions ∷ spends) after h n s o =
    let l = spend_line other fractions h.0 in
    ap (λ ws. if_step name (words_after (codes "table") ws)) (words_of_line (spend_words other fractions) (l.1, l.2))
rest_other name (other ∷ names) (Table [] ∷ spends) after h n s o =
    absurd (let few : 0 < length {A = SpendStep} [] = (s 0 (Table []) refl).0 in omega arith)
rest_other name (other ∷ names) (Table (t ∷ ts) ∷ spends) after h n s o =
    let w = (s 0 (Table (t ∷ ts)) refl).1 0 t refl in table_other name other t h.0 n.0 w.1

pub spends_lines_are : (names : List (List ℕ)) (spends : List Spend) → AllByRecursion IsWord names → AllByRecursion IsLine (spends_lines names spends)
spends_lines_are [] spends h = tt
spends_lines_are (name ∷ names) [] h = tt
spends_lines_are (name ∷ names) (spend ∷ spends) h =
    all_append IsLine (spend_lines name spend) (spends_lines names spends) (spend_lines_are name spend h.0) (spends_lines_are names spends h.1)

pub spends_said : (names : List (List ℕ)) (before spends : List Spend) (after : List (List ℕ)) → AllByRecursion IsWord names → AreDistinct names
    → length spends ≡ length names → Each spends IsSpendSaid → ((name : List ℕ) → Other (further_line name) after)
    → Spells (each_after spend before names) (map line_spelt (spends_lines names spends)) (before ++ spends) after
spends_said [] before [] after h n l s o =
    subst (λ xs. Spells (each_after spend before []) [] xs after) (sym (append-nil before)) (spells_say before after)
spends_said [] before (x ∷ xs) after h n l s o = absurd (omega arith)
spends_said (name ∷ names) before [] after h n l s o = absurd (omega arith)
spends_said (name ∷ names) before (x ∷ xs) after h n l s o =
    let rest = map line_spelt (spends_lines names xs) in
    let all = before ++ x ∷ xs in
    let form = each_after spend before (name ∷ names) in
    subst (λ lines. Spells form lines all after) (sym (map-append line_spelt (spend_lines name x) (spends_lines names xs)))
    (spells_then (spend name) (λ y. each_after spend (before ++ y ∷ []) names) (map line_spelt (spend_lines name x)) rest x all after
    (spend_said name x (rest ++ after) h.0 (s 0 x refl) (rest_other name names xs after h.1 n.0 (λ i y e. s (suc i) y e) (o name)))
    (subst (λ ys. Spells (each_after spend (before ++ x ∷ []) names) rest ys after) (append_assoc before (x ∷ []) xs)
    (spends_said names (before ++ x ∷ []) xs after h.1 n.1 (omega arith) (λ i y e. s (suc i) y e) o)))

-- ---- p-values that arrived

-- what an arrival needs so that it is read back
pub record IsArrivalSaid (m : ℕ) (a : Arrival) : Type 0 where
  pub known : a.hypothesis < m
  pub stage : a.stage ≤ 12
  pub p : IsSaid a.p

module _ (names : List (List ℕ)) (words : Each names IsWord) where
  arrive_line : (a : Arrival) → a.hypothesis < length names → a.stage ≤ 12 → IsLine (arrive_words names a)
  arrive_line a h s = keyed _ _ (name_at names a.hypothesis ∷ decimal a.stage ∷ number_word a.p ∷ []) refl refl
      (name_word names a.hypothesis words h, (whole_is_word a.stage s, (number_is_word a.p, tt)))

  pub arrive_lines_are : (arrivals : List Arrival) → Each arrivals (IsArrivalSaid (length names))
      → AllByRecursion IsLine (map (arrive_words names) arrivals)
  arrive_lines_are arrivals h = all_map IsLine (arrive_words names) arrivals (λ i a e. let w = h i a e in arrive_line a w.known w.stage)

  -- they continue no table
  pub arrivals_other : (name : List ℕ) (arrivals : List Arrival) → Each arrivals (IsArrivalSaid (length names))
      → Other (further_line name) (map line_spelt (map (arrive_words names) arrivals))
  arrivals_other name [] h = tt
  arrivals_other name (a ∷ arrivals) h =
      let w = h 0 a refl in
      let l = arrive_line a w.known w.stage in
      ap (λ ws. if_step name (words_after (codes "table") ws)) (words_of_line (arrive_words names a) (l.1, l.2))

  pub arrivals_said : (apart : AreDistinct names) (arrivals : List Arrival) → Each arrivals (IsArrivalSaid (length names))
      → AllZip (λ line a. keyed_line (codes "arrive") (arrival names) line ≡ Some (Ok a)) (map line_spelt (map (arrive_words names) arrivals)) arrivals
  arrivals_said apart [] h = tt
  arrivals_said apart (a ∷ arrivals) h =
      let w = h 0 a refl in
      let words : Words = name_at names a.hypothesis ∷ decimal a.stage ∷ number_word a.p ∷ [] in (
        line_says (codes "arrive") words (arrival names) a (arrive_line a w.known w.stage) (arrival_said names words a (record {
          name = name_at names a.hypothesis;
          stage = decimal a.stage;
          numeral = number_word a.p;
          words_are = refl;
          name_is = place_of_name names a.hypothesis apart w.known;
          stage_is = whole_is a.stage w.stage;
          says = w.p;
        })),
        arrivals_said apart arrivals (λ i x e. h (suc i) x e),
      )
