-- Texts of cases can end after any of their lines.
use Rattle.std.proofs.Common.{◌≡◌, inl, inr, ℕ, true, List, [], ◌∷◌, ◌++◌, Option, Some, None, Result, Ok, refl, ap, subst, ◌∙◌, arith}
use Rattle.std.specs.Prelude.{codes, pos}
use Rattle.std.specs.Fmt.{digits}
use Rattle.std.specs.List.{AllByRecursion}
use Rattle.std.specs.Option.{option_map}
use Rattle.std.specs.Str.{bytes_eq}
use Rattle.std.proofs.lemmas.Slice.Eq.{bytes_eq-Decides}
use Rattle.field_core.specs.declared.ratio.Ratio.{Ratio}
use Rattle.fraction.specs.Plain.{zero_reduced}
use Rattle.fraction.specs.Spelling.{spelling}
use Rattle.fraction.proofs.ReadBack.{read_back}
use Rattle.numerals.specs.Numeral.{IsNumeralOf}
use Rattle.case_model.specs.declared.draft_component.DraftComponent.{DraftComponent}
use Rattle.case_model.specs.declared.draft_stages.DraftStages.{DraftStages}
use Rattle.case_model.specs.declared.spend.Spend.{Spend}
use Rattle.case_model.specs.declared.spend.Spend.TheVariants.{Shares, Table}
use Rattle.text_lines.specs.Words.{words_of, words_after}
use Rattle.text_lines.proofs.Keywords.{keyword_found}
use Rattle.edge_text.specs.declared.fault.LineKind.{LineKind}
use Rattle.edge_text.specs.Grammar.{Words, Says, one}
use Rattle.edge_text.specs.WordReading.{number, numbers, given, count, shares, first_step, arrival}
use Rattle.edge_text.proofs.Leaves.{number_said, given_said, shares_said, first_said}
use Rattle.edge_text.proofs.NameWords.{IsNameWord, words_are, word_first, zero_line, zero_line_words}
use Rattle.text_lines.specs.Forms.{Leaf, Say, Then, Many, Seen, Lacks}
use Rattle.text_lines.specs.Kinds.{keyed_line, more_lines, each_after}
use Rattle.text_lines.proofs.FormEnds.{Whole, Leads, Can, can_say, can_then, can_may, can_many}
use Rattle.edge_text.specs.Document.{Lines, edge_line, if_step, further_line, share_line, block, blocks, spend, stages, after_p, document, kinds}
use Rattle.text_lines.proofs.EndRules.{Example, can_line_then, can_more, can_either}

abbrev Rows : Type 0
Rows = List (Seen (List ℕ))

-- ---- a line of each kind

abbrev zero_ratio : Ratio
zero_ratio = record { num = pos 0; den = pos 1; valid = zero_reduced }

zero_spelt : spelling (record { num = pos 0; den = pos 1 }) ≡ codes "0"
unfolding spelling digits
zero_spelt = refl

zero_said : Says (codes "0") zero_ratio
unfolding Says
zero_said = subst (λ word. IsNumeralOf word (record { num = pos 0; den = pos 1 })) zero_spelt
    (read_back (record { num = pos 0; den = pos 1 }) zero_reduced (omega arith) (omega arith))

-- a line of these words
example : {A : Type 0} (keyword : List ℕ) (says : Words → Result A LineKind) (line : List ℕ) (words : Words) (a : A)
    → words_of line ≡ keyword ∷ words → says words ≡ Ok a → Example (keyed_line keyword says)
example keyword says line words a e s =
    let same : bytes_eq keyword keyword ≡ true = (bytes_eq-Decides keyword keyword).1 refl in
    (record { number = 0; line = line }, a, ap (λ ws. option_map says (words_after keyword ws)) e ∙ rw same (ap Some s))

alpha_words : words_of (codes "alpha 0") ≡ codes "alpha" ∷ codes "0" ∷ []
unfolding words_of
alpha_words = refl

names_words : words_of (codes "hypotheses") ≡ codes "hypotheses" ∷ []
unfolding words_of
names_words = refl

p_words : words_of (codes "p 0") ≡ codes "p" ∷ codes "0" ∷ []
unfolding words_of
p_words = refl

share_words : words_of (codes "component 0") ≡ codes "component" ∷ codes "0" ∷ []
unfolding words_of
share_words = refl

weights_words : words_of (codes "weights") ≡ codes "weights" ∷ []
unfolding words_of
weights_words = refl

zeros_words : words_of (codes "0 0") ≡ codes "0" ∷ codes "0" ∷ []
unfolding words_of
zeros_words = refl

zero_number : number (codes "0" ∷ []) ≡ Ok zero_ratio
zero_number = number_said (codes "0" ∷ []) zero_ratio (record { numeral = codes "0"; alone = refl; says = zero_said })

zero_given : given (codes "0" ∷ []) ≡ Ok (Some zero_ratio ∷ [])
zero_given = given_said (codes "0" ∷ []) (Some zero_ratio ∷ []) (zero_ratio ∷ [], record { each = (zero_said, tt); some = omega arith }, refl)

table_word : IsNameWord (codes "table")
table_word = record { some = omega arith; plain = (refl, (refl, (refl, (refl, (refl, tt))))) }

table_line : (name : List ℕ) → IsNameWord name → Example (keyed_line (codes "table") (first_step name))
table_line name h =
    let zeros = codes "0" ∷ codes "0" ∷ [] in
    example (codes "table") (first_step name) (codes "table" ++ 32 ∷ (name ++ 32 ∷ codes "0 0")) (name ∷ zeros) (record { from = zero_ratio; levels = zero_ratio ∷ [] })
    (word_first (codes "table") (name ++ 32 ∷ codes "0 0") table_word ∙ ap (λ (ws : Words). codes "table" ∷ ws) (word_first name (codes "0 0") h ∙ ap (λ (ws : Words). name ∷ ws) zeros_words))
    (first_said name (name ∷ zeros) (record { from = zero_ratio; levels = zero_ratio ∷ [] })
    (record { numerals = zeros; words_are = refl; each = (zero_said, (zero_said, tt)); some = omega arith }))

spend_line : (name : List ℕ) → IsNameWord name → Example (keyed_line (codes "spend") (shares name))
spend_line name h = example (codes "spend") (shares name) (zero_line name) (name ∷ codes "0" ∷ []) (zero_ratio ∷ []) (zero_line_words name h)
    (shares_said name (name ∷ codes "0" ∷ []) (zero_ratio ∷ [])
    (record { numerals = codes "0" ∷ []; words_are = refl; each = (zero_said, tt); some = omega arith }))

-- its line is not a step of a table
spend_apart : (name table : List ℕ) (h : IsNameWord name) → further_line table (spend_line name h).0.line ≡ None
unfolding spend_line example
spend_apart name table h = ap (λ ws. if_step table (words_after (codes "table") ws)) (zero_line_words name h)

-- names are words
abbrev names_line : Leaf (List ℕ) LineKind Words
names_line = keyed_line (codes "hypotheses") (λ words. Ok words)

names_only : (line : List ℕ) (names : Words) → names_line line ≡ Some (Ok names) → AllByRecursion IsNameWord names
names_only line names e = by (words_after (codes "hypotheses") (words_of line)) refl e
  where
    tail_of : (words : Words) → words_of line ≡ codes "hypotheses" ∷ words → AllByRecursion IsNameWord words
    tail_of words k = let all : AllByRecursion IsNameWord (codes "hypotheses" ∷ words) = subst (AllByRecursion IsNameWord) k (words_are line) in all.1

    by : (o : Option Words) → o ≡ words_after (codes "hypotheses") (words_of line)
        → ◌≡◌ {A = Option (Result Words LineKind)} (option_map (λ words. Ok words) o) (Some (Ok names)) → AllByRecursion IsNameWord names
    by (Some words) k q = let same : words ≡ names = cc in subst (AllByRecursion IsNameWord) same (tail_of words (keyword_found (codes "hypotheses") (words_of line) words k))
    by None k q = absurd (cc)

-- ---- blocks: nothing need follow them

module _ (names : Words) where
  can_block : (share : Ratio) (C : DraftComponent → Rows → Type 0) → ((k : DraftComponent) → C k []) → Can kinds (block names share) C
  can_block share C h =
      can_line_then kinds (keyed_line (codes "weights") numbers) _ (λ weights. Unit {0}) C
      (example (codes "weights") numbers (codes "weights") [] [] weights_words refl) (λ line weights e. tt) (λ weights u.
      can_then kinds (more_lines (edge_line names) []) (λ edges. Say (record { share = share; weights = weights; edges = edges })) C
      (can_more kinds (edge_line names) _ (λ es. ([], ((record { share = share; weights = weights; edges = es }, [], (refl, refl), h _), tt))) [])
      (λ edges. can_say kinds (record { share = share; weights = weights; edges = edges }) C ([], h _)))

  abbrev further_blocks : List DraftComponent → Lines (List DraftComponent)
  further_blocks ks = Many share_line (λ ks share. block names share) ks

  can_blocks : (C : List DraftComponent → Rows → Type 0) → ((ks : List DraftComponent) → C ks []) → Can kinds (blocks names) C
  can_blocks C h = can_either kinds share_line (λ share. Then (block names share) (λ k. further_blocks (k ∷ []))) (Then (block names one) (λ k. Say (k ∷ []))) C
      (example (codes "component") number (codes "component 0") (codes "0" ∷ []) zero_ratio share_words zero_number)
      (λ share. can_then kinds (block names share) (λ k. further_blocks (k ∷ [])) C
      (can_block share _ (λ k. (k ∷ [], [], ([], refl, (refl, tt)), h (k ∷ []))))
      (λ k. can_many kinds share_line (λ ks share. block names share) C (λ ks. ([], (h ks, tt)))
      (λ ks share. can_block share _ (λ k. (h (ks ++ k ∷ []), tt))) (k ∷ [])))
      (can_then kinds (block names one) (λ k. Say (k ∷ [])) C (can_block one _ (λ k. (k ∷ [], [], (refl, refl), h (k ∷ []))))
      (λ k. can_say kinds (k ∷ []) C ([], h (k ∷ []))))

-- ---- stages: a table is followed by nothing or by another line

can_spend : (name : List ℕ) (C : Spend → Rows → Type 0) → IsNameWord name → ((x : Spend) → (rest : Rows) × C x rest × Lacks (further_line name) rest)
    → Can kinds (spend name) C
can_spend name C w stop =
    can_either kinds (keyed_line (codes "spend") (shares name)) (λ xs. Say (Shares xs)) _ C (spend_line name w)
    (λ xs. let s = stop (Shares xs) in can_say kinds (Shares xs) C (s.0, s.1))
    (can_line_then kinds (keyed_line (codes "table") (first_step name)) _ (λ step. Unit {0}) C (table_line name w) (λ line step e. tt) (λ step u.
    can_then kinds (more_lines (further_line name) (step ∷ [])) (λ steps. Say (Table steps)) C
    (can_more kinds (further_line name) _ (λ steps. let s = stop (Table steps) in (s.0, ((Table steps, s.0, (refl, refl), s.1), s.2))) (step ∷ []))
    (λ steps. let s = stop (Table steps) in can_say kinds (Table steps) C (s.0, s.1))))

-- lines of the spends of these names, none of them a step of a table
lead_spends : (names : Words) (before : List Spend) (C : List Spend → Rows → Type 0) → AllByRecursion IsNameWord names → ((xs : List Spend) → C xs [])
    → (rest : Rows) × Leads (each_after spend before names) C rest × ((table : List ℕ) → Lacks (further_line table) rest)
lead_spends [] before C w h = ([], (before, [], (refl, refl), h before), (λ table. tt))
lead_spends (name ∷ names) before C w h =
    let e = spend_line name w.0 in
    let r = lead_spends names (before ++ Shares e.1 ∷ []) C w.1 h in (
      e.0 ∷ r.0,
      (r.1.0, r.1.1, (Shares e.1, r.0, inl (e.1, r.0, record { row = e.0; rows_are = refl; says = e.2 }, (refl, refl)), r.1.2), r.1.3),
      (λ table. spend_apart name table w.0),
    )

can_spends : (names : Words) (before : List Spend) (C : List Spend → Rows → Type 0) → AllByRecursion IsNameWord names → ((xs : List Spend) → C xs [])
    → Can kinds (each_after spend before names) C
can_spends [] before C w h = can_say kinds before C ([], h before)
can_spends (name ∷ names) before C w h = can_then kinds (spend name) (λ x. each_after spend (before ++ x ∷ []) names) C
    (can_spend name _ w.0 (λ x. let r = lead_spends names (before ++ x ∷ []) C w.1 h in (r.0, r.1, r.2 name)))
    (λ x. can_spends names (before ++ x ∷ []) C w.1 h)

can_stages : (names : Words) (C : Option DraftStages → Rows → Type 0) → AllByRecursion IsNameWord names → ((o : Option DraftStages) → C o [])
    → Can kinds (stages names) C
can_stages names C w h =
    can_may kinds (keyed_line (codes "stages") count) _ (Say None) C ([], (None, [], inr (tt, (refl, refl)), h None)) (λ n.
    can_then kinds (each_after spend [] names) _ C
    (can_spends names [] _ w (λ spends. (Some (record { count = n; spend = spends; arrivals = [] }), [], ([], [], ([], refl, (refl, tt)), (refl, refl)), h _))) (λ spends.
    can_then kinds (more_lines (keyed_line (codes "arrive") (arrival names)) []) (λ arrivals. Say (Some (record { count = n; spend = spends; arrivals = arrivals }))) C
    (can_more kinds (keyed_line (codes "arrive") (arrival names)) _ (λ arrivals. ([], ((Some (record { count = n; spend = spends; arrivals = arrivals }), [], (refl, refl), h _), tt))) [])
    (λ arrivals. can_say kinds (Some (record { count = n; spend = spends; arrivals = arrivals })) C ([], h _))))
    (can_say kinds None C ([], h None))

-- ---- texts

can_after : (alpha : Ratio) (names : Words) (p : List (Option Ratio)) → AllByRecursion IsNameWord names → Can kinds (after_p alpha names p) Whole
can_after alpha names p w =
    can_then kinds (blocks names) _ Whole (can_blocks names _ (λ ks. (record { names = names; alpha = alpha; p = p; components = ks; stages = None }, [], (None, [], inr (tt, (refl, refl)), (refl, refl)), refl))) (λ ks.
    can_then kinds (stages names) (λ s. Say (record { names = names; alpha = alpha; p = p; components = ks; stages = s })) Whole
    (can_stages names _ w (λ s. (record { names = names; alpha = alpha; p = p; components = ks; stages = s }, [], (refl, refl), refl)))
    (λ s. can_say kinds (record { names = names; alpha = alpha; p = p; components = ks; stages = s }) Whole ([], refl)))

pub can_document : Can kinds document Whole
can_document =
    can_line_then kinds (keyed_line (codes "alpha") number) _ (λ alpha. Unit {0}) Whole
    (example (codes "alpha") number (codes "alpha 0") (codes "0" ∷ []) zero_ratio alpha_words zero_number) (λ line alpha e. tt) (λ alpha u.
    can_line_then kinds names_line _ (AllByRecursion IsNameWord) Whole
    (example (codes "hypotheses") (λ words. Ok words) (codes "hypotheses") [] [] names_words refl) names_only (λ names w.
    can_either kinds (keyed_line (codes "p") given) (after_p alpha names) (after_p alpha names []) Whole
    (example (codes "p") given (codes "p 0") (codes "0" ∷ []) (Some zero_ratio ∷ []) p_words zero_given) (λ p. can_after alpha names p w) (can_after alpha names [] w)))
