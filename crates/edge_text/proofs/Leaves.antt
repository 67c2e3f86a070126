-- What words say is what they are, both ways.
use Rattle.std.proofs.Common.{◌≡◌, ◌<◌, ℕ, Bool, true, false, List, [], ◌∷◌, length, map, Option, Some, None, Result, Ok, Err, refl, sym, ap, subst, ◌∙◌, arith, if◌then◌else◌}
use Rattle.std.specs.Str.{bytes_eq}
use Rattle.std.proofs.lemmas.Slice.Eq.{bytes_eq-Decides}
use Rattle.field_core.specs.declared.ratio.Ratio.{Ratio}
use Rattle.text_lines.specs.Words.{after_words, only_word, only_three}
use Rattle.case_model.specs.declared.draft_edge.DraftEdge.{DraftEdge}
use Rattle.case_model.specs.declared.spend_step.SpendStep.{SpendStep}
use Rattle.case_model.specs.declared.draft_stages.Arrival.{Arrival}
use Rattle.edge_text.specs.declared.fault.LineKind.{LineKind}
use Rattle.edge_text.specs.declared.fault.LineKind.TheVariants.{Unexpected, WordCount, UnknownName}
use Rattle.edge_text.specs.Grammar.{Words, IsNumber, AreNumbers, AreSomeNumbers, HasThree, IsEdge, IsCount, AreShares, IsStep, IsArrival}
use Rattle.field_core.specs.Answers.{and_then, mapped}
use Rattle.case_model.specs.Names.{position_of}
use Rattle.edge_text.specs.WordReading.{found_or, numeral, number, numbers, some_numbers, given, entry, ends_of, edge, whole, count, shares, step_words, step_of, first_step, arrival}
use Rattle.field_core.proofs.Results.{came_from, made_of, same_value}
use Rattle.edge_text.proofs.LinesTaken.{step_said}
use Rattle.edge_text.proofs.WordAnswers.{numeral_said, numeral_says, entry_said, entry_says, whole_found, whole_says}

-- what continues from what is found had something
found_of : {A B : Type 0} (o : Option A) (kind : LineKind) (f : A → Result B LineKind) (y : B) → found_or o kind f ≡ Ok y
    → (x : A) × (o ≡ Some x) × (f x ≡ Ok y)
found_of (Some x) kind f y e = (x, refl, e)
found_of None kind f y e = absurd (cc)

one_word : (words : Words) (w : List ℕ) → only_word words ≡ Some w → words ≡ w ∷ []
one_word [] w e = absurd (cc)
one_word (v ∷ []) w e = cc
one_word (v ∷ u ∷ ws) w e = absurd (cc)

three_words : (words : Words) (w : List ℕ × List ℕ × List ℕ) → only_three words ≡ Some w → words ≡ w.0 ∷ w.1 ∷ w.2 ∷ []
three_words [] w e = absurd (cc)
three_words (a ∷ []) w e = absurd (cc)
three_words (a ∷ b ∷ []) w e = absurd (cc)
three_words (a ∷ b ∷ c ∷ []) w e = ap {A = List ℕ × List ℕ × List ℕ} (λ v. v.0 ∷ v.1 ∷ v.2 ∷ []) (let q : Some (a, b, c) ≡ Some w = e in cc)
three_words (a ∷ b ∷ c ∷ d ∷ ws) w e = absurd (cc)

pub number_said : (words : Words) (x : Ratio) → IsNumber words x → number words ≡ Ok x
number_said words x h = ap number h.alone ∙ numeral_said h.numeral x h.says

pub number_is : (words : Words) (x : Ratio) → number words ≡ Ok x → IsNumber words x
number_is words x e =
    let f = found_of (only_word words) WordCount numeral x e in
    record { numeral = f.0; alone = one_word words f.0 f.1; says = numeral_says f.0 x f.2 }

pub names_said : (words names : Words) → words ≡ names → ◌≡◌ {A = Result Words LineKind} (Ok words) (Ok names)
names_said words names h = ap Ok h

pub names_are : (words names : Words) → ◌≡◌ {A = Result Words LineKind} (Ok words) (Ok names) → words ≡ names
names_are words names e = same_value words names e

pub numbers_said : (words : Words) (xs : List Ratio) → AreNumbers words xs → numbers words ≡ Ok xs
numbers_said [] [] h = refl
numbers_said [] (x ∷ xs) h = absurd h
numbers_said (w ∷ ws) [] h = absurd h
numbers_said (w ∷ ws) (x ∷ xs) h = let a = numeral_said w x h.0 in let b = numbers_said ws xs h.1 in rw (a, b) refl

pub numbers_are : (words : Words) (xs : List Ratio) → numbers words ≡ Ok xs → AreNumbers words xs
numbers_are [] xs e = subst (AreNumbers []) (same_value [] xs e) tt
numbers_are (w ∷ ws) xs e =
    let a = came_from (numeral w) (λ x. and_then (numbers ws) (λ ys. Ok (x ∷ ys))) xs e in
    let b = came_from (numbers ws) (λ ys. Ok (a.0 ∷ ys)) xs a.2 in
    subst (AreNumbers (w ∷ ws)) (same_value (a.0 ∷ b.0) xs b.2) (numeral_says w a.0 a.1, numbers_are ws b.0 b.1)

pub some_said : (words : Words) (xs : List Ratio) → AreSomeNumbers words xs → some_numbers words ≡ Ok xs
some_said [] [] h = absurd (let few : 0 < length {A = Ratio} [] = h.some in omega arith)
some_said [] (x ∷ xs) h = absurd h.each
some_said (w ∷ ws) xs h = numbers_said (w ∷ ws) xs h.each

-- numerals, one or more, say one or more values
some_values : (w : List ℕ) (ws : Words) (xs : List Ratio) → AreNumbers (w ∷ ws) xs → 0 < length xs
some_values w ws [] h = absurd h
some_values w ws (x ∷ xs) h = omega arith

pub some_are : (words : Words) (xs : List Ratio) → some_numbers words ≡ Ok xs → AreSomeNumbers words xs
some_are [] xs e = absurd (let q : Err WordCount ≡ Ok xs = e in cc)
some_are (w ∷ ws) xs e = let a = numbers_are (w ∷ ws) xs e in record { each = a; some = some_values w ws xs a }

-- the words are numerals of these p-values, at least one
abbrev pub AreGiven : Words → List (Option Ratio) → Type 0
AreGiven words p = (values : List Ratio) × AreSomeNumbers words values × (p ≡ map Some values)

pub given_said : (words : Words) (p : List (Option Ratio)) → AreGiven words p → given words ≡ Ok p
given_said words p h = ap (mapped (map Some)) (some_said words h.0 h.1) ∙ ap Ok (sym h.2)

pub given_are : (words : Words) (p : List (Option Ratio)) → given words ≡ Ok p → AreGiven words p
given_are words p e = let a = made_of (map Some) (some_numbers words) p e in (a.0, some_are words a.0 a.1, a.2)

three_ends : (words : Words) (w : List ℕ × List ℕ) → ends_of words ≡ Some w → HasThree words w.0 w.1
three_ends [] w e = absurd (cc)
three_ends (a ∷ []) w e = absurd (cc)
three_ends (a ∷ b ∷ []) w e = absurd (cc)
three_ends (a ∷ b ∷ c ∷ ws) w e =
    let q : Some (a, b) ≡ Some w = e in
    let p : ◌≡◌ {A = List ℕ × List ℕ} (a, b) w = cc in
    record { further = c; others = ws; words_are = ap {A = List ℕ × List ℕ} (λ x. x.0 ∷ x.1 ∷ c ∷ ws) p }

pub edge_said : (names : List (List ℕ)) (line : List ℕ) (words : Words) (e : DraftEdge) → IsEdge names line words e → edge names line words ≡ Ok e
edge_said names line words e h =
    let f = h.from_is in
    let t = h.to_is in
    let n = entry_said (after_words 3 line) e.entry h.says in
    ap (edge names line) h.ends.words_are ∙ rw (f, t, n) refl

pub edge_is : (names : List (List ℕ)) (line : List ℕ) (words : Words) (e : DraftEdge) → edge names line words ≡ Ok e → IsEdge names line words e
edge_is names line words e q =
    let w = found_of (ends_of words) WordCount _ e q in
    let f = found_of (position_of w.0.0 names) UnknownName _ e w.2 in
    let t = found_of (position_of w.0.1 names) UnknownName _ e f.2 in
    let n = came_from (entry (after_words 3 line)) (λ x. Ok (record { from = f.0; to = t.0; entry = x })) e t.2 in
    let made : DraftEdge = record { from = f.0; to = t.0; entry = n.0 } in
    let is : IsEdge names line words made = record {
      from = w.0.0;
      to = w.0.1;
      ends = three_ends words w.0 w.1;
      from_is = f.1;
      to_is = t.1;
      says = entry_says (after_words 3 line) n.0 n.1;
    } in
    subst (IsEdge names line words) (same_value made e n.2) is

pub count_said : (words : Words) (n : ℕ) → IsCount words n → count words ≡ Ok n
count_said words n h = ap count h.alone ∙ whole_found h.word n h.is

pub count_is : (words : Words) (n : ℕ) → count words ≡ Ok n → IsCount words n
count_is words n e =
    let f = found_of (only_word words) WordCount whole n e in
    record { word = f.0; alone = one_word words f.0 f.1; is = whole_says f.0 n f.2 }

pub same_name : (name : List ℕ) → bytes_eq name name ≡ true
same_name name = (bytes_eq-Decides name name).1 refl

pub shares_said : (name : List ℕ) (words : Words) (xs : List Ratio) → AreShares name words xs → shares name words ≡ Ok xs
shares_said name words xs h = ap (shares name) h.words_are ∙ by h.numerals xs h.each h.some
  where
    by : (ws : Words) (ys : List Ratio) → AreNumbers ws ys → 0 < length ys → shares name (name ∷ ws) ≡ Ok ys
    by [] [] a few = absurd (let q : 0 < length {A = Ratio} [] = few in omega arith)
    by [] (y ∷ ys) a few = absurd a
    by (w ∷ ws) ys a few = ap (λ b. if b then numbers (w ∷ ws) else Err Unexpected) (same_name name) ∙ numbers_said (w ∷ ws) ys a

pub shares_are : (name : List ℕ) (words : Words) (xs : List Ratio) → shares name words ≡ Ok xs → AreShares name words xs
shares_are name [] xs e = absurd (let q : Err WordCount ≡ Ok xs = e in cc)
shares_are name (n ∷ []) xs e = absurd (let q : Err WordCount ≡ Ok xs = e in cc)
shares_are name (n ∷ w ∷ ws) xs e = by (bytes_eq n name) refl e
  where
    by : (b : Bool) → bytes_eq n name ≡ b → (if b then numbers (w ∷ ws) else Err Unexpected) ≡ Ok xs → AreShares name (n ∷ w ∷ ws) xs
    by true f k =
        let a = numbers_are (w ∷ ws) xs k in
        record { numerals = w ∷ ws; words_are = ap (λ m. m ∷ w ∷ ws) ((bytes_eq-Decides n name).0 f); each = a; some = some_values w ws xs a }
    by false f k = absurd (let q : Err Unexpected ≡ Ok xs = k in cc)

pub first_said : (name : List ℕ) (words : Words) (t : SpendStep) → IsStep name words t → first_step name words ≡ Ok t
first_said name words t h = ap (first_step name) h.words_are ∙ by h.numerals t.levels h.each h.some
  where
    by : (ws : Words) (ys : List Ratio) → AreNumbers ws (t.from ∷ ys) → 0 < length ys
        → first_step name (name ∷ ws) ≡ Ok (record { from = t.from; levels = ys })
    by [] ys a few = absurd a
    by (w ∷ []) [] a few = absurd (let q : 0 < length {A = Ratio} [] = few in omega arith)
    by (w ∷ []) (y ∷ ys) a few = absurd a.1
    by (w ∷ v ∷ ws) ys a few =
        let n = numeral_said w t.from a.0 in
        let m = numbers_said (v ∷ ws) ys a.1 in
        ap (λ b. if b then step_of w (v ∷ ws) else Err Unexpected) (same_name name)
        ∙ ap (λ r. and_then r (λ x. and_then (numbers (v ∷ ws)) (λ xs. Ok (record { from = x; levels = xs })))) n
        ∙ ap (λ r. and_then r (λ xs. Ok (record { from = t.from; levels = xs }))) m

three_first : (words : Words) (w : List ℕ × List ℕ × Words) → step_words words ≡ Some w
    → (words ≡ w.0 ∷ w.1 ∷ w.2) × ((v : List ℕ) × (vs : Words) × (w.2 ≡ v ∷ vs))
three_first [] w e = absurd (cc)
three_first (a ∷ []) w e = absurd (cc)
three_first (a ∷ b ∷ []) w e = absurd (cc)
three_first (a ∷ b ∷ c ∷ ws) w e =
    let q : Some (a, b, c ∷ ws) ≡ Some w = e in
    let p : ◌≡◌ {A = List ℕ × List ℕ × Words} (a, b, c ∷ ws) w = cc in
    (ap {A = List ℕ × List ℕ × Words} (λ x. x.0 ∷ x.1 ∷ x.2) p, (c, ws, sym (ap {A = List ℕ × List ℕ × Words} (λ x. x.2) p)))

pub first_is : (name : List ℕ) (words : Words) (t : SpendStep) → first_step name words ≡ Ok t → IsStep name words t
first_is name words t e =
    let s = step_said name words t e in
    let w = three_first words s.parts s.found in
    let a = came_from (numeral s.parts.1) _ t s.says in
    let b = came_from (numbers s.parts.2) (λ xs. Ok (record { from = a.0; levels = xs })) t a.2 in
    let made : SpendStep = record { from = a.0; levels = b.0 } in
    let each = numbers_are s.parts.2 b.0 b.1 in
    let is : IsStep name words made = record {
      numerals = s.parts.1 ∷ s.parts.2;
      words_are = w.0 ∙ ap (λ m. m ∷ s.parts.1 ∷ s.parts.2) ((bytes_eq-Decides s.parts.0 name).0 s.named);
      each = (numeral_says s.parts.1 a.0 a.1, each);
      some = some_values w.1.0 w.1.1 b.0 (subst (λ ws. AreNumbers ws b.0) w.1.2 each);
    } in
    subst (IsStep name words) (same_value made t b.2) is

pub arrival_said : (names : List (List ℕ)) (words : Words) (a : Arrival) → IsArrival names words a → arrival names words ≡ Ok a
arrival_said names words a h =
    let f = h.name_is in
    let s = whole_found h.stage a.stage h.stage_is in
    let n = numeral_said h.numeral a.p h.says in
    ap (arrival names) h.words_are
    ∙ ap (λ o. found_or o UnknownName (λ i. and_then (whole h.stage) (λ k. and_then (numeral h.numeral) (λ p. Ok (record { hypothesis = i; stage = k; p = p }))))) f
    ∙ ap (λ r. and_then r (λ k. and_then (numeral h.numeral) (λ p. Ok (record { hypothesis = a.hypothesis; stage = k; p = p })))) s
    ∙ ap (λ r. and_then r (λ p. Ok (record { hypothesis = a.hypothesis; stage = a.stage; p = p }))) n

pub arrival_is : (names : List (List ℕ)) (words : Words) (a : Arrival) → arrival names words ≡ Ok a → IsArrival names words a
arrival_is names words a q =
    let w = found_of (only_three words) WordCount _ a q in
    let f = found_of (position_of w.0.0 names) UnknownName _ a w.2 in
    let s = came_from (whole w.0.1) _ a f.2 in
    let n = came_from (numeral w.0.2) (λ x. Ok (record { hypothesis = f.0; stage = s.0; p = x })) a s.2 in
    let made : Arrival = record { hypothesis = f.0; stage = s.0; p = n.0 } in
    let is : IsArrival names words made = record {
      name = w.0.0;
      stage = w.0.1;
      numeral = w.0.2;
      words_are = three_words words w.0 w.1;
      name_is = f.1;
      stage_is = whole_says w.0.1 s.0 s.1;
      says = numeral_says w.0.2 n.0 n.1;
    } in
    subst (IsArrival names words) (same_value made a n.2) is
