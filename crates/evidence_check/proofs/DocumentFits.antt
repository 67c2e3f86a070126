-- What a document says fits its case.
use Rattle.std.proofs.Common.{◌≡◌, ◌⊎◌, inl, inr, refl, sym, ap, subst, ◌∙◌, ℕ, suc, ◌<◌, Bool, true, false, not, List, [], ◌∷◌, ◌++◌, map, length, arith}
use Rattle.std.proofs.Common.{Option, Some, None, Result, Ok, Err}
use Rattle.std.specs.Prelude.{◌+◌, ◌==◌, ◌&&◌, codes, if◌then◌else◌}
use Rattle.std.specs.Fmt.{decimal}
use Rattle.std.specs.List.{All, range_with_len}
use Rattle.std.specs.Option.{option_map}
use Rattle.std.specs.Str.{bytes_eq}
use Rattle.std.proofs.lemmas.List.{length-map}
use Rattle.std.proofs.lemmas.List.Elements.{All-nil, All-cons, All-head, All-tail, All-filter, All-from_get_or}
use Rattle.std.proofs.lemmas.List.FromFn.{length-range_with_len, get_or-range_with_len}
use Rattle.std.proofs.lemmas.List.Quantifiers.{position-Some}
use Rattle.field_core.specs.Kind.{Parts}
use Rattle.field_core.specs.Sets.{set_of}
use Rattle.text_lines.specs.Words.{words_after, only_word, only_three}
use Rattle.text_lines.specs.Forms.{Line, Seen, Is, AreMany, IsDocument}
use Rattle.text_lines.specs.Kinds.{keyed_words}
use Rattle.text_lines.proofs.EachSaid.{Pairs, pairs_length, pairs_all, pairs_map, each_said}
use Rattle.case_model.specs.Content.{Content}
use Rattle.case_numbers.specs.Numbers.{Numbers}
use Rattle.evidence_check.specs.declared.fault.ProofKind.{ProofKind}
use Rattle.evidence_check.specs.declared.fault.ProofKind.TheVariants.{Unexpected, WordCount, Version, UnknownName, Number}
use Rattle.evidence_check.specs.declared.quantity.Quantity.{Quantity}
use Rattle.evidence_check.specs.declared.quantity.Quantity.TheVariants.{Flow, Exit}
use Rattle.evidence_check.specs.Evidence.{others}
use Rattle.evidence_check.specs.EvidenceParts.{StepParts, KeepParts, AreFull, FlowsFit, ExitsFit}
use Rattle.evidence_check.specs.EvidenceView.{FitsCase}
use Rattle.evidence_check.specs.NumberReading.{case_frame}
use Rattle.evidence_check.specs.DocumentLines.{Words, Frame, found_or, place_fault, keyword, version_line, step_line, number_line, keep_line}
use Rattle.evidence_check.specs.Document.{Said, component_numbers, numbers, named, step, keep, kept, document}
use Rattle.evidence_check.proofs.Hypotheses.{one_longer}

-- ---- what a line says

found_ok : {A B : Type 0} (o : Option A) (kind : ProofKind) (f : A → Result B ProofKind) (b : B) → found_or o kind f ≡ Ok b → (x : A) × (o ≡ Some x) × (f x ≡ Ok b)
found_ok (Some x) kind f b h = (x, refl, h)
found_ok None kind f b h = absurd (cc h)

if_ok : {B : Type 0} (t : Bool) (r : Result B ProofKind) (kind : ProofKind) (b : B) → (if t then r else Err kind) ≡ Ok b → r ≡ Ok b
if_ok true r kind b h = h
if_ok false r kind b h = absurd (cc h)

same_said : {B : Type 0} (x y : B) → ◌≡◌ {A = Result B ProofKind} (Ok x) (Ok y) → y ≡ x
same_said x y e = cc e

key_ok : {A : Type 0} (first : List ℕ) (f : Words → Result A ProofKind) (ws : Words) (a : A) → ◌≡◌ {A = Option (Result A ProofKind)} (keyed_words first f ws) (Some (Ok a))
    → (rest : Words) × (f rest ≡ Ok a)
key_ok {A} first f ws a h = by (words_after first ws) h
  where
    by : (o : Option Words) → ◌≡◌ {A = Option (Result A ProofKind)} (option_map f o) (Some (Ok a)) → (rest : Words) × (f rest ≡ Ok a)
    by (Some rest) h = (rest, let k : f rest ≡ Ok a = cc h in k)
    by None h = absurd (cc h)

version_said : (ws : Words) (v : ℕ) → version_line ws ≡ Some (Ok v) → (v ≡ 1) ⊎ (v ≡ 2)
version_said ws v h =
    let a = key_ok (codes "evidence") _ ws v h in
    let b = found_ok (only_word a.0) WordCount _ v a.1 in
    by (bytes_eq b.0 (codes "1")) (bytes_eq b.0 (codes "2")) b.2
  where
    by : (one two : Bool) → ◌≡◌ {A = Result ℕ ProofKind} (if one then Ok 1 else (if two then Ok 2 else Err Version)) (Ok v) → (v ≡ 1) ⊎ (v ≡ 2)
    by true two e = inl (same_said 1 v e)
    by false true e = inr (same_said 2 v e)
    by false false e = absurd (cc e)

module _ (T : Frame) where
  step_said : (ws : Words) (j : ℕ) → step_line T ws ≡ Some (Ok j) → (name : List ℕ) × (T.position name ≡ Some j)
  step_said ws j h =
      let a = key_ok (codes "step") _ ws j h in
      let b = found_ok (only_word a.0) WordCount _ j a.1 in
      let d = found_ok (T.position b.0) UnknownName _ j b.2 in
      (b.0, d.1 ∙ ap Some (sym (same_said d.0 j d.2)))

  number_said : (q : Quantity) (k j : ℕ) (ws : Words) (x : Parts) → number_line T q k j ws ≡ Some (Ok x) → (text : List ℕ) × (T.number text ≡ Some x)
  number_said q k j ws x h =
      let a = key_ok (keyword q) _ ws x h in
      let b = found_ok (only_three a.0) WordCount _ x a.1 in
      let d = if_ok (bytes_eq b.0.0 (decimal (k + 1)) && bytes_eq b.0.1 (T.name j)) (found_or (T.number b.0.2) Number (λ x. Ok x)) (place_fault q) x b.2 in
      let f = found_ok (T.number b.0.2) Number _ x d in
      (b.0.2, f.1 ∙ ap Some (sym (same_said f.0 x f.2)))

  keep_said : (k : ℕ) (ws : Words) (h : ℕ) → keep_line T k ws ≡ Some (Ok h) → h ≡ k
  keep_said k ws h e =
      let a = key_ok (codes "keep") _ ws h e in
      let b = found_ok (only_word a.0) WordCount _ h a.1 in
      same_said k h (if_ok (bytes_eq b.0 (T.name k)) (Ok k) Unexpected h b.2)

  -- ---- what lines say

  module _ (P : Parts → Type 0) (of_text : (text : List ℕ) (x : Parts) → T.number text ≡ Some x → P x) where
    -- this number of lists of this number of numbers
    abbrev Full : ℕ → List (List Parts) → Type 0
    Full n lists = AreFull T.components n lists × All (All P) lists

    abbrev Filled : List ℕ → List Parts → Type 0
    Filled js xs = (length xs ≡ length js) × All P xs

    component_said : (q : Quantity) (js : List ℕ) (k : ℕ) (xs : List Parts) (rows rest : List (Seen Words)) → Is (component_numbers T q js k) rows xs rest → Filled js xs
    component_said q js k xs rows rest h =
        let p = each_said (λ j. Line (number_line T q k j)) (λ j x. P x)
        (λ j x rows rest b. let s = number_said q k j b.row.line x b.says in of_text s.0 x s.1) js rows rest xs h in
        (pairs_length (λ j x. P x) js xs p, pairs_all (λ j x. P x) P (λ j x h. h) js xs p)

    numbers_said : (q : Quantity) (js : List ℕ) (lists : List (List Parts)) (rows rest : List (Seen Words)) → Is (numbers T q js) rows lists rest → Full (length js) lists
    numbers_said q js lists rows rest h =
        let p = each_said (component_numbers T q js) (λ k xs. Filled js xs) (λ k xs rows rest i. component_said q js k xs rows rest i)
        (range_with_len 0 T.components) rows rest lists h in (
          record {
            lists = pairs_length (λ k xs. Filled js xs) (range_with_len 0 T.components) lists p ∙ length-range_with_len 0 T.components;
            each = pairs_all (λ k xs. Filled js xs) (λ xs. length xs ≡ length js) (λ k xs f. f.0) (range_with_len 0 T.components) lists p;
          },
          pairs_all (λ k xs. Filled js xs) (All P) (λ k xs f. f.1) (range_with_len 0 T.components) lists p,
        )

    abbrev Stepped : ℕ → ℕ → StepParts → Type 0
    Stepped n j s = (s.hypothesis ≡ j) × Full n s.flows

    step_lines_said : (earlier : List StepParts) (j : ℕ) (s : StepParts) (rows rest : List (Seen Words)) → Is (step T earlier j) rows s rest
        → Stepped (length (named earlier)) j s
    step_lines_said earlier j s rows rest h =
        let e : s ≡ record { hypothesis = j; flows = h.0 } = h.3.0 in
        (ap (λ s. s.hypothesis) e, subst (λ s. Full (length (named earlier)) s.flows) (sym e) (numbers_said Flow (named earlier) h.0 rows h.1 h.2))

    abbrev Known : ℕ → Type 0
    Known j = (name : List ℕ) × (T.position name ≡ Some j)

    -- steps after this number of others
    abbrev AllStepped : ℕ → List StepParts → Type 0
    AllStepped n [] = Unit {0}
    AllStepped n (s ∷ ss) = Known s.hypothesis × Full n s.flows × AllStepped (suc n) ss

    steps_said : (earlier ss : List StepParts) (rows rest : List (Seen Words)) (n : ℕ) → length (named earlier) ≡ n
        → AreMany (step_line T) (λ ys j. Is (step T ys j)) earlier rows ss rest → AllStepped n ss
    steps_said earlier [] rows rest n e h = tt
    steps_said earlier (s ∷ ss) rows rest n e h =
        let one = step_lines_said earlier h.0 s h.1 h.2 h.4 in (
          subst Known (sym one.0) (step_said h.3.row.line h.0 h.3.says),
          subst (λ n. Full n s.flows) e one.1,
          steps_said (earlier ++ s ∷ []) ss h.2 rest (suc n) (longer earlier s n e) h.5,
        )
      where
        longer : (earlier : List StepParts) (s : StepParts) (n : ℕ) → length (named earlier) ≡ n → length (named (earlier ++ s ∷ [])) ≡ suc n
        longer earlier s n e = length-map (earlier ++ s ∷ []) (λ s. s.hypothesis) ∙ one_longer earlier s ∙ ap suc (sym (length-map earlier (λ s. s.hypothesis)) ∙ e)

    abbrev Kept : ℕ → ℕ → KeepParts → Type 0
    Kept n k x = (x.hypothesis ≡ k) × Full n x.exits

    keep_lines_said : (js : List ℕ) (k : ℕ) (x : KeepParts) (rows rest : List (Seen Words)) → Is (keep T js k) rows x rest → Kept (length js) k x
    keep_lines_said js k x rows rest h =
        let i = h.3 in
        let e : x ≡ record { hypothesis = h.0; exits = i.0 } = i.3.0 in (
          ap (λ x. x.hypothesis) e ∙ keep_said k h.2.row.line h.0 h.2.says,
          subst (λ x. Full (length js) x.exits) (sym e) (numbers_said Exit js i.0 h.1 i.1 i.2),
        )

    -- all that a document says
    pub record DocumentSaid (said : Said) : Type 0 where
      pub version : (said.version ≡ 1) ⊎ (said.version ≡ 2)
      pub steps : AllStepped 0 said.steps
      pub keeps : Pairs (Kept (length (named said.steps))) (kept T said.version (named said.steps)) said.keeps

    pub document_said : (said : Said) (rows : List (Seen Words)) → IsDocument (document T) rows said → DocumentSaid said
    document_said said rows h =
        let v = h.0 in
        let m = h.3 in
        let steps = m.0 in
        let l = m.3 in
        let keeps = l.0 in
        let f = l.3 in
        let e : said ≡ record { version = v; steps = steps; keeps = keeps } = f.3.0 in
        subst DocumentSaid (sym e) (record {
          version = version_said h.2.row.line v h.2.says;
          steps = subst (AllStepped 0) (sym m.2.1) (steps_said [] m.2.0 h.1 m.1 0 refl m.2.2);
          keeps = each_said (keep T (named steps)) (Kept (length (named steps))) (λ k x rows rest i. keep_lines_said (named steps) k x rows rest i)
              (kept T v (named steps)) m.1 l.1 keeps l.2;
        })

-- ---- it fits the case

range_below : (m : ℕ) → All (λ j. j < m) (range_with_len 0 m)
range_below m = All-from_get_or (λ j. j < m) (range_with_len 0 m) 0
    (λ i p. let q : i < m = subst (λ n. i < n) (length-range_with_len 0 m) p in subst (λ j. j < m) (sym (get_or-range_with_len 0 m i 0 q)) (omega arith))

others_below : (m : ℕ) (js : List ℕ) → All (λ j. j < m) (others m js)
unfolding others
others_below m js = All-filter (λ k. not (set_of js k)) (λ j. j < m) (range_with_len 0 m) (range_below m)

module _ (n : Numbers) (c : Content) (P : Parts → Type 0) (of_text : (text : List ℕ) (x : Parts) → (case_frame n c).number text ≡ Some x → P x) where
  abbrev T : Frame
  T = case_frame n c

  kept_below : (v : ℕ) (js : List ℕ) → All (λ j. j < length c.names) (kept T v js)
  kept_below v js = by (v == 2)
    where
      by : (b : Bool) → All (λ j. j < length c.names) (if b then others (length c.names) js else [])
      by true = others_below (length c.names) js
      by false = All-nil (λ j. j < length c.names)

  below : (j : ℕ) → (name : List ℕ) × (T.position name ≡ Some j) → j < length c.names
  below j k = (position-Some (bytes_eq k.0) c.names j [] k.1).0

  steps_below : (i : ℕ) (ss : List StepParts) → AllStepped T P of_text i ss → All (λ s. s.hypothesis < length c.names) ss
  steps_below i [] h = All-nil (λ s. s.hypothesis < length c.names)
  steps_below i (s ∷ ss) h = All-cons (λ s. s.hypothesis < length c.names) s ss (below s.hypothesis h.0) (steps_below (suc i) ss h.2)

  flows_fit : (i : ℕ) (ss : List StepParts) → AllStepped T P of_text i ss → FlowsFit (length c.components) i ss
  flows_fit i [] h = tt
  flows_fit i (s ∷ ss) h = (h.1.0, flows_fit (suc i) ss h.2)

  pub flows_all : (i : ℕ) (ss : List StepParts) → AllStepped T P of_text i ss → All (λ s. All (All P) s.flows) ss
  flows_all i [] h = All-nil (λ s. All (All P) s.flows)
  flows_all i (s ∷ ss) h = All-cons (λ s. All (All P) s.flows) s ss h.1.1 (flows_all (suc i) ss h.2)

  exits_fit : (i : ℕ) (ks : List ℕ) (xs : List KeepParts) → Pairs (Kept T P of_text i) ks xs → ExitsFit (length c.components) i xs
  exits_fit i [] [] h = tt
  exits_fit i [] (x ∷ xs) h = absurd h
  exits_fit i (k ∷ ks) [] h = absurd h
  exits_fit i (k ∷ ks) (x ∷ xs) h = (h.0.1.0, exits_fit i ks xs h.1)

  keeps_below : (i : ℕ) (ks : List ℕ) (xs : List KeepParts) → All (λ j. j < length c.names) ks → Pairs (Kept T P of_text i) ks xs
      → All (λ x. x.hypothesis < length c.names) xs
  keeps_below i [] [] b h = All-nil (λ x. x.hypothesis < length c.names)
  keeps_below i [] (x ∷ xs) b h = absurd h
  keeps_below i (k ∷ ks) [] b h = absurd h
  keeps_below i (k ∷ ks) (x ∷ xs) b h = All-cons (λ x. x.hypothesis < length c.names) x xs
      (subst (λ j. j < length c.names) (sym h.0.0) (All-head (λ j. j < length c.names) k ks b)) (keeps_below i ks xs (All-tail (λ j. j < length c.names) k ks b) h.1)

  none_kept : (keeps : List KeepParts) → map (λ x. x.hypothesis) keeps ≡ [] → keeps ≡ []
  none_kept [] e = refl
  none_kept (x ∷ keeps) e = absurd (cc e)

  pub said_fits : (said : Said) → DocumentSaid T P of_text said → FitsCase c said.version said.steps said.keeps
  said_fits said d =
      let js = named said.steps in
      let all : map (λ x. x.hypothesis) said.keeps ≡ kept T said.version js = pairs_map (Kept T P of_text (length js)) (λ x. x.hypothesis) (λ k x r. r.0)
      (kept T said.version js) said.keeps d.keeps in
      record {
        version = d.version;
        size = record {
          steps_below = steps_below 0 said.steps d.steps;
          flows = flows_fit 0 said.steps d.steps;
          keeps_below = keeps_below (length js) (kept T said.version js) said.keeps (kept_below said.version js) d.keeps;
          exits = subst (λ i. ExitsFit (length c.components) i said.keeps) (length-map said.steps (λ s. s.hypothesis))
              (exits_fit (length js) (kept T said.version js) said.keeps d.keeps);
        };
        none = λ e. none_kept said.keeps (all ∙ ap (λ v. kept T v js) e);
        all = λ e. all ∙ ap (λ v. kept T v js) e;
      }

  pub exits_all : (i : ℕ) (ks : List ℕ) (xs : List KeepParts) → Pairs (Kept T P of_text i) ks xs → All (λ x. All (All P) x.exits) xs
  exits_all i ks xs h = pairs_all (Kept T P of_text i) (λ x. All (All P) x.exits) (λ k x r. r.1.1) ks xs h
