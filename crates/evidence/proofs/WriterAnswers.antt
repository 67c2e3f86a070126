-- The text of evidence is written piece by piece.
use Rattle.std.proofs.Common.{◌≡◌, refl, sym, ap, ap₂, subst, ◌∙◌, ℕ, zero, suc, ◌+◌, ◌<◌, ◌≤◌, List, [], ◌∷◌, ◌++◌}
use Rattle.std.proofs.Common.{map, length, get_or, take, drop, add-one, append_assoc, append-nil, arith}
use Rattle.std.specs.List.{All}
use Rattle.std.proofs.Math.ListN.{drop_of_length-le}
use Rattle.std.proofs.lemmas.List.{take_more, get_or-map, length-map}
use Rattle.std.proofs.lemmas.List.Elements.{All-get_or, All-map, All-take}
use Rattle.text_lines.specs.Spelling.{text_of}
use Rattle.field_core.specs.Kind.{Parts}
use Rattle.fraction.specs.Plain.{fraction_parts}
use Rattle.eps_quotient.specs.View.{quotient_parts}
use Rattle.case_model.specs.Content.{Content}
use Rattle.case_numbers.specs.Numbers.{Numbers, numbers_of, in_fractions, in_quotients}
use Rattle.evidence_check.specs.declared.quantity.Quantity.{Quantity}
use Rattle.evidence_check.specs.declared.quantity.Quantity.TheVariants.{Flow, Exit}
use Rattle.evidence_check.specs.declared.evidence.Evidence.{Evidence}
use Rattle.evidence_check.specs.declared.evidence.Evidence.TheVariants.{Plain, Eps}
use Rattle.evidence_check.specs.declared.evidence.Steps.{Steps}
use Rattle.evidence_check.specs.declared.evidence.ProofStep.{ProofStep}
use Rattle.evidence_check.specs.declared.evidence.KeepProof.{KeepProof}
use Rattle.evidence_check.specs.EvidenceParts.{StepParts, KeepParts, AreFull, FlowsFit, ExitsFit}
use Rattle.evidence_check.specs.EvidenceView.{hypotheses_of, step_parts, keep_parts, IsEvidenceFor}
use Rattle.evidence_check.specs.DocumentLines.{Words, Frame, version_words, step_words, number_words, keep_words, end_words}
use Rattle.evidence_check.specs.EvidenceLines.{number_lines, list_lines, step_lines, keep_lines, evidence_lines}
use Rattle.evidence_check.specs.NumberReading.{case_frame}
use Rattle.evidence_check.specs.DocumentStatements.{evidence_text}
use Rattle.edge_text.proofs.WrittenLines.{drop_item, moved, ended}
use Rattle.evidence_check.proofs.CheckAnswers.{of_case, form_of, fractions_of, quotients_of}
use Rattle.evidence_check.proofs.Hypotheses.{same_hypotheses}
use Rattle.evidence.specs.EvidenceText.{line_text}

-- ---- items of lists

-- the item at a place, through a function
pub mapped_item : {A B : Type 0} (f : A → B) (xs : List A) (n : ℕ) (x : A) → n < length xs → x ≡ get_or xs n x → f x ≡ get_or (map f xs) n (f x)
mapped_item f xs n x h e = ap f e ∙ sym (get_or-map f xs n x (f x) h)

pub mapped_within : {A B : Type 0} (f : A → B) (xs : List A) (n : ℕ) → n < length xs → n < length (map f xs)
mapped_within f xs n h = subst (λ k. n < k) (sym (length-map xs f)) h

module _ (T : Frame) where
  text_none : text_of [] ≡ []
  unfolding text_of
  text_none = refl

  text_cons : (f : Words) (fs : List Words) → text_of (f ∷ fs) ≡ line_text f ++ text_of fs
  unfolding text_of
  text_cons f fs = refl

  text_append : (fs gs : List Words) → text_of (fs ++ gs) ≡ text_of fs ++ text_of gs
  text_append [] gs = sym (ap (λ t. t ++ text_of gs) text_none)
  text_append (f ∷ fs) gs =
      text_cons f (fs ++ gs) ∙ ap (λ t. line_text f ++ t) (text_append fs gs)
      ∙ sym (append_assoc (line_text f) (text_of fs) (text_of gs))
      ∙ ap (λ t. t ++ text_of gs) (sym (text_cons f fs))

  -- ---- one more

  -- what is put of a list of forms, and what is left
  forms_end : (fs : List Words) (start text : List ℕ) → fs ≡ [] → text ++ text_of fs ≡ start → text ≡ start
  forms_end fs start text e h = ended text (text_of fs) start (ap (text_of) e ∙ text_none) h

  pub numbers_next : (q : Quantity) (k : ℕ) (js : List ℕ) (xs : List Parts) (e h : ℕ) (x : Parts) (start text new : List ℕ) → e < length js
      → e < length xs → h ≡ get_or js e h → x ≡ get_or xs e x
      → text ++ text_of (number_lines T q k (drop e js) (drop e xs)) ≡ start → new ≡ text ++ line_text (number_words T q k h x)
      → new ++ text_of (number_lines T q k (drop (e + 1) js) (drop (e + 1) xs)) ≡ start
  numbers_next q k js xs e h x start text new below within i d s put =
      let rest = number_lines T q k (drop (e + 1) js) (drop (e + 1) xs) in
      moved start text new (line_text (number_words T q k h x)) (text_of rest) (text_of (number_lines T q k (drop e js) (drop e xs))) s
      (ap₂ (λ js xs. text_of (number_lines T q k js xs)) (drop_item js e h below i) (drop_item xs e x within d) ∙ text_cons (number_words T q k h x) rest)
      put

  pub numbers_end : (q : Quantity) (k : ℕ) (js : List ℕ) (xs : List Parts) (e : ℕ) (start text : List ℕ) → length js ≤ e
      → text ++ text_of (number_lines T q k (drop e js) (drop e xs)) ≡ start → text ≡ start
  numbers_end q k js xs e start text h s = forms_end (number_lines T q k (drop e js) (drop e xs)) start text
      (ap (λ js. number_lines T q k js (drop e xs)) (drop_of_length-le js h)) s

  pub lists_next : (q : Quantity) (js : List ℕ) (lists : List (List Parts)) (k : ℕ) (xs : List Parts) (start text new : List ℕ) → k < length lists
      → xs ≡ get_or lists k xs
      → text ++ text_of (list_lines T q k js (drop k lists)) ≡ start → new ≡ text ++ text_of (number_lines T q k js xs)
      → new ++ text_of (list_lines T q (k + 1) js (drop (k + 1) lists)) ≡ start
  lists_next q js lists k xs start text new h i s put =
      let rest = list_lines T q (k + 1) js (drop (k + 1) lists) in
      moved start text new (text_of (number_lines T q k js xs)) (text_of rest) (text_of (list_lines T q k js (drop k lists))) s
      (ap (λ ls. text_of (list_lines T q k js ls)) (drop_item lists k xs h i)
      ∙ ap (λ k'. text_of (number_lines T q k js xs ++ list_lines T q k' js (drop (k + 1) lists))) (sym (add-one k))
      ∙ text_append (number_lines T q k js xs) rest) put

  pub lists_end : (q : Quantity) (js : List ℕ) (lists : List (List Parts)) (k : ℕ) (start text : List ℕ) → length lists ≤ k
      → text ++ text_of (list_lines T q k js (drop k lists)) ≡ start → text ≡ start
  lists_end q js lists k start text h s = forms_end (list_lines T q k js (drop k lists)) start text (ap (list_lines T q k js) (drop_of_length-le lists h)) s

  -- a line and then others
  pub line_and : (f : Words) (fs : List Words) (start text new : List ℕ) → text ≡ start ++ line_text f → new ≡ text ++ text_of fs
      → new ≡ start ++ text_of (f ∷ fs)
  line_and f fs start text new e d = d ∙ ap (λ t. t ++ text_of fs) e ∙ append_assoc start (line_text f) (text_of fs)
      ∙ ap (λ t. start ++ t) (sym (text_cons f fs))

  pub steps_next : (ss : List StepParts) (js : List ℕ) (i : ℕ) (s : StepParts) (start text new : List ℕ) → js ≡ map (λ s. s.hypothesis) ss
      → i < length ss → s ≡ get_or ss i s
      → text ++ text_of (step_lines T (take i js) (drop i ss)) ≡ start
      → new ≡ text ++ text_of (step_words T s.hypothesis ∷ list_lines T Flow 0 (take i js) s.flows)
      → new ++ text_of (step_lines T (take (i + 1) js) (drop (i + 1) ss)) ≡ start
  steps_next ss js i s start text new e h d t put =
      let here = step_words T s.hypothesis ∷ list_lines T Flow 0 (take i js) s.flows in
      let item : s.hypothesis ≡ get_or js i s.hypothesis = mapped_item (λ s. s.hypothesis) ss i s h d ∙ ap (λ js. get_or js i s.hypothesis) (sym e) in
      let within : i < length js = subst (λ js. i < length js) (sym e) (mapped_within (λ s. s.hypothesis) ss i h) in
      let taken : take (i + 1) js ≡ take i js ++ s.hypothesis ∷ [] = take_more js i s.hypothesis within ∙ ap (λ j. take i js ++ j ∷ []) (sym item) in
      moved start text new (text_of here) (text_of (step_lines T (take (i + 1) js) (drop (i + 1) ss)))
      (text_of (step_lines T (take i js) (drop i ss))) t
      (ap (λ ss. text_of (step_lines T (take i js) ss)) (drop_item ss i s h d)
      ∙ ap (λ is. text_of (here ++ step_lines T is (drop (i + 1) ss))) (sym taken)
      ∙ text_append here (step_lines T (take (i + 1) js) (drop (i + 1) ss))) put

  pub steps_end : (ss : List StepParts) (js : List ℕ) (i : ℕ) (start text : List ℕ) → length ss ≤ i
      → text ++ text_of (step_lines T (take i js) (drop i ss)) ≡ start → text ≡ start
  steps_end ss js i start text h s = forms_end (step_lines T (take i js) (drop i ss)) start text (ap (step_lines T (take i js)) (drop_of_length-le ss h)) s

  pub keeps_next : (js : List ℕ) (xs : List KeepParts) (i : ℕ) (x : KeepParts) (start text new : List ℕ) → i < length xs → x ≡ get_or xs i x
      → text ++ text_of (keep_lines T js (drop i xs)) ≡ start
      → new ≡ text ++ text_of (keep_words T x.hypothesis ∷ list_lines T Exit 0 js x.exits)
      → new ++ text_of (keep_lines T js (drop (i + 1) xs)) ≡ start
  keeps_next js xs i x start text new h d t put =
      let here = keep_words T x.hypothesis ∷ list_lines T Exit 0 js x.exits in
      moved start text new (text_of here) (text_of (keep_lines T js (drop (i + 1) xs))) (text_of (keep_lines T js (drop i xs))) t
      (ap (λ xs. text_of (keep_lines T js xs)) (drop_item xs i x h d) ∙ text_append here (keep_lines T js (drop (i + 1) xs))) put

  pub keeps_end : (js : List ℕ) (xs : List KeepParts) (i : ℕ) (start text : List ℕ) → length xs ≤ i
      → text ++ text_of (keep_lines T js (drop i xs)) ≡ start → text ≡ start
  keeps_end js xs i start text h s = forms_end (keep_lines T js (drop i xs)) start text (ap (keep_lines T js) (drop_of_length-le xs h)) s

  -- the version, the steps, the keeps and the end
  pub whole_text : (v : ℕ) (ss : List StepParts) (xs : List KeepParts) (t0 t1 t2 t3 t4 : List ℕ) → t0 ≡ []
      → t1 ≡ t0 ++ line_text (version_words v) → t2 ≡ t1 ++ text_of (step_lines T [] ss)
      → t3 ≡ t2 ++ text_of (keep_lines T (map (λ s. s.hypothesis) ss) xs) → t4 ≡ t3 ++ line_text end_words
      → t4 ≡ text_of (evidence_lines T v ss xs)
  whole_text v ss xs t0 t1 t2 t3 t4 e0 e1 e2 e3 e4 =
      let a = line_text (version_words v) in
      let s = text_of (step_lines T [] ss) in
      let k = text_of (keep_lines T (map (λ s. s.hypothesis) ss) xs) in
      let z = line_text end_words in
      let last : text_of (end_words ∷ []) ≡ z = text_cons end_words [] ∙ ap (λ t. z ++ t) text_none ∙ append-nil z in
      let first : t1 ≡ a = e1 ∙ ap (λ t. t ++ a) e0 in
      let second : t2 ≡ a ++ s = e2 ∙ ap (λ t. t ++ s) first in
      let third : t3 ≡ (a ++ s) ++ k = e3 ∙ ap (λ t. t ++ k) second in
      let fourth : t4 ≡ (a ++ s) ++ (k ++ z) = e4 ∙ ap (λ t. t ++ z) third ∙ append_assoc (a ++ s) k z in
      let rest : text_of ((step_lines T [] ss ++ keep_lines T (map (λ s. s.hypothesis) ss) xs) ++ end_words ∷ []) ≡ (s ++ k) ++ z =
      text_append (step_lines T [] ss ++ keep_lines T (map (λ s. s.hypothesis) ss) xs) (end_words ∷ [])
      ∙ ap₂ (λ t u. t ++ u) (text_append (step_lines T [] ss) (keep_lines T (map (λ s. s.hypothesis) ss) xs)) last in
      fourth ∙ append_assoc a s (k ++ z) ∙ ap (λ t. a ++ t) (sym (append_assoc s k z) ∙ sym rest)
      ∙ sym (text_cons (version_words v) ((step_lines T [] ss ++ keep_lines T (map (λ s. s.hypothesis) ss) xs) ++ end_words ∷ []))

-- ---- steps and keeps that fit

-- the numbers of the component at a place
pub count_at : {F : Type 0} (parts : F → Parts) (components n : ℕ) (lists : List (List F)) (k : ℕ) (xs : List F)
    → AreFull components n (map (map parts) lists) → k < length lists → xs ≡ get_or lists k xs → length xs ≡ n
count_at parts components n lists k xs f h e =
    sym (length-map xs parts) ∙ subst (λ ys. length ys ≡ n) (sym (mapped_item (map parts) lists k xs h e))
    (All-get_or (λ ys. length ys ≡ n) (map (map parts) lists) k (map parts xs) (mapped_within (map parts) lists k h) f.each)

taken : {A B : Type 0} (f : A → B) (n : ℕ) (xs : List A) → map f (take n xs) ≡ take n (map f xs)
taken f zero xs = refl
taken f (suc n) [] = refl
taken f (suc n) (x ∷ xs) = ap (λ ys. f x ∷ ys) (taken f n xs)

-- the steps before a place
pub hypotheses_before : {F : Type 0} (steps : List (ProofStep F)) (i : ℕ) → hypotheses_of (take i steps) ≡ take i (hypotheses_of steps)
hypotheses_before steps i = taken (λ s. s.hypothesis) i steps

pub known_before : {F : Type 0} (m : ℕ) (steps : List (ProofStep F)) (i : ℕ) → All (λ j. j < m) (hypotheses_of steps)
    → All (λ j. j < m) (hypotheses_of (take i steps))
known_before m steps i h = subst (All (λ j. j < m)) (sym (hypotheses_before steps i)) (All-take (λ j. j < m) i (hypotheses_of steps) h)

-- the flows of the step at a place
pub flows_at : (components m k : ℕ) (ss : List StepParts) (i : ℕ) (s : StepParts) → m + i ≡ k → FlowsFit components m ss → i < length ss
    → s ≡ get_or ss i s → AreFull components k s.flows
flows_at components m k [] i s n f h e = absurd (omega arith)
flows_at components m k (t ∷ ss) zero s n f h e =
    subst (λ k. AreFull components k s.flows) (first m k n) (subst (λ t. AreFull components m t.flows) (sym e) f.0)
  where
    first : (m k : ℕ) → m + 0 ≡ k → m ≡ k
    first m k n = omega (arith, n)
flows_at components m k (t ∷ ss) (suc i) s n f h e = flows_at components (suc m) k ss i s (next m i k n) f.1 (omega arith) e
  where
    next : (m i k : ℕ) → m + suc i ≡ k → suc m + i ≡ k
    next m i k n = omega (arith, n)

pub exits_at : (components m : ℕ) (xs : List KeepParts) (i : ℕ) (x : KeepParts) → ExitsFit components m xs → i < length xs → x ≡ get_or xs i x
    → AreFull components m x.exits
exits_at components m [] i x f h e = absurd (omega arith)
exits_at components m (y ∷ xs) zero x f h e = subst (λ y. AreFull components m y.exits) (sym e) f.0
exits_at components m (y ∷ xs) (suc i) x f h e = exits_at components m xs i x f.1 (omega arith) e

-- the hypothesis of the keep at a place
pub kept_below : {F : Type 0} (parts : F → Parts) (m : ℕ) (keeps : List (KeepProof F)) (i : ℕ) (x : KeepProof F)
    → All (λ x. x.hypothesis < m) (map (keep_parts parts) keeps) → i < length keeps → x ≡ get_or keeps i x → x.hypothesis < m
kept_below parts m keeps i x all h e =
    subst (λ x. x.hypothesis < m) (sym (mapped_item (keep_parts parts) keeps i x h e))
    (All-get_or (λ x. x.hypothesis < m) (map (keep_parts parts) keeps) i (keep_parts parts x) (mapped_within (keep_parts parts) keeps i h) all)

pub all_known : {F : Type 0} (parts : F → Parts) (m : ℕ) (steps : List (ProofStep F)) → All (λ s. s.hypothesis < m) (map (step_parts parts) steps)
    → All (λ j. j < m) (hypotheses_of steps)
all_known parts m steps h = subst (All (λ j. j < m)) (sym (same_hypotheses parts steps))
    (All-map (λ j. j < m) (λ s. s.hypothesis) (map (step_parts parts) steps) h)

-- ---- evidence in fractions, and in quotients

module _ (c : Content) (e : Evidence) where
  case_text : (n : Numbers) (v : ℕ) (ss : List StepParts) (xs : List KeepParts) → n ≡ numbers_of c
      → text_of (evidence_lines (case_frame n c) v ss xs) ≡ text_of (evidence_lines (case_frame (numbers_of c) c) v ss xs)
  case_text n v ss xs h = ap (λ n. text_of (evidence_lines (case_frame n c) v ss xs)) h

  pub plain_text : (v : Steps _) → e ≡ Plain v → IsEvidenceFor c e
      → text_of
      (evidence_lines (case_frame in_fractions c) v.version (map (step_parts fraction_parts) v.steps) (map (keep_parts fraction_parts) v.keeps)) ≡ evidence_text c e
  plain_text v h I = case_text in_fractions v.version (map (step_parts fraction_parts) v.steps) (map (keep_parts fraction_parts) v.keeps)
      (sym (fractions_of c (form_of c e (Plain v) h (of_case c e I)).form)) ∙ ap (evidence_text c) (sym h)

  pub eps_text : (v : Steps _) → e ≡ Eps v → IsEvidenceFor c e
      → text_of
      (evidence_lines (case_frame in_quotients c) v.version (map (step_parts quotient_parts) v.steps) (map (keep_parts quotient_parts) v.keeps)) ≡ evidence_text c e
  eps_text v h I = case_text in_quotients v.version (map (step_parts quotient_parts) v.steps) (map (keep_parts quotient_parts) v.keeps)
      (sym (quotients_of c (form_of c e (Eps v) h (of_case c e I)).form)) ∙ ap (evidence_text c) (sym h)
