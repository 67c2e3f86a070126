-- Lines are read by forms, one after the other.
use Rattle.std.proofs.Common.{◌≡◌, ◌⊎◌, inl, inr, refl, sym, ap, subst, ◌∙◌, ℕ, ◌<◌, ◌≤◌, List, [], ◌∷◌, ◌++◌}
use Rattle.std.proofs.Common.{◌+◌, drop, length, get_or, zero-add, Some, None, Result, Ok, Err, Bool, true, false, ◌-◌, ◌≢◌, if◌then◌else◌, arith}
use Rattle.std.specs.Prelude.{◌==◌}
use Rattle.std.specs.Result.{IsErrAnd}
use Rattle.std.specs.List.{All, slice_get, range_with_len}
use Rattle.std.proofs.lemmas.Bool.Decides.{Decides-eqb}
use Rattle.std.proofs.lemmas.List.{length-map, get_or-map, drop_more}
use Rattle.std.proofs.lemmas.List.FromFn.{length-range_with_len, get_or-range_with_len}
use Rattle.std.proofs.lemmas.List.Elements.{All-get_or}
use Rattle.std.proofs.lemmas.Option.{get_or_from_slice_get}
use Rattle.field_core.specs.Answers.{IsUnless, told_as}
use Rattle.field_core.specs.Kind.{Parts, ok_map}
use Rattle.field_core.proofs.Results.{same_value, same_fault}
use Rattle.text_lines.specs.Faults.{FaultAt}
use Rattle.text_lines.specs.Forms.{Leaf, Say, Line, Then, Many, Seen, words_seen, read}
use Rattle.text_lines.specs.Kinds.{expected, if_any, maybe, each_after}
use Rattle.text_lines.specs.Left.{Left}
use Rattle.text_lines.specs.Lines.{Row}
use Rattle.text_lines.specs.Words.{words_of}
use Rattle.text_lines.proofs.FormReads.{go_on, read_say}
use Rattle.text_lines.proofs.FormLines.{each_taken, each_refused}
use Rattle.text_lines.proofs.Steps.{line_taken, line_refused, then_on, then_failed, maybe_taken, many_on, many_done, many_failed, read_shorter}
use Rattle.case_model.specs.Content.{Content}
use Rattle.case_numbers.specs.Numbers.{Numbers}
use Rattle.evidence_check.specs.declared.evidence.ProofStep.{ProofStep}
use Rattle.evidence_check.specs.declared.fault.ProofKind.{ProofKind}
use Rattle.evidence_check.specs.declared.fault.ProofKind.TheVariants.{Ended}
use Rattle.evidence_check.specs.declared.fault.ProofText.{ProofText}
use Rattle.evidence_check.specs.declared.fault.ProofText.TheVariants as faults
use Rattle.evidence_check.specs.declared.quantity.Quantity.TheVariants.{Flow, Exit}
use Rattle.evidence_check.specs.EvidenceParts.{StepParts}
use Rattle.evidence_check.specs.DocumentLines.{Words, Frame, kinds, keep_line}
use Rattle.evidence_check.specs.Document.{Lines, numbers, named, step, keep, kept}
use Rattle.evidence_check.specs.Evidence.{others}
use Rattle.evidence_check.specs.EvidenceView.{hypotheses_of}
use Rattle.evidence_check.specs.NumberReading.{case_frame}
use Rattle.evidence_check.specs.ReadView.{proof_fault}
use Rattle.evidence_check.proofs.Others.{others_from}
use Rattle.evidence_check.proofs.Hypotheses.{as_many}

-- ---- answers of the reader, and of forms

-- the answer is the first fault, or the reader is out of memory
abbrev pub Fails : {B : Type 0} → Result B (FaultAt ProofKind) → ProofText → Type 0
Fails {B} r fault = (fault ≡ faults.NoMemory) ⊎ (◌≡◌ {A = Result B ProofText} (told_as proof_fault r) (Err fault))

pub told_value : {B : Type 0} (r : Result B (FaultAt ProofKind)) (b : B) → told_as proof_fault r ≡ Ok b → r ≡ Ok b
told_value (Ok c) b e = ap Ok (same_value c b e)
told_value (Err f) b e = absurd (cc e)

told_fault : {B : Type 0} (r : Result B (FaultAt ProofKind)) (fault : ProofText) → told_as proof_fault r ≡ Err fault
    → (f : FaultAt ProofKind) × (r ≡ Err f) × (proof_fault f ≡ fault)
told_fault (Ok c) fault e = absurd (cc e)
told_fault (Err f) fault e = (f, refl, same_fault (proof_fault f) fault e)

-- a fault of the one is a fault of the other
pub fails_too : {B D : Type 0} (r : Result B (FaultAt ProofKind)) (s : Result D (FaultAt ProofKind)) (fault : ProofText)
    → ((f : FaultAt ProofKind) → r ≡ Err f → s ≡ Err f) → Fails r fault → Fails s fault
fails_too r s fault h (inl e) = inl e
fails_too r s fault h (inr e) = let t = told_fault r fault e in inr (ap (told_as proof_fault) (h t.0 t.1) ∙ ap Err t.2)

-- an error that is handed on
pub handed : {X B : Type 0} (view : X → B) (result : Result X ProofText) (fault : ProofText) (answer : Result B (FaultAt ProofKind))
    → IsErrAnd result (λ y. y ≡ fault) → Fails answer fault → IsUnless faults.NoMemory (ok_map view result) (told_as proof_fault answer)
handed view (Ok x) fault answer h k = absurd h
handed view (Err y) fault answer h (inl e) = inl (h ∙ e)
handed view (Err y) fault answer h (inr e) = inr (e ∙ ap Err (sym h))

-- ---- what is left

pub seen_length : (rows : List Row) → length (words_seen rows) ≡ length rows
seen_length rows = length-map rows (λ row. record { number = row.number; line = words_of row.text })

-- ---- one form after the other

-- what a form reads of what is left
abbrev pub reads : {B : Type 0} → Lines B → Left → Result (B × List (Seen Words)) (FaultAt ProofKind)
reads form left = read kinds form (words_seen left.rows) left.end

-- it is this, and then these lines are left
abbrev pub Gives : {B : Type 0} → Lines B → Left → B → Left → Type 0
Gives {B} form left b new = ◌≡◌ {A = Result (B × List (Seen Words)) ProofText} (told_as proof_fault (reads form left)) (Ok (b, words_seen new.rows))

given : {B : Type 0} (form : Lines B) (left new : Left) (b : B) → Gives form left b new → reads form left ≡ Ok (b, words_seen new.rows)
given {B} form left new b e = told_value {B = B × List (Seen Words)} (reads form left) (b, words_seen new.rows) e

pub gives_left : {B : Type 0} (form : Lines B) (left new : Left) (b : B) → Gives form left b new → length new.rows ≤ length left.rows
gives_left form left new b e =
    subst (λ n. n ≤ length left.rows) (seen_length new.rows) (subst (λ n. length (words_seen new.rows) ≤ n) (seen_length left.rows)
    (read_shorter kinds form (words_seen left.rows) left.end b (words_seen new.rows) (given form left new b e)))

-- a line that must be there
module _ {A : Type 0} (l : Leaf Words ProofKind A) (left : Left) where
  pub line_given : (row : Row) (new : Left) (a : A) → left.rows ≡ row ∷ new.rows → expected kinds (l (words_of row.text)) ≡ Ok a → Gives (Line l) left a new
  line_given row new a r e = ap (told_as proof_fault) (ap (λ rs. read kinds (Line l) (words_seen rs) left.end) r
      ∙ line_taken kinds l (record { number = row.number; line = words_of row.text }) (words_seen new.rows) left.end a e)

  pub line_fails : (row : Row) (rows : List Row) (kind : ProofKind) → left.rows ≡ row ∷ rows → expected kinds (l (words_of row.text)) ≡ Err kind
      → Fails (reads (Line l) left) (faults.Line row.number kind)
  line_fails row rows kind r e = inr (ap (told_as proof_fault) (ap (λ rs. read kinds (Line l) (words_seen rs) left.end) r
      ∙ line_refused kinds l (record { number = row.number; line = words_of row.text }) (words_seen rows) left.end kind e))

  pub line_missing : (fault : ProofText) → left.rows ≡ [] → fault ≡ faults.Line left.end Ended → Fails (reads (Line l) left) fault
  line_missing fault r e = inr (ap (told_as proof_fault) (ap (λ rs. read kinds (Line l) (words_seen rs) left.end) r) ∙ ap Err (sym e))

-- a form, and then another
module _ {A B : Type 0} (f : Lines A) (g : A → Lines B) (left : Left) where
  pub then_fails : (fault : ProofText) → Fails (reads f left) fault → Fails (reads (Then f g) left) fault
  then_fails fault h = fails_too (reads f left) (reads (Then f g) left) fault (λ e k. then_failed kinds f g (words_seen left.rows) left.end e k) h

  pub then_reads : (a : A) (new : Left) → Gives f left a new → new.end ≡ left.end → reads (Then f g) left ≡ reads (g a) new
  then_reads a new h e = then_on kinds f g (words_seen left.rows) (words_seen new.rows) left.end a (given f left new a h)
      ∙ ap (λ n. read kinds (g a) (words_seen new.rows) n) (sym e)

-- the next of some
module _ {X A : Type 0} (f : X → Lines A) (before : List A) (x : X) (xs : List X) (left : Left) (whole : Result (List A × List (Seen Words)) (FaultAt ProofKind))
    (so_far : whole ≡ reads (each_after f before (x ∷ xs)) left) where
  pub next_fails : (fault : ProofText) → Fails (reads (f x) left) fault → Fails whole fault
  next_fails fault h = fails_too (reads (f x) left) whole fault (λ e k. so_far ∙ each_refused kinds f before x xs (words_seen left.rows) left.end e k) h

  pub next_reads : (a : A) (new : Left) → Gives (f x) left a new → new.end ≡ left.end → whole ≡ reads (each_after f (before ++ a ∷ []) xs) new
  next_reads a new h e = so_far ∙ each_taken kinds f before x xs (words_seen left.rows) (words_seen new.rows) left.end a (given (f x) left new a h)
      ∙ ap (λ n. read kinds (each_after f (before ++ a ∷ []) xs) (words_seen new.rows) n) (sym e)

-- no more of them
pub none_left : {X A : Type 0} (f : X → Lines A) (before : List A) (xs : List X) (left : Left) (whole : Result (List A × List (Seen Words)) (FaultAt ProofKind))
    → whole ≡ reads (each_after f before xs) left → xs ≡ [] → ◌≡◌ {A = Result (List A × List (Seen Words)) ProofText} (told_as proof_fault whole) (Ok (before, words_seen left.rows))
none_left f before xs left whole so_far e =
    ap (told_as proof_fault) (so_far ∙ ap (λ ys. reads (each_after f before ys) left) e ∙ read_say kinds before (words_seen left.rows) left.end)

-- items, each with its first line
module _ {A B : Type 0} (l : Leaf Words ProofKind A) (body : List B → A → Lines B) (xs : List B) (left : Left)
    (whole : Result (List B × List (Seen Words)) (FaultAt ProofKind)) (so_far : whole ≡ reads (Many l body xs) left) where
  pub first_fails : (fault : ProofText) → Fails (reads (maybe l) left) fault → Fails whole fault
  first_fails fault h = fails_too (reads (maybe l) left) whole fault (λ e k. so_far ∙ many_failed kinds l body xs (words_seen left.rows) left.end e k) h

  pub items_end : (new : Left) → Gives (maybe l) left None new
      → ◌≡◌ {A = Result (List B × List (Seen Words)) ProofText} (told_as proof_fault whole) (Ok (xs, words_seen new.rows))
  items_end new h = ap (told_as proof_fault) (so_far ∙ many_done kinds l body xs (words_seen left.rows) (words_seen new.rows) left.end (given (maybe l) left new None h))

  module _ (a : A) (mid : Left) (h : Gives (maybe l) left (Some a) mid) (same : mid.end ≡ left.end) where
    item : whole ≡ go_on kinds (reads (body xs a) mid) (λ x. Many l body (xs ++ x ∷ [])) mid.end
    item = so_far ∙ many_on kinds l body xs (words_seen left.rows) (words_seen mid.rows) left.end a (given (maybe l) left mid (Some a) h)
        ∙ ap (λ n. go_on kinds (read kinds (body xs a) (words_seen mid.rows) n) (λ x. Many l body (xs ++ x ∷ [])) n) (sym same)

    pub item_fails : (fault : ProofText) → Fails (reads (body xs a) mid) fault → Fails whole fault
    item_fails fault k = fails_too (reads (body xs a) mid) whole fault
        (λ e m. item ∙ ap {A = Result (B × List (Seen Words)) (FaultAt ProofKind)} (λ r. go_on kinds r (λ x. Many l body (xs ++ x ∷ [])) mid.end) m) k

    pub item_reads : (x : B) (new : Left) → Gives (body xs a) mid x new → new.end ≡ mid.end → whole ≡ reads (Many l body (xs ++ x ∷ [])) new
    item_reads x new k e =
        item ∙ ap {A = Result (B × List (Seen Words)) (FaultAt ProofKind)} (λ r. go_on kinds r (λ x. Many l body (xs ++ x ∷ [])) mid.end) (given (body xs a) mid new x k)
        ∙ ap (λ n. read kinds (Many l body (xs ++ x ∷ [])) (words_seen new.rows) n) (sym e)

-- the next line, if it is of this kind
module _ {A : Type 0} (l : Leaf Words ProofKind A) (left : Left) where
  pub found_one : (row : Row) (new : Left) (a : A) → left.rows ≡ row ∷ new.rows → if_any (l (words_of row.text)) ≡ Ok (Some a) → Gives (maybe l) left (Some a) new
  found_one row new a r e = ap (told_as proof_fault) (ap (λ rs. read kinds (maybe l) (words_seen rs) left.end) r
      ∙ maybe_taken kinds l (record { number = row.number; line = words_of row.text }) (words_seen new.rows) left.end a e)

-- ---- a step, and a keep

pub step_read : (T : Frame) (earlier : List StepParts) (j : ℕ) (left new : Left) (flows : List (List Parts)) → Gives (numbers T Flow (named earlier)) left flows new
    → new.end ≡ left.end → Gives (step T earlier j) left (record { hypothesis = j; flows = flows }) new
step_read T earlier j left new flows h e =
    ap (told_as proof_fault) (then_reads (numbers T Flow (named earlier)) (λ flows. Say (record { hypothesis = j; flows = flows })) left flows new h e
    ∙ read_say kinds (record { hypothesis = j; flows = flows }) (words_seen new.rows) new.end)

module _ (T : Frame) (js : List ℕ) (k : ℕ) (left mid : Left) (first : Gives (Line (keep_line T k)) left k mid) (same : mid.end ≡ left.end) where
  exits_next : reads (keep T js k) left ≡ reads (Then (numbers T Exit js) (λ exits. Say (record { hypothesis = k; exits = exits }))) mid
  exits_next = then_reads (Line (keep_line T k)) (λ k. Then (numbers T Exit js) (λ exits. Say (record { hypothesis = k; exits = exits }))) left k mid first same

  pub keep_exits_fail : (fault : ProofText) → Fails (reads (numbers T Exit js) mid) fault → Fails (reads (keep T js k) left) fault
  keep_exits_fail fault h = fails_too (reads (Then (numbers T Exit js) (λ exits. Say (record { hypothesis = k; exits = exits }))) mid) (reads (keep T js k) left) fault
      (λ f e. exits_next ∙ e) (then_fails (numbers T Exit js) (λ exits. Say (record { hypothesis = k; exits = exits })) mid fault h)

  pub keep_read : (new : Left) (exits : List (List Parts)) → Gives (numbers T Exit js) mid exits new → new.end ≡ mid.end
      → Gives (keep T js k) left (record { hypothesis = k; exits = exits }) new
  keep_read new exits h e =
      ap (told_as proof_fault) (exits_next ∙ then_reads (numbers T Exit js) (λ exits. Say (record { hypothesis = k; exits = exits })) mid exits new h e
      ∙ read_say kinds (record { hypothesis = k; exits = exits }) (words_seen new.rows) new.end)

-- ---- names

-- the name of a hypothesis of the case
pub frame_name : (n : Numbers) (c : Content) (j : ℕ) (name : List ℕ) → slice_get c.names j ≡ Some name → (case_frame n c).name j ≡ name
frame_name n c j name e = get_or_from_slice_get c.names j name [] e

-- the hypothesis of a step
pub known_at : {F : Type 0} (m : ℕ) (steps : List (ProofStep F)) (e : ℕ) (s : ProofStep F) → e < length steps → All (λ j. j < m) (hypotheses_of steps)
    → (get_or steps e s).hypothesis < m
known_at m steps e s p h = subst (λ j. j < m) (get_or-map (λ s. s.hypothesis) steps e s 0 p)
    (All-get_or (λ j. j < m) (hypotheses_of steps) e 0 (subst (λ n. e < n) (as_many steps) p) h)

pub step_at : {F : Type 0} (steps : List (ProofStep F)) (e : ℕ) (s : ProofStep F) → e < length steps
    → get_or (hypotheses_of steps) e 0 ≡ (get_or steps e s).hypothesis
step_at steps e s p = get_or-map (λ s. s.hypothesis) steps e s 0 p

-- the hypotheses from a step on
pub here : {F : Type 0} (steps : List (ProofStep F)) (e : ℕ) (s : ProofStep F) → e < length steps
    → drop e (hypotheses_of steps) ≡ (get_or steps e s).hypothesis ∷ drop (e + 1) (hypotheses_of steps)
here steps e s p = drop_more (hypotheses_of steps) e 0 (subst (λ n. e < n) (as_many steps) p)
    ∙ ap (λ j. j ∷ drop (e + 1) (hypotheses_of steps)) (step_at steps e s p)

-- the components from one on
pub component_here : (m c : ℕ) → c < m → drop c (range_with_len 0 m) ≡ c ∷ drop (c + 1) (range_with_len 0 m)
component_here m c p = drop_more (range_with_len 0 m) c 0 (subst (λ n. c < n) (sym (length-range_with_len 0 m)) p)
    ∙ ap (λ k. k ∷ drop (c + 1) (range_with_len 0 m)) (get_or-range_with_len 0 m c 0 p ∙ zero-add c)

-- all others, from 0 on
pub others_start : (m : ℕ) (js : List ℕ) → others_from js 0 (m - 0) ≡ others m js
unfolding others
others_start m js = ap (others_from js 0) same
  where
    same : m - 0 ≡ m
    same = omega arith

pub none_more : (m k : ℕ) (js : List ℕ) → k ≡ m → others_from js k (m - k) ≡ []
none_more m k js e = ap (others_from js k) gone
  where
    gone : m - k ≡ 0
    gone = omega arith

-- no hypothesis is kept in another version
pub kept_none : (T : Frame) (v : ℕ) (js : List ℕ) → v ≢ 2 → kept T v js ≡ []
kept_none T v js n = by (v == 2) refl
  where
    by : (b : Bool) → (v == 2) ≡ b → (if b then T.others js else []) ≡ []
    by true e = absurd (n ((Decides-eqb v 2).0 e))
    by false e = refl
