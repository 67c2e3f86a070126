-- What is read of lines is what they say.
use Rattle.std.proofs.Common.{◌≡◌, ◌↔◌, inl, inr, ℕ, List, [], ◌∷◌, ◌++◌, Option, Some, None, Result, Ok, Err, refl, sym, ap, ap₂, subst, ◌∙◌, append_assoc}
use Rattle.std.proofs.lemmas.List.{append-nil}
use Rattle.field_core.specs.Answers.{and_then, mapped}
use Rattle.field_core.proofs.Results.{came_from, same_value}
use Rattle.text_lines.specs.Forms.{Seen}
use Rattle.text_lines.specs.Faults.{FaultAt, on_line}
use Rattle.text_lines.specs.Forms.{Leaf, Form, Say, Line, Then, May, Many, Kinds, Took, Takes, Passes, Wrong, one_taken, then_taken, may_take, next, ended, took_on, leaving, read}
use Rattle.text_lines.specs.Forms.{all_read, reading, Lacks, AreMany, Is, IsDocument}

module _ {L K : Type 0} (U : Kinds K) where
  -- ---- one form at a time

  -- what is read of a form that depends on what was said, from what was left
  abbrev pub go_on : {A B : Type 0} → Result (A × List (Seen L)) (FaultAt K) → (A → Form L K B) → ℕ → Result (B × List (Seen L)) (FaultAt K)
  go_on {A} r g end = and_then {A = A × List (Seen L)} r (λ p. read U (g p.0) p.1 end)

  pub read_say : {A : Type 0} (a : A) (rows : List (Seen L)) (end : ℕ) → read U (Say a) rows end ≡ Ok (a, rows)
  read_say a [] end = refl
  read_say a (row ∷ rows) end = refl

  ended_then : {A B : Type 0} (r : Result A K) (g : A → Form L K B) (end : ℕ)
      → mapped (leaving []) (on_line end (and_then r (λ a. ended U (g a)))) ≡ go_on (mapped (leaving []) (on_line end r)) g end
  ended_then (Ok a) g end = refl
  ended_then (Err k) g end = refl

  -- forms one after another are read one after another
  pub read_then : {A B : Type 0} (f : Form L K A) (g : A → Form L K B) (rows : List (Seen L)) (end : ℕ)
      → read U (Then f g) rows end ≡ go_on (read U f rows end) g end
  read_then f g [] end = ended_then (ended U f) g end
  read_then {A} {B} f g (row ∷ rows) end = took_then (next U f row.line) (λ h. read_then h g rows end)
    where
      took_then : (t : Took L K A) → ((h : Form L K A) → read U (Then h g) rows end ≡ go_on (read U h rows end) g end)
          → took_on (then_taken t g (λ a. next U (g a) row.line)) row rows (λ h. read U h rows end)
          ≡ go_on (took_on t row rows (λ h. read U h rows end)) g end
      took_then (Takes h) more = more h
      took_then (Passes a) more = refl
      took_then (Wrong k) more = refl

  -- the first line is one of this kind
  pub read_may : {A B : Type 0} (l : Leaf L K A) (body : A → Form L K B) (other : Form L K B) (row : Seen L) (rows : List (Seen L)) (end : ℕ) (a : A)
      → l row.line ≡ Some (Ok a) → read U (May l body other) (row ∷ rows) end ≡ read U (body a) rows end
  read_may l body other row rows end a e = rw e refl

  -- it is of another kind
  pub read_other : {A B : Type 0} (l : Leaf L K A) (body : A → Form L K B) (other : Form L K B) (rows : List (Seen L)) (end : ℕ)
      → Lacks l rows → read U (May l body other) rows end ≡ read U other rows end
  read_other l body other [] end h = refl
  read_other l body other (row ∷ rows) end h = rw h refl

  pub read_more : {A B : Type 0} (l : Leaf L K A) (body : List B → A → Form L K B) (xs : List B) (row : Seen L) (rows : List (Seen L)) (end : ℕ) (a : A)
      → l row.line ≡ Some (Ok a)
      → read U (Many l body xs) (row ∷ rows) end ≡ go_on (read U (body xs a) rows end) (λ x. Many l body (xs ++ x ∷ [])) end
  read_more l body xs row rows end a e = rw e (read_then (body xs a) (λ x. Many l body (xs ++ x ∷ [])) rows end)

  pub read_no_more : {A B : Type 0} (l : Leaf L K A) (body : List B → A → Form L K B) (xs : List B) (rows : List (Seen L)) (end : ℕ)
      → Lacks l rows → read U (Many l body xs) rows end ≡ Ok (xs, rows)
  read_no_more l body xs [] end h = refl
  read_no_more l body xs (row ∷ rows) end h = rw h refl

  -- ---- what lines say is read

  abbrev AreRead : {A : Type 0} → Form L K A → Type 0
  AreRead {A} f = (rows : List (Seen L)) (a : A) (rest : List (Seen L)) (end : ℕ) → Is f rows a rest → read U f rows end ≡ Ok (a, rest)

  many_read : {A B : Type 0} (l : Leaf L K A) (body : List B → A → Form L K B) → ((ys : List B) (a : A) → AreRead (body ys a))
      → (xs before : List B) (rows rest : List (Seen L)) (end : ℕ) → AreMany l (λ ys a. Is (body ys a)) before rows xs rest
      → read U (Many l body before) rows end ≡ Ok (before ++ xs, rest)
  many_read l body h [] before rows rest end k =
      read_no_more l body before rows end k.1 ∙ ap₂ (λ ys rs. Ok (ys, rs)) (sym (append-nil before)) (sym k.0)
  many_read l body h (x ∷ xs) before rows rest end k =
      ap (λ rs. read U (Many l body before) rs end) k.3.rows_are ∙ read_more l body before k.3.row k.1 end k.0 k.3.says
      ∙ ap (λ r. go_on r (λ y. Many l body (before ++ y ∷ [])) end) (h before k.0 k.1 x k.2 end k.4)
      ∙ many_read l body h xs (before ++ x ∷ []) k.2 rest end k.5 ∙ ap (λ ys. Ok (ys, rest)) (append_assoc before (x ∷ []) xs)

  pub is_read : {A : Type 0} (f : Form L K A) → AreRead f
  is_read (Say a) rows b rest end h = read_say a rows end ∙ ap₂ (λ x rs. Ok (x, rs)) (sym h.0) (sym h.1)
  is_read (Line l) rows a rest end h = ap (λ rs. read U (Line l) rs end) h.rows_are ∙ (let e = h.says in rw e (read_say a rest end))
  is_read (Then f g) rows b rest end h =
      read_then f g rows end ∙ ap (λ r. go_on r g end) (is_read f rows h.0 h.1 end h.2) ∙ is_read (g h.0) h.1 b rest end h.3
  is_read (May l body other) rows b rest end (inl h) =
      ap (λ rs. read U (May l body other) rs end) h.2.rows_are ∙ read_may l body other h.2.row h.1 end h.0 h.2.says ∙ is_read (body h.0) h.1 b rest end h.3
  is_read (May l body other) rows b rest end (inr h) = read_other l body other rows end h.0 ∙ is_read other rows b rest end h.1
  is_read (Many l body before) rows all rest end h =
      many_read l body (λ ys a. is_read (body ys a)) h.0 before rows rest end h.2 ∙ ap (λ ys. Ok (ys, rest)) (sym h.1)

  -- ---- what is read is what lines say

  -- what a form says of a line that it took, or before which it is done
  abbrev pub IsTook : {A : Type 0} → Form L K A → Seen L → Took L K A → Type 0
  IsTook {A} f row (Takes g) = (rows : List (Seen L)) (a : A) (rest : List (Seen L)) → Is g rows a rest → Is f (row ∷ rows) a rest
  IsTook f row (Passes a) = (rows : List (Seen L)) → Is f (row ∷ rows) a (row ∷ rows)
  IsTook f row (Wrong k) = Unit {0}

  one_is : {A : Type 0} (l : Leaf L K A) (row : Seen L) (o : Option (Result A K)) → l row.line ≡ o → IsTook (Line l) row (one_taken U o)
  one_is l row (Some (Ok a)) e = λ rows b rest h.
      record { row = row; rows_are = ap (λ rs. row ∷ rs) (sym h.1); says = e ∙ ap (λ x. Some (Ok x)) (sym h.0) }
  one_is l row (Some (Err k)) e = tt
  one_is l row None e = tt

  then_is : {A B : Type 0} (f : Form L K A) (g : A → Form L K B) (row : Seen L) (t : Took L K A) → IsTook f row t
      → ((a : A) → IsTook (g a) row (next U (g a) row.line)) → IsTook (Then f g) row (then_taken t g (λ a. next U (g a) row.line))
  then_is f g row (Takes h) is more = λ rows b rest k. (k.0, k.1, is rows k.0 k.1 k.2, k.3)
  then_is {A} {B} f g row (Passes a) is more = done (next U (g a) row.line) (more a)
    where
      done : (t : Took L K B) → IsTook (g a) row t → IsTook (Then f g) row t
      done (Takes h) m = λ rows b rest k. (a, row ∷ rows, is rows, m rows b rest k)
      done (Passes b) m = λ rows. (a, row ∷ rows, is rows, m rows)
      done (Wrong k) m = tt
  then_is f g row (Wrong k) is more = tt

  may_is : {A B : Type 0} (l : Leaf L K A) (body : A → Form L K B) (other : Form L K B) (row : Seen L) (o : Option (Result A K)) (t : Took L K B)
      → l row.line ≡ o → IsTook other row t → IsTook (May l body other) row (may_take o body t)
  may_is l body other row (Some (Ok a)) t e is = λ rows b rest h. inl (a, rows, record { row = row; rows_are = refl; says = e }, h)
  may_is l body other row (Some (Err k)) t e is = tt
  may_is l body other row None (Takes g) e is = λ rows b rest h. inr (e, is rows b rest h)
  may_is l body other row None (Passes b) e is = λ rows. inr (e, is rows)
  may_is l body other row None (Wrong k) e is = tt

  many_is : {A B : Type 0} (l : Leaf L K A) (body : List B → A → Form L K B) (xs : List B) (row : Seen L) (o : Option (Result A K)) → l row.line ≡ o
      → IsTook (Many l body xs) row (may_take o (λ a. Then (body xs a) (λ x. Many l body (xs ++ x ∷ []))) (Passes xs))
  many_is l body xs row (Some (Ok a)) e = λ rows all rest h. (
    h.0 ∷ h.3.0,
    h.3.1 ∙ append_assoc xs (h.0 ∷ []) h.3.0,
    (a, rows, h.1, record { row = row; rows_are = refl; says = e }, h.2, h.3.2),
  )
  many_is l body xs row (Some (Err k)) e = tt
  many_is l body xs row None e = λ rows. ([], sym (append-nil xs), (refl, e))

  pub took_is : {A : Type 0} (f : Form L K A) (row : Seen L) → IsTook f row (next U f row.line)
  took_is (Say a) row = λ rows. (refl, refl)
  took_is (Line l) row = one_is l row (l row.line) refl
  took_is (Then f g) row = then_is f g row (next U f row.line) (took_is f row) (λ a. took_is (g a) row)
  took_is (May l body other) row = may_is l body other row (l row.line) (next U other row.line) refl (took_is other row)
  took_is (Many l body xs) row = many_is l body xs row (l row.line) refl

  ended_is : {A : Type 0} (f : Form L K A) (a : A) → ended U f ≡ Ok a → Is f [] a []
  ended_is (Say a) b e = (sym (same_value a b e), refl)
  ended_is (Line l) a e = absurd (cc e)
  ended_is (Then f g) b e = let m = came_from (ended U f) (λ a. ended U (g a)) b e in (m.0, [], ended_is f m.0 m.1, ended_is (g m.0) b m.2)
  ended_is (May l body other) b e = inr (tt, ended_is other b e)
  ended_is (Many l body xs) all e = ([], sym (same_value xs all e) ∙ sym (append-nil xs), (refl, tt))

  abbrev SaysRead : {A : Type 0} → Form L K A → List (Seen L) → ℕ → Type 0
  SaysRead {A} f rows end = (a : A) (rest : List (Seen L)) → read U f rows end ≡ Ok (a, rest) → Is f rows a rest

  ended_read : {A : Type 0} (f : Form L K A) (r : Result A K) (end : ℕ) (a : A) (rest : List (Seen L)) → ended U f ≡ r
      → mapped (leaving []) (on_line end r) ≡ Ok (a, rest) → Is f [] a rest
  ended_read {A} f (Ok b) end a rest e h =
      let p : ◌≡◌ {A = A × List (Seen L)} (b, []) (a, rest) = same_value {A = A × List (Seen L)} _ _ h in
      let x : b ≡ a = ap (λ q. q.0) p in
      let y : [] ≡ rest = ap (λ q. q.1) p in
      subst (λ rs. Is f [] a rs) y (ended_is f a (e ∙ ap Ok x))
  ended_read f (Err k) end a rest e h = absurd (cc h)

  took_read : {A : Type 0} (f : Form L K A) (row : Seen L) (rows : List (Seen L)) (end : ℕ) (t : Took L K A) → IsTook f row t
      → ((g : Form L K A) → SaysRead g rows end) → (a : A) (rest : List (Seen L))
      → took_on t row rows (λ g. read U g rows end) ≡ Ok (a, rest) → Is f (row ∷ rows) a rest
  took_read f row rows end (Takes g) is more a rest e = is rows a rest (more g a rest e)
  took_read {A} f row rows end (Passes b) is more a rest e =
      let p : ◌≡◌ {A = A × List (Seen L)} (b, row ∷ rows) (a, rest) = same_value {A = A × List (Seen L)} _ _ e in
      let x : b ≡ a = ap (λ q. q.0) p in
      let y : row ∷ rows ≡ rest = ap (λ q. q.1) p in
      subst (λ rs. Is f (row ∷ rows) a rs) y (subst (λ z. Is f (row ∷ rows) z (row ∷ rows)) x (is rows))
  took_read f row rows end (Wrong k) is more a rest e = absurd (cc e)

  pub read_is : {A : Type 0} (f : Form L K A) (rows : List (Seen L)) (end : ℕ) → SaysRead f rows end
  read_is f [] end a rest e = ended_read f (ended U f) end a rest refl e
  read_is f (row ∷ rows) end a rest e =
      took_read f row rows end (next U f row.line) (took_is f row) (λ g. read_is g rows end) a rest e

  -- and so is a whole text
  whole_by : {A : Type 0} (f : Form L K A) (rows : List (Seen L)) (end : ℕ) (a : A) (r : Result (A × List (Seen L)) (FaultAt K)) → read U f rows end ≡ r
      → and_then {A = A × List (Seen L)} r (λ p. all_read U p.0 p.1) ≡ Ok a → IsDocument f rows a
  whole_by {A} f rows end a (Ok p) e h = by p.1 refl h
    where
      by : (rest : List (Seen L)) → p.1 ≡ rest → all_read U p.0 rest ≡ Ok a → IsDocument f rows a
      by [] k l = subst (λ x. Is f rows x []) (same_value p.0 a l) (subst (λ rs. Is f rows p.0 rs) k (read_is f rows end p.0 p.1 e))
      by (row ∷ rest) k l = absurd (cc l)
  whole_by f rows end a (Err fault) e h = absurd (cc h)

  pub reading_as : {A : Type 0} (f : Form L K A) (rows : List (Seen L)) (end : ℕ) (a : A) → (reading U f rows end ≡ Ok a) ↔ IsDocument f rows a
  reading_as f rows end a = (
    (λ e. whole_by f rows end a (read U f rows end) refl e),
    (λ h. let e = is_read f rows a [] end h in rw e refl),
  )

  -- lines say one thing, and leave the same lines
  pub one_said : {A : Type 0} (f : Form L K A) (rows : List (Seen L)) (a b : A) → IsDocument f rows a → IsDocument f rows b → a ≡ b
  one_said f rows a b h k =
      let x : reading U f rows 0 ≡ Ok a = (reading_as f rows 0 a).1 h in
      let y : reading U f rows 0 ≡ Ok b = (reading_as f rows 0 b).1 k in cc
