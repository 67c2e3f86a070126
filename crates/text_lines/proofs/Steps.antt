-- Reading by descent: one form after another.
use Rattle.std.proofs.Common.{◌≡◌, ℕ, suc, ◌≤◌, List, [], ◌∷◌, ◌++◌, length, Option, Some, None, Result, Ok, Err, refl, sym, ap, subst, ◌∙◌, arith}
use Rattle.field_core.specs.Answers.{mapped}
use Rattle.field_core.proofs.Results.{same_value, same_fault}
use Rattle.text_lines.specs.Faults.{FaultAt, on_line}
use Rattle.text_lines.specs.Forms.{Leaf, Form, Say, Line, Then, Many, Kinds, Seen, Took, Takes, Passes, Wrong, may_take, next, ended, took_on, leaving, read}
use Rattle.text_lines.specs.Kinds.{expected, if_any, maybe}
use Rattle.text_lines.proofs.FormReads.{go_on, read_say, read_then, read_more, read_no_more}
use Rattle.text_lines.proofs.FormLines.{line_read}

module _ {L K : Type 0} (U : Kinds K) where
  -- ---- one line

  pub line_taken : {A : Type 0} (l : Leaf L K A) (row : Seen L) (rows : List (Seen L)) (end : ℕ) (a : A) → expected U (l row.line) ≡ Ok a
      → read U (Line l) (row ∷ rows) end ≡ Ok (a, rows)
  line_taken l row rows end a e = line_read U l row rows end ∙ ap (λ r. mapped (leaving rows) (on_line row.number r)) e

  pub line_refused : {A : Type 0} (l : Leaf L K A) (row : Seen L) (rows : List (Seen L)) (end : ℕ) (kind : K) → expected U (l row.line) ≡ Err kind
      → read U (Line l) (row ∷ rows) end ≡ Err (record { line = row.number; kind = kind })
  line_refused l row rows end kind e = line_read U l row rows end ∙ ap (λ r. mapped (leaving rows) (on_line row.number r)) e

  -- ---- a form, and what depends on it

  pub then_on : {A B : Type 0} (f : Form L K A) (g : A → Form L K B) (rows rest : List (Seen L)) (end : ℕ) (a : A) → read U f rows end ≡ Ok (a, rest)
      → read U (Then f g) rows end ≡ read U (g a) rest end
  then_on {A} f g rows rest end a e = read_then U f g rows end ∙ ap {A = Result (A × List (Seen L)) (FaultAt K)} (λ r. go_on U r g end) e

  pub then_failed : {A B : Type 0} (f : Form L K A) (g : A → Form L K B) (rows : List (Seen L)) (end : ℕ) (fault : FaultAt K) → read U f rows end ≡ Err fault
      → read U (Then f g) rows end ≡ Err fault
  then_failed {A} f g rows end fault e = read_then U f g rows end ∙ ap {A = Result (A × List (Seen L)) (FaultAt K)} (λ r. go_on U r g end) e

  -- ---- the next line, if it is of a kind

  pub maybe_taken : {A : Type 0} (l : Leaf L K A) (row : Seen L) (rows : List (Seen L)) (end : ℕ) (a : A) → if_any (l row.line) ≡ Ok (Some a)
      → read U (maybe l) (row ∷ rows) end ≡ Ok (Some a, rows)
  maybe_taken {A} l row rows end a e = by (l row.line) e
    where
      by : (o : Option (Result A K)) → if_any o ≡ Ok (Some a) → took_on (may_take o (λ a. Say (Some a)) (Passes None)) row rows (λ g. read U g rows end) ≡ Ok (Some a, rows)
      by (Some (Ok b)) e = read_say U (Some b) rows end ∙ ap (λ o. Ok (o, rows)) (same_value (Some b) (Some a) e)
      by (Some (Err k)) e = absurd (cc e)
      by None e = absurd (cc e)

  -- ---- items, by their first lines

  pub many_on : {A B : Type 0} (l : Leaf L K A) (body : List B → A → Form L K B) (xs : List B) (rows rest : List (Seen L)) (end : ℕ) (a : A)
      → read U (maybe l) rows end ≡ Ok (Some a, rest) → read U (Many l body xs) rows end ≡ go_on U (read U (body xs a) rest end) (λ x. Many l body (xs ++ x ∷ [])) end
  many_on {A} l body xs [] rest end a e =
      let p : ◌≡◌ {A = Option A × List (Seen L)} (None, []) (Some a, rest) = same_value {A = Option A × List (Seen L)} _ _ e in
      absurd (cc (ap (λ q. q.0) p))
  many_on {A} {B} l body xs (row ∷ rows) rest end a e = by (l row.line) refl e
    where
      by : (o : Option (Result A K)) → l row.line ≡ o → took_on (may_take o (λ a. Say (Some a)) (Passes None)) row rows (λ g. read U g rows end) ≡ Ok (Some a, rest)
          → read U (Many l body xs) (row ∷ rows) end ≡ go_on U (read U (body xs a) rest end) (λ x. Many l body (xs ++ x ∷ [])) end
      by (Some (Ok b)) h k =
          let p : ◌≡◌ {A = Option A × List (Seen L)} (Some b, rows) (Some a, rest) = same_value {A = Option A × List (Seen L)} _ _ (sym (read_say U (Some b) rows end) ∙ k) in
          let o : Some b ≡ Some a = ap (λ q. q.0) p in
          let x : b ≡ a = cc o in
          let y : rows ≡ rest = ap (λ q. q.1) p in
          read_more U l body xs row rows end b h
          ∙ ap (λ c. go_on U (read U (body xs c) rows end) (λ x. Many l body (xs ++ x ∷ [])) end) x
          ∙ ap (λ rs. go_on U (read U (body xs a) rs end) (λ x. Many l body (xs ++ x ∷ [])) end) y
      by (Some (Err k)) h e = absurd (cc e)
      by None h e = absurd (cc (let p : ◌≡◌ {A = Option A × List (Seen L)} (None, row ∷ rows) (Some a, rest) = same_value {A = Option A × List (Seen L)} _ _ e in ap (λ q. q.0) p))

  pub many_done : {A B : Type 0} (l : Leaf L K A) (body : List B → A → Form L K B) (xs : List B) (rows rest : List (Seen L)) (end : ℕ)
      → read U (maybe l) rows end ≡ Ok (None, rest) → read U (Many l body xs) rows end ≡ Ok (xs, rest)
  many_done {A} l body xs [] rest end e =
      let p : ◌≡◌ {A = Option A × List (Seen L)} (None, []) (None, rest) = same_value {A = Option A × List (Seen L)} _ _ e in
      ap (λ rs. Ok (xs, rs)) (ap (λ q. q.1) p)
  many_done {A} {B} l body xs (row ∷ rows) rest end e = by (l row.line) refl e
    where
      by : (o : Option (Result A K)) → l row.line ≡ o → took_on (may_take o (λ a. Say (Some a)) (Passes None)) row rows (λ g. read U g rows end) ≡ Ok (None, rest)
          → read U (Many l body xs) (row ∷ rows) end ≡ Ok (xs, rest)
      by (Some (Ok b)) h k =
          let p : ◌≡◌ {A = Option A × List (Seen L)} (Some b, rows) (None, rest) = same_value {A = Option A × List (Seen L)} _ _ (sym (read_say U (Some b) rows end) ∙ k) in
          absurd (cc (ap (λ q. q.0) p))
      by (Some (Err k)) h e = absurd (cc e)
      by None h e =
          let p : ◌≡◌ {A = Option A × List (Seen L)} (None, row ∷ rows) (None, rest) = same_value {A = Option A × List (Seen L)} _ _ e in
          read_no_more U l body xs (row ∷ rows) end h ∙ ap (λ rs. Ok (xs, rs)) (ap (λ q. q.1) p)

  pub many_failed : {A B : Type 0} (l : Leaf L K A) (body : List B → A → Form L K B) (xs : List B) (rows : List (Seen L)) (end : ℕ) (fault : FaultAt K)
      → read U (maybe l) rows end ≡ Err fault → read U (Many l body xs) rows end ≡ Err fault
  many_failed l body xs [] end fault e = absurd (cc e)
  many_failed {A} {B} l body xs (row ∷ rows) end fault e = by (l row.line) refl e
    where
      by : (o : Option (Result A K)) → l row.line ≡ o → took_on (may_take o (λ a. Say (Some a)) (Passes None)) row rows (λ g. read U g rows end) ≡ Err fault
          → read U (Many l body xs) (row ∷ rows) end ≡ Err fault
      by (Some (Ok b)) h k = absurd (cc (sym (read_say U (Some b) rows end) ∙ k))
      by (Some (Err k)) h e = rw h (ap Err (same_fault (record { line = row.number; kind = k }) fault e))
      by None h e = absurd (cc e)

  -- ---- no more lines are left than there were

  pub read_shorter : {A : Type 0} (f : Form L K A) (rows : List (Seen L)) (end : ℕ) (a : A) (rest : List (Seen L)) → read U f rows end ≡ Ok (a, rest)
      → length rest ≤ length rows
  read_shorter {A} f [] end a rest e = by (ended U f) e
    where
      by : (r : Result A K) → mapped (leaving []) (on_line end r) ≡ Ok (a, rest) → length rest ≤ 0
      by (Ok b) e =
          let p : ◌≡◌ {A = A × List (Seen L)} (b, []) (a, rest) = same_value {A = A × List (Seen L)} _ _ e in
          let q : [] ≡ rest = ap (λ x. x.1) p in
          subst (λ r. length r ≤ 0) q (omega arith)
      by (Err k) e = absurd (cc e)
  read_shorter {A} f (row ∷ rows) end a rest e = by (next U f row.line) e (λ g. read_shorter g rows end a rest)
    where
      more : (m n : ℕ) → m ≤ n → m ≤ suc n
      more m n p = omega arith

      by : (t : Took L K A) → took_on t row rows (λ g. read U g rows end) ≡ Ok (a, rest)
          → ((g : Form L K A) → read U g rows end ≡ Ok (a, rest) → length rest ≤ length rows) → length rest ≤ suc (length rows)
      by (Takes g) e later = more (length rest) (length rows) (later g e)
      by (Passes b) e later =
          let p : ◌≡◌ {A = A × List (Seen L)} (b, row ∷ rows) (a, rest) = same_value {A = A × List (Seen L)} _ _ e in
          let q : row ∷ rows ≡ rest = ap (λ x. x.1) p in
          subst (λ r. length r ≤ suc (length rows)) q (omega arith)
      by (Wrong k) e later = absurd (cc e)
