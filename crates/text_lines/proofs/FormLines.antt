-- Lines of one kind.
use Rattle.std.proofs.Common.{◌≡◌, ℕ, List, [], ◌∷◌, ◌++◌, Option, Some, None, Result, Ok, Err, refl, sym, ap, subst, ◌∙◌}
use Rattle.std.specs.List.{AllByRecursion}
use Rattle.field_core.specs.Answers.{and_then, mapped}
use Rattle.text_lines.specs.Forms.{Seen}
use Rattle.text_lines.specs.Faults.{FaultAt, on_line}
use Rattle.text_lines.specs.Forms.{Leaf, Form, Say, Line, Kinds, took_on, one_taken, leaving, read, all_read, reading, AreMany, Is}
use Rattle.text_lines.specs.Kinds.{expected, more_lines, each_after}
use Rattle.text_lines.proofs.FormReads.{read_say, read_then, read_more}
use Rattle.text_lines.proofs.FormEnds.{Whole, Can, can_say, can_many}

module _ {L K : Type 0} (U : Kinds K) where
  -- a whole text of such lines, line by line
  pub lines_step : {A : Type 0} (l : Leaf L K A) (xs : List A) (row : Seen L) (rows : List (Seen L)) (end : ℕ)
      → reading U (more_lines l xs) (row ∷ rows) end
      ≡ and_then (on_line row.number (expected U (l row.line))) (λ a. reading U (more_lines l (xs ++ a ∷ [])) rows end)
  lines_step {A} l xs row rows end = by (l row.line) refl
    where
      by : (o : Option (Result A K)) → l row.line ≡ o → reading U (more_lines l xs) (row ∷ rows) end
          ≡ and_then (on_line row.number (expected U o)) (λ a. reading U (more_lines l (xs ++ a ∷ [])) rows end)
      by (Some (Ok a)) e =
          let k = read_more U l (λ ys b. Say b) xs row rows end a e in
          let s = read_say U a rows end in
          ap {A = Result (List A × List (Seen L)) _} (λ r. and_then {A = List A × List (Seen L)} r (λ p. all_read U p.0 p.1)) (k ∙ (rw s refl))
      by (Some (Err kind)) e = rw e refl
      by None e = rw e refl

  pub lines_taken : {A : Type 0} (l : Leaf L K A) (xs : List A) (row : Seen L) (rows : List (Seen L)) (end : ℕ) (a : A) → expected U (l row.line) ≡ Ok a
      → reading U (more_lines l xs) (row ∷ rows) end ≡ reading U (more_lines l (xs ++ a ∷ [])) rows end
  lines_taken l xs row rows end a e = lines_step l xs row rows end ∙ (rw e refl)

  -- they can end anywhere
  pub lines_can : {A : Type 0} (l : Leaf L K A) (xs : List A) → Can U (more_lines l xs) Whole
  lines_can l xs = can_many U l (λ ys a. Say a) Whole (λ ys. ([], (refl, tt))) (λ ys a. can_say U a _ ([], (refl, tt))) xs

-- ---- forms for each of some, one after another

module _ {L K X A : Type 0} (U : Kinds K) (f : X → Form L K A) where
  pub each_taken : (before : List A) (x : X) (xs : List X) (rows rest : List (Seen L)) (end : ℕ) (a : A) → read U (f x) rows end ≡ Ok (a, rest)
      → read U (each_after f before (x ∷ xs)) rows end ≡ read U (each_after f (before ++ a ∷ []) xs) rest end
  each_taken before x xs rows rest end a e = read_then U (f x) (λ b. each_after f (before ++ b ∷ []) xs) rows end ∙ (rw e refl)

  pub each_refused : (before : List A) (x : X) (xs : List X) (rows : List (Seen L)) (end : ℕ) (fault : FaultAt K) → read U (f x) rows end ≡ Err fault
      → read U (each_after f before (x ∷ xs)) rows end ≡ Err fault
  each_refused before x xs rows end fault e = read_then U (f x) (λ b. each_after f (before ++ b ∷ []) xs) rows end ∙ (rw e refl)

-- one line
pub line_read : {L K A : Type 0} (U : Kinds K) (l : Leaf L K A) (row : Seen L) (rows : List (Seen L)) (end : ℕ)
    → read U (Line l) (row ∷ rows) end ≡ mapped (leaving rows) (on_line row.number (expected U (l row.line)))
line_read {L} {K} {A} U l row rows end = by (l row.line)
  where
    by : (o : Option (Result A K)) → took_on (one_taken U o) row rows (λ g. read U g rows end) ≡ mapped (leaving rows) (on_line row.number (expected U o))
    by (Some (Ok a)) = read_say U a rows end
    by (Some (Err kind)) = refl
    by None = refl

-- what each says has a property that what a line of the kind says has
pub lines_all : {L K A : Type 0} (l : Leaf L K A) (P : A → Type 0) → ((line : L) (a : A) → l line ≡ Some (Ok a) → P a)
    → (before xs : List A) (rows rest : List (Seen L)) → AreMany l (λ ys a. Is {L = L} {K = K} (Say a)) before rows xs rest → AllByRecursion P xs
lines_all l P h before [] rows rest m = tt
lines_all {L} {K} l P h before (x ∷ xs) rows rest m =
    (subst P (sym m.4.0) (h m.3.row.line m.0 m.3.says), lines_all l P h (before ++ x ∷ []) xs m.2 rest m.5)
