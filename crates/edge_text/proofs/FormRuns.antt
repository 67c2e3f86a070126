-- Forms and the answer to what they say, line by line.
use Rattle.std.proofs.Common.{◌≡◌, ℕ, List, [], ◌∷◌, ◌++◌, Option, Some, None, Result, Ok, Err, refl, ap, ◌∙◌}
use Rattle.std.specs.Option.{option_map}
use Rattle.field_core.specs.Answers.{and_then}
use Rattle.text_lines.specs.Languages.{FaultAt, on_line}
use Rattle.text_lines.specs.Words.{words_of, words_after}
use Rattle.edge_text.specs.WordReading.{on_keyword, on_words}
use Rattle.text_lines.specs.Forms.{Leaf, Form, Say, Line, Then, May, Many, Kinds, Seen, one_taken, took_on, may_take, next, read}
use Rattle.text_lines.specs.Kinds.{more_lines, keyed_line}
use Rattle.text_lines.proofs.FormReads.{read_say, read_then}

-- The answer to what a line of a kind says; or what is wrong with the line; or, if it is of another kind, the other answer.
abbrev pub picked : {K A B : Type 0} → ℕ → Option (Result A K) → (A → Result B (FaultAt K)) → Result B (FaultAt K) → Result B (FaultAt K)
picked n (Some (Ok a)) f other = f a
picked n (Some (Err k)) f other = Err (record { line = n; kind = k })
picked n None f other = other

pub picked_same : {K A B : Type 0} (n : ℕ) (o : Option (Result A K)) (f g : A → Result B (FaultAt K)) (x y : Result B (FaultAt K))
    → ((a : A) → o ≡ Some (Ok a) → f a ≡ g a) → x ≡ y → picked n o f x ≡ picked n o g y
picked_same n (Some (Ok a)) f g x y h e = h a refl
picked_same n (Some (Err k)) f g x y h e = refl
picked_same n None f g x y h e = e

-- a line of the machine that says something, or else another one
pub on_said : {K A Next B : Type 0} (n : ℕ) (keyword line : List ℕ) (says : List (List ℕ) → Result A K) (to : A → Next) (other : Result Next K)
    (more : Next → Result B (FaultAt K))
    → and_then (on_line n (on_keyword keyword line (λ words. and_then (says words) (λ x. Ok (to x))) other)) more
    ≡ picked n (keyed_line keyword says line) (λ x. more (to x)) (and_then (on_line n other) more)
on_said {K} {A} {Next} {B} n keyword line says to other more = by (words_after keyword (words_of line))
  where
    one : (r : Result A K) → and_then (on_line n (and_then r (λ x. Ok (to x)))) more ≡ picked n (Some r) (λ x. more (to x)) (and_then (on_line n other) more)
    one (Ok x) = refl
    one (Err k) = refl

    by : (o : Option (List (List ℕ))) → and_then (on_line n (on_words o (λ words. and_then (says words) (λ x. Ok (to x))) other)) more
        ≡ picked n (option_map says o) (λ x. more (to x)) (and_then (on_line n other) more)
    by (Some words) = one (says words)
    by None = refl

module _ {L K : Type 0} (U : Kinds K) where
  -- the answer to what a form says and to the lines that it leaves
  abbrev pub run : {A B : Type 0} → Form L K A → List (Seen L) → ℕ → (A → List (Seen L) → Result B (FaultAt K)) → Result B (FaultAt K)
  run {A} f rows end k = and_then {A = A × List (Seen L)} (read U f rows end) (λ p. k p.0 p.1)

  on_same : {A B : Type 0} (r : Result (A × List (Seen L)) (FaultAt K)) (k j : A → List (Seen L) → Result B (FaultAt K))
      → ((a : A) (rest : List (Seen L)) → k a rest ≡ j a rest)
      → and_then {A = A × List (Seen L)} r (λ p. k p.0 p.1) ≡ and_then {A = A × List (Seen L)} r (λ p. j p.0 p.1)
  on_same (Ok p) k j h = h p.0 p.1
  on_same (Err e) k j h = refl

  pub run_same : {A B : Type 0} (f : Form L K A) (rows : List (Seen L)) (end : ℕ) (k j : A → List (Seen L) → Result B (FaultAt K))
      → ((a : A) (rest : List (Seen L)) → k a rest ≡ j a rest) → run f rows end k ≡ run f rows end j
  run_same f rows end k j h = on_same (read U f rows end) k j h

  pub run_say : {A B : Type 0} (a : A) (rows : List (Seen L)) (end : ℕ) (k : A → List (Seen L) → Result B (FaultAt K)) → run (Say a) rows end k ≡ k a rows
  run_say {A} a rows end k = ap {A = Result (A × List (Seen L)) (FaultAt K)} (λ r. and_then {A = A × List (Seen L)} r (λ p. k p.0 p.1)) (read_say U a rows end)

  pub run_then : {A B C : Type 0} (f : Form L K A) (g : A → Form L K B) (rows : List (Seen L)) (end : ℕ) (k : B → List (Seen L) → Result C (FaultAt K))
      → run (Then f g) rows end k ≡ run f rows end (λ a rest. run (g a) rest end k)
  run_then {A} {B} f g rows end k =
      ap {A = Result (B × List (Seen L)) (FaultAt K)} (λ r. and_then {A = B × List (Seen L)} r (λ p. k p.0 p.1)) (read_then U f g rows end) ∙ by (read U f rows end)
    where
      by : (r : Result (A × List (Seen L)) (FaultAt K))
          → and_then {A = B × List (Seen L)} (and_then {A = A × List (Seen L)} r (λ p. read U (g p.0) p.1 end)) (λ p. k p.0 p.1)
          ≡ and_then {A = A × List (Seen L)} r (λ p. run (g p.0) p.1 end k)
      by (Ok p) = refl
      by (Err e) = refl

  pub run_line : {A B : Type 0} (l : Leaf L K A) (row : Seen L) (rows : List (Seen L)) (end : ℕ) (k : A → List (Seen L) → Result B (FaultAt K))
      → run (Line l) (row ∷ rows) end k ≡ picked row.number (l row.line) (λ a. k a rows) (Err (record { line = row.number; kind = U.unexpected }))
  run_line {A} {B} l row rows end k = by (l row.line)
    where
      by : (o : Option (Result A K)) → and_then {A = A × List (Seen L)} (took_on (one_taken U o) row rows (λ g. read U g rows end)) (λ p. k p.0 p.1)
          ≡ picked row.number o (λ a. k a rows) (Err (record { line = row.number; kind = U.unexpected }))
      by (Some (Ok a)) = run_say a rows end k
      by (Some (Err kind)) = refl
      by None = refl

  pub run_may : {A B C : Type 0} (l : Leaf L K A) (body : A → Form L K B) (other : Form L K B) (row : Seen L) (rows : List (Seen L)) (end : ℕ)
      (k : B → List (Seen L) → Result C (FaultAt K))
      → run (May l body other) (row ∷ rows) end k ≡ picked row.number (l row.line) (λ a. run (body a) rows end k) (run other (row ∷ rows) end k)
  run_may {A} {B} l body other row rows end k = by (l row.line)
    where
      by : (o : Option (Result A K)) → and_then {A = B × List (Seen L)} (took_on (may_take o body (next U other row.line)) row rows (λ g. read U g rows end)) (λ p. k p.0 p.1)
          ≡ picked row.number o (λ a. run (body a) rows end k) (run other (row ∷ rows) end k)
      by (Some (Ok a)) = refl
      by (Some (Err kind)) = refl
      by None = refl

  pub run_many : {A B C : Type 0} (l : Leaf L K A) (body : List B → A → Form L K B) (xs : List B) (row : Seen L) (rows : List (Seen L)) (end : ℕ)
      (k : List B → List (Seen L) → Result C (FaultAt K))
      → run (Many l body xs) (row ∷ rows) end k
      ≡ picked row.number (l row.line) (λ a. run (body xs a) rows end (λ x rest. run (Many l body (xs ++ x ∷ [])) rest end k)) (k xs (row ∷ rows))
  run_many {A} {B} l body xs row rows end k = by (l row.line)
    where
      by : (o : Option (Result A K)) → and_then {A = List B × List (Seen L)}
          (took_on (may_take o (λ a. Then (body xs a) (λ x. Many l body (xs ++ x ∷ []))) (next U (Say xs) row.line)) row rows (λ g. read U g rows end))
          (λ p. k p.0 p.1)
          ≡ picked row.number o (λ a. run (body xs a) rows end (λ x rest. run (Many l body (xs ++ x ∷ [])) rest end k)) (k xs (row ∷ rows))
      by (Some (Ok a)) = run_then (body xs a) (λ x. Many l body (xs ++ x ∷ [])) rows end k
      by (Some (Err kind)) = refl
      by None = refl

  pub run_lines : {A C : Type 0} (l : Leaf L K A) (xs : List A) (row : Seen L) (rows : List (Seen L)) (end : ℕ)
      (k : List A → List (Seen L) → Result C (FaultAt K))
      → run (more_lines l xs) (row ∷ rows) end k
      ≡ picked row.number (l row.line) (λ a. run (more_lines l (xs ++ a ∷ [])) rows end k) (k xs (row ∷ rows))
  run_lines l xs row rows end k = run_many l (λ ys a. Say a) xs row rows end k
      ∙ picked_same row.number (l row.line) _ _ _ _ (λ a e. run_say a rows end (λ x rest. run (more_lines l (xs ++ x ∷ [])) rest end k)) refl
