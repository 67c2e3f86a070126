-- Forms of lines: what a document is, as one value. From it follow what lines say, how they are read, and where their first fault is.
use Rattle.std.specs.Prelude.{◌≡◌, ◌⊎◌, ℕ, List, [], ◌∷◌, ◌++◌, map, Option, Some, None, Result, Ok, Err}
use Rattle.field_core.specs.Answers.{and_then, mapped}
use Rattle.text_lines.specs.Lines.{Row}
use Rattle.text_lines.specs.Words.{words_of}
use Rattle.text_lines.specs.Faults.{FaultAt, on_line}

-- A line as a form sees it, which is its text or its words, and its number among all lines.
pub record Seen (L : Type 0) : Type 0 where
  pub number : ℕ
  pub line : L

-- these lines of a text, as a form sees them
abbrev pub seen : {L : Type 0} → (List ℕ → L) → List Row → List (Seen L)
seen line_of rows = map (λ row. record { number = row.number; line = line_of row.text }) rows

-- these lines of a text, seen by their words
abbrev pub words_seen : List Row → List (Seen (List (List ℕ)))
words_seen rows = seen words_of rows

-- these lines of a text, seen by their texts
abbrev pub texts_seen : List Row → List (Seen (List ℕ))
texts_seen rows = seen (λ text. text) rows

-- A kind of line is a function of the line. It returns nothing if the line is of another kind, and else what the line says or what is wrong with it.
abbrev pub Leaf : Type 0 → Type 0 → Type 0 → Type 0
Leaf L K A = L → Option (Result A K)

-- A form of lines that, one after another, say a value of `A`. `L` is what a form sees of a line, and `K` is what may be wrong with it.
pub data Form (L K : Type 0) : Type 0 → Type 1 where
  -- no line, which says this value
  Say : {A : Type 0} → A → Form L K A
  -- one line of this kind
  Line : {A : Type 0} → Leaf L K A → Form L K A
  -- these lines, and then others, which depend on what the first ones said
  Then : {A B : Type 0} → Form L K A → (A → Form L K B) → Form L K B
  -- if the next line is of this kind, that line and what follows it, and else the other form
  May : {A B : Type 0} → Leaf L K A → (A → Form L K B) → Form L K B → Form L K B
  -- items, as long as the next line is of this kind: each is that line and what follows it, which may depend on the items before
  Many : {A B : Type 0} → Leaf L K A → (List B → A → Form L K B) → List B → Form L K (List B)

-- What is wrong with a line that is not allowed where it is, and with a text that ends too early.
pub record Kinds (K : Type 0) : Type 0 where
  pub unexpected : K
  pub ended : K

-- ---- reading

-- What a form does with a line.
pub data Took (L K A : Type 0) : Type 1 where
  -- takes it, and then this form is left
  Takes : Form L K A → Took L K A
  -- has ended before it, and said this
  Passes : A → Took L K A
  -- refuses it, since this is wrong with it
  Wrong : K → Took L K A

abbrev pub one_taken : {L K A : Type 0} → Kinds K → Option (Result A K) → Took L K A
one_taken U (Some (Ok a)) = Takes (Say a)
one_taken U (Some (Err k)) = Wrong k
one_taken U None = Wrong U.unexpected

abbrev pub then_taken : {L K A B : Type 0} → Took L K A → (A → Form L K B) → (A → Took L K B) → Took L K B
then_taken (Takes f) g after = Takes (Then f g)
then_taken (Passes a) g after = after a
then_taken (Wrong k) g after = Wrong k

abbrev pub may_take : {L K A B : Type 0} → Option (Result A K) → (A → Form L K B) → Took L K B → Took L K B
may_take (Some (Ok a)) body other = Takes (body a)
may_take (Some (Err k)) body other = Wrong k
may_take None body other = other

abbrev pub next : {L K A : Type 0} → Kinds K → Form L K A → L → Took L K A
next U (Say a) line = Passes a
next U (Line l) line = one_taken U (l line)
next U (Then f g) line = then_taken (next U f line) g (λ a. next U (g a) line)
next U (May l body other) line = may_take (l line) body (next U other line)
next U (Many l body xs) line = may_take (l line) (λ a. Then (body xs a) (λ x. Many l body (xs ++ x ∷ []))) (Passes xs)

-- what a form says of a text that ends here, or that it ends too early
abbrev pub ended : {L K A : Type 0} → Kinds K → Form L K A → Result A K
ended U (Say a) = Ok a
ended U (Line l) = Err U.ended
ended U (Then f g) = and_then (ended U f) (λ a. ended U (g a))
ended U (May l body other) = ended U other
ended U (Many l body xs) = Ok xs

abbrev pub took_on : {L K A : Type 0} → Took L K A → Seen L → List (Seen L) → (Form L K A → Result (A × List (Seen L)) (FaultAt K)) → Result (A × List (Seen L)) (FaultAt K)
took_on (Takes f) row rows more = more f
took_on (Passes a) row rows more = Ok (a, row ∷ rows)
took_on (Wrong k) row rows more = Err (record { line = row.number; kind = k })

-- what was said, and the lines that are left
abbrev pub leaving : {L A : Type 0} → List (Seen L) → A → A × List (Seen L)
leaving rows a = (a, rows)

-- what lines say, and the lines that are left, or the first fault; `end` is the number of the line after the last one
abbrev pub read : {L K A : Type 0} → Kinds K → Form L K A → List (Seen L) → ℕ → Result (A × List (Seen L)) (FaultAt K)
read U f [] end = mapped (leaving []) (on_line end (ended U f))
read U f (row ∷ rows) end = took_on (next U f row.line) row rows (λ g. read U g rows end)

-- what was said, if no line is left; else the next line is not allowed
abbrev pub all_read : {L K A : Type 0} → Kinds K → A → List (Seen L) → Result A (FaultAt K)
all_read U a [] = Ok a
all_read U a (row ∷ rows) = Err (record { line = row.number; kind = U.unexpected })

-- what a whole text says, or its first fault
abbrev pub reading : {L K A : Type 0} → Kinds K → Form L K A → List (Seen L) → ℕ → Result A (FaultAt K)
reading U f rows end = and_then (read U f rows end) (λ r. all_read U r.0 r.1)

-- ---- what lines say

-- the first line is of this kind, says this, and these follow it
pub record Begins {L K A : Type 0} (l : Leaf L K A) (rows : List (Seen L)) (a : A) (more : List (Seen L)) : Type 0 where
  pub row : Seen L
  pub rows_are : rows ≡ row ∷ more
  pub says : l row.line ≡ Some (Ok a)

-- the first line, if there is one, is of another kind
abbrev pub Lacks : {L K A : Type 0} → Leaf L K A → List (Seen L) → Type 0
Lacks l [] = Unit {0}
Lacks l (row ∷ rows) = l row.line ≡ None

-- items after those, each with its first line, and then no such line
abbrev pub AreMany : {L K A B : Type 0} → Leaf L K A → (List B → A → List (Seen L) → B → List (Seen L) → Type 0) → List B → List (Seen L) → List B → List (Seen L) → Type 0
AreMany l Is before rows [] rest = (rest ≡ rows) × Lacks l rows
AreMany {L} {K} {A} l Is before rows (x ∷ xs) rest =
    (a : A) × (more : List (Seen L)) × (mid : List (Seen L)) × Begins l rows a more × Is before a more x mid × AreMany l Is (before ++ x ∷ []) mid xs rest

-- the first lines say this, and the others are left
abbrev pub Is : {L K A : Type 0} → Form L K A → List (Seen L) → A → List (Seen L) → Type 0
Is (Say a) rows b rest = (b ≡ a) × (rest ≡ rows)
Is (Line l) rows a rest = Begins l rows a rest
Is {L = L} (Then {A} f g) rows b rest = (a : A) × (mid : List (Seen L)) × Is f rows a mid × Is (g a) mid b rest
Is {L = L} (May {A} l body other) rows b rest = ((a : A) × (more : List (Seen L)) × Begins l rows a more × Is (body a) more b rest) ⊎ (Lacks l rows × Is other rows b rest)
Is (Many {A} {B} l body before) rows all rest = (xs : List B) × (all ≡ before ++ xs) × AreMany l (λ ys a. Is (body ys a)) before rows xs rest

-- all lines say this
abbrev pub IsDocument : {L K A : Type 0} → Form L K A → List (Seen L) → A → Type 0
IsDocument f rows a = Is f rows a []
