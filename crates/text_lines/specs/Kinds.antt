-- Kinds of lines, by their words, and forms that are often used.
use Rattle.std.specs.Prelude.{ℕ, List, [], ◌∷◌, ◌++◌, Option, Some, None, Result, Ok, Err}
use Rattle.std.specs.Option.{option_map}
use Rattle.text_lines.specs.Words.{words_of, words_after}
use Rattle.text_lines.specs.Forms.{Leaf, Form, Say, Then, May, Many, Kinds}

-- a line with this first word, and what its other words say
abbrev pub keyed_words : {K A : Type 0} → List ℕ → (List (List ℕ) → Result A K) → Leaf (List (List ℕ)) K A
keyed_words keyword f words = option_map f (words_after keyword words)

-- a line with this first word, seen by its text, and what its other words say
abbrev pub keyed_line : {K A : Type 0} → List ℕ → (List (List ℕ) → Result A K) → Leaf (List ℕ) K A
keyed_line keyword f line = option_map f (words_after keyword (words_of line))

-- the first answer, if there is one, and else the other
abbrev pub either_of : {K A : Type 0} → Option (Result A K) → Option (Result A K) → Option (Result A K)
either_of (Some r) other = Some r
either_of None other = other

-- a line of one kind, or else of the other
abbrev pub or_line : {L K A : Type 0} → Leaf L K A → Leaf L K A → Leaf L K A
or_line l m line = either_of (l line) (m line)

-- what a line says that must be of this kind: a line of another kind is unexpected
abbrev pub expected : {K A : Type 0} → Kinds K → Option (Result A K) → Result A K
expected U (Some r) = r
expected U None = Err U.unexpected

-- what a line says if it is of this kind; nothing if it is of another kind
abbrev pub if_any : {K A : Type 0} → Option (Result A K) → Result (Option A) K
if_any (Some (Ok a)) = Ok (Some a)
if_any (Some (Err k)) = Err k
if_any None = Ok None

-- a line of this kind, if the next one is
abbrev pub maybe : {L K A : Type 0} → Leaf L K A → Form L K (Option A)
maybe l = May l (λ a. Say (Some a)) (Say None)

-- lines of one kind, any number of them, after those that said these values
abbrev pub more_lines : {L K A : Type 0} → Leaf L K A → List A → Form L K (List A)
more_lines l xs = Many l (λ ys a. Say a) xs

-- for each of these, one after another, what its form says, after the values that were said before
abbrev pub each_after : {L K X A : Type 0} → (X → Form L K A) → List A → List X → Form L K (List A)
each_after f before [] = Say before
each_after f before (x ∷ xs) = Then (f x) (λ a. each_after f (before ++ a ∷ []) xs)

-- for each of these, one after another, what its form says
abbrev pub each_of : {L K X A : Type 0} → (X → Form L K A) → List X → Form L K (List A)
each_of f xs = each_after f [] xs
