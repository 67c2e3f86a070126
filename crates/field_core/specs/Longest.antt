-- Machines that read a text item by item, and how far a text goes in a language.
use Rattle.std.specs.Prelude.{ℕ, ◌+◌, ◌≤◌, Bool, false, List, [], ◌∷◌, ◌++◌, length, take, Option, Some, None}

-- what `accepts` answers for the state that a step leads to; false if it leads to none
abbrev pub accepts_then : {S : Type 0} → (S → Bool) → Option S → Bool
accepts_then accepts None = false
accepts_then accepts (Some state) = accepts state

-- whether a text is read to its end from a state on, and may end there
unfoldable pub accepts : {X S : Type 0} → (S → X → Option S) → (S → Bool) → List X → S → Bool
accepts step may_end [] state = may_end state
accepts step may_end (x ∷ xs) state = accepts_then (accepts step may_end xs) (step state x)

-- one item, and what `count` gives for the state that a step leads to; 0 if it leads to none
abbrev pub count_then : {S : Type 0} → (S → ℕ) → Option S → ℕ
count_then count None = 0
count_then count (Some state) = 1 + count state

-- how many items can be read from a state on
unfoldable pub count : {X S : Type 0} → (S → X → Option S) → List X → S → ℕ
count step [] state = 0
count step (x ∷ xs) state = count_then (count step xs) (step state x)

-- n is the length of the longest prefix with which a text of the language begins
pub record IsLongest {X : Type 0} (IsIn : List X → Type 0) (text : List X) (n : ℕ) : Type 0 where
  pub within : n ≤ length text
  pub rest : List X
  pub whole : IsIn (take n text ++ rest)
  pub longest : (m : ℕ) (more : List X) → m ≤ length text → IsIn (take m text ++ more) → m ≤ n
