-- How far a text goes in a language.
use Rattle.std.specs.Prelude.{ℕ, ◌≤◌, List, ◌++◌, length, take}

-- some text of the language begins so
pub record Begins (IsIn : List ℕ → Type 0) (text : List ℕ) : Type 0 where
  pub rest : List ℕ
  pub whole : IsIn (text ++ rest)

-- The text isn't in the language, and n is the length of its longest prefix that is a prefix of some text of the language.
pub record IsBadByte (IsIn : List ℕ → Type 0) (text : List ℕ) (n : ℕ) : Type 0 where
  pub refused : ¬ IsIn text
  pub within : n ≤ length text
  pub begins : Begins IsIn (take n text)
  pub longest : (m : ℕ) → m ≤ length text → Begins IsIn (take m text) → m ≤ n
