-- Words as text: one blank between words, a line feed after each line.
use Rattle.std.specs.Prelude.{◌≢◌, ◌<◌, ℕ, ◌+◌, List, [], ◌∷◌, ◌++◌, length}
use Rattle.std.specs.List.{flat_map, AllByRecursion}
use Rattle.text_lines.specs.Lines.{Row}

-- a blank, and the word
abbrev pub spaced : List ℕ → List ℕ
spaced word = 32 ∷ word

-- the text of a line of these words
abbrev pub line_spelt : List (List ℕ) → List ℕ
line_spelt [] = []
line_spelt (word ∷ words) = word ++ flat_map spaced words

-- the text of these lines
unfoldable pub text_of : List (List (List ℕ)) → List ℕ
text_of lines = flat_map (λ words. line_spelt words ++ 10 ∷ []) lines

-- no blank, line feed or carriage return
pub record IsPlain (byte : ℕ) : Type 0 where
  pub space : byte ≢ 32
  pub tab : byte ≢ 9
  pub line_feed : byte ≢ 10
  pub carriage_return : byte ≢ 13

-- one byte or more, all of them plain
pub record IsWord (word : List ℕ) : Type 0 where
  pub some : 0 < length word
  pub plain : AllByRecursion IsPlain word

-- the line doesn't begin with '#'
abbrev pub IsNoComment : List ℕ → Type 0
IsNoComment [] = Unit {0}
IsNoComment (b ∷ bs) = b ≢ 35

-- one word or more, not beginning with '#'
abbrev pub IsLine : List (List ℕ) → Type 0
IsLine [] = ⊥
IsLine (word ∷ words) = IsNoComment word × IsWord word × AllByRecursion IsWord words

-- the lines with their numbers, after n others
abbrev pub numbered : ℕ → List (List (List ℕ)) → List Row
numbered n [] = []
numbered n (line ∷ lines) = record { number = n + 1; text = line_spelt line } ∷ numbered (n + 1) lines
