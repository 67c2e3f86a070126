-- A line in words.
use Rattle.std.specs.Prelude.{◌≡◌, ℕ, zero, suc, ◌||◌, Bool, true, false, List, [], ◌∷◌, Option, Some, None, drop, ◌==◌}
use Rattle.std.specs.Prelude.{if◌then◌else◌}
use Rattle.std.specs.List.{slice_split, filter, prefix_len, position_or_len}
use Rattle.std.specs.Str.{bytes_eq}
use Rattle.std.specs.Iterator.{YieldsFirstRef}
use Rattle.std.specs.Borrow.{Bor}

-- whether a byte is a space or a tab
abbrev pub is_blank : ℕ → Bool
is_blank b = (b == 32) || (b == 9)

-- whether a text can be a word: it has a byte
abbrev pub is_word : List ℕ → Bool
is_word [] = false
is_word (b ∷ bs) = true

-- the words of a line are what is between its blanks
unfoldable pub words_of : List ℕ → List (List ℕ)
words_of line = filter is_word (slice_split is_blank line)

-- a line from the first byte on that isn't blank
unfoldable pub after_blanks : List ℕ → List ℕ
after_blanks line = drop (prefix_len is_blank line) line

-- what follows the first word of a line
unfoldable pub after_word : List ℕ → List ℕ
after_word line = drop (position_or_len is_blank (after_blanks line)) (after_blanks line)

-- what follows the first n words of a line
abbrev pub after_words : ℕ → List ℕ → List ℕ
after_words zero line = line
after_words (suc n) line = after_words n (after_word line)

-- the words after the keyword, if that is the first
abbrev pub words_after : List ℕ → List (List ℕ) → Option (List (List ℕ))
words_after keyword [] = None
words_after keyword (w ∷ ws) = if bytes_eq w keyword then Some ws else None

-- the word, if there is exactly one
abbrev pub only_word : List (List ℕ) → Option (List ℕ)
only_word [] = None
only_word (w ∷ []) = Some w
only_word (w ∷ x ∷ ws) = None

-- the words, if there are exactly three
abbrev pub only_three : List (List ℕ) → Option (List ℕ × List ℕ × List ℕ)
only_three [] = None
only_three (a ∷ []) = None
only_three (a ∷ b ∷ []) = None
only_three (a ∷ b ∷ c ∷ []) = Some (a, b, c)
only_three (a ∷ b ∷ c ∷ d ∷ ws) = None

-- The next word was taken, if there is one, and this is left of the line.
pub record TakesWord (old : List ℕ) (result : Option (Bor (List ℕ))) (new : List ℕ) : Type 0 where
  pub word : YieldsFirstRef words_of old result new
  pub rest : new ≡ after_word old
