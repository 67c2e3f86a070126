-- The parts of a word.
use Rattle.std.specs.Prelude.{ℕ, Bool, List, length, drop, nat_lt, codes, Option, Some, None, ◌==◌, if◌then◌else◌}
use Rattle.std.specs.List.{starts_with, position_or_len, before_first, after_first}
use Rattle.std.specs.Option.{option_map}

abbrev pub is_equals : ℕ → Bool
is_equals b = b == 61

-- what follows the two hyphens with which the word of an option begins
unfoldable pub after_hyphens : List ℕ → Option (List ℕ)
after_hyphens word = if starts_with (λ a b. a == b) word (codes "--") then Some (drop 2 word) else None

-- the name of an option; it ends at the first equals sign
abbrev pub name_of : List ℕ → Option (List ℕ)
name_of word = option_map (before_first is_equals) (after_hyphens word)

-- what follows the first equals sign, if there is one
unfoldable pub after_equals : List ℕ → Option (List ℕ)
after_equals option = if nat_lt (position_or_len is_equals option) (length option) then Some (after_first is_equals option) else None

-- the text of a value in a word: in that of an option what follows its first equals sign, and else the word itself
abbrev pub text_in : List ℕ → Option (List ℕ) → Option (List ℕ)
text_in word None = Some word
text_in word (Some option) = after_equals option

abbrev pub text_of : List ℕ → Option (List ℕ)
text_of word = text_in word (after_hyphens word)
