-- A text in lines.
use Rattle.std.specs.Prelude.{ℕ, ◌+◌, Bool, true, List, [], ◌∷◌, map, length, ◌==◌, if◌then◌else◌}
use Rattle.std.specs.List.{slice_split}
use Rattle.std.specs.Str.Lines.{strip_carriage_return}
use Rattle.text_lines.specs.Words.{after_blanks}

-- whether a byte ends a line
abbrev pub is_line_feed : ℕ → Bool
is_line_feed b = b == 10

-- all parts but an empty last one: what follows the last line feed is a line only if it has a byte
abbrev pub whole_lines : List (List ℕ) → List (List ℕ)
whole_lines [] = []
whole_lines ([] ∷ []) = []
whole_lines ((b ∷ x) ∷ []) = (b ∷ x) ∷ []
whole_lines (x ∷ y ∷ more) = x ∷ whole_lines (y ∷ more)

-- the lines of a text, each without its line feed, and without one carriage return before that or at the very end
unfoldable pub lines_of : List ℕ → List (List ℕ)
lines_of bytes = map strip_carriage_return (whole_lines (slice_split is_line_feed bytes))

-- whether a line that doesn't begin with a blank has nothing, or '#' first
abbrev pub begins_comment : List ℕ → Bool
begins_comment [] = true
begins_comment (b ∷ bs) = b == 35

-- whether a line consists of blanks alone, or its first other byte is '#'
unfoldable pub is_skipped : List ℕ → Bool
is_skipped line = begins_comment (after_blanks line)

-- a line that isn't skipped, and its number among all lines, from 1
pub record Row : Type 0 where
  pub number : ℕ
  pub text : List ℕ

-- the lines that aren't skipped, where n others are before the first
unfoldable pub kept_after : ℕ → List (List ℕ) → List Row
kept_after n [] = []
kept_after n (line ∷ lines) = if is_skipped line then kept_after (n + 1) lines else record { number = n + 1; text = line } ∷ kept_after (n + 1) lines

-- the lines of a text that aren't skipped
abbrev pub rows_of : List ℕ → List Row
rows_of bytes = kept_after 0 (lines_of bytes)

-- the number of the line that would follow the last one
abbrev pub end_of : List ℕ → ℕ
end_of bytes = length (lines_of bytes) + 1

-- the texts of lines
abbrev pub texts_in : List Row → List (List ℕ)
texts_in rows = map (λ row. row.text) rows

-- ---- a text that is read

-- the part of a text that is still to come, and how many lines are before it
pub record Remainder : Type 0 where
  pub before : ℕ
  pub text : List ℕ

-- the lines of a remainder that aren't skipped
unfoldable pub rows_left : Remainder → List Row
rows_left r = kept_after r.before (lines_of r.text)

-- the number of the line that would follow the last one
unfoldable pub end_at : Remainder → ℕ
end_at r = r.before + length (lines_of r.text) + 1
