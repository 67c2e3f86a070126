-- Where texts are cut into lines and words.
use Rattle.std.proofs.Common.{◌≡◌, ℕ, suc, ◌+◌, ◌<◌, ◌≤◌, ◌⊎◌, Bool, true, false, not, List, [], ◌∷◌, length, map, take, drop}
use Rattle.std.proofs.Common.{refl, sym, ap, ap₂, ◌∙◌, arith, inl, inr, get_or}
use Rattle.std.specs.List.{slice_split, onto_first, filter, prefix_len, position_or_len, before_first, after_first}
use Rattle.std.specs.Str.Lines.{strip_carriage_return}
use Rattle.std.proofs.lemmas.Bool.{cases_Bool, cases_lt}
use Rattle.std.proofs.lemmas.List.{take_all, drop_all, drop_more, length-take, nil_from_length}
use Rattle.std.proofs.lemmas.List.Sums.{prefix_len-le-length, passes_at_first}
use Rattle.std.proofs.lemmas.List.Splits.{slice_split_first, slice_split-cons_yes, slice_split-cons_no, length-slice_split}
use Rattle.text_lines.specs.Lines.{is_line_feed, whole_lines, lines_of, is_skipped, kept_after}
use Rattle.text_lines.specs.Words.{is_blank, words_of, is_word, after_blanks}

-- where no element passes there is one part
split_none : (p : ℕ → Bool) (xs : List ℕ) → length xs ≤ position_or_len p xs → slice_split p xs ≡ xs ∷ []
split_none p [] h = refl
split_none p (x ∷ xs) h =
    elim (cases_Bool (p x)) [
      | inl e ↦ let k : position_or_len p (x ∷ xs) ≡ 0 = rw e refl in absurd (omega arith)
      | inr e ↦ let k : position_or_len p (x ∷ xs) ≡ 1 + position_or_len p xs = rw e refl in
          slice_split-cons_no p x xs e ∙ ap (onto_first x) (split_none p xs (omega arith))
    ]

pub whole_cons : (x : List ℕ) (parts : List (List ℕ)) → 0 < length parts → whole_lines (x ∷ parts) ≡ x ∷ whole_lines parts
whole_cons x [] h = absurd (omega arith)
whole_cons x (y ∷ parts) h = refl

whole_one : (x : List ℕ) → 0 < length x → whole_lines (x ∷ []) ≡ x ∷ []
whole_one [] h = absurd (omega arith)
whole_one (b ∷ x) h = refl

pub lines_nil : lines_of [] ≡ []
unfolding lines_of
lines_nil = refl

-- the first line, and what is left after its line feed
pub lines_cut : (bytes : List ℕ) → 0 < length bytes
    → lines_of bytes ≡ strip_carriage_return (before_first is_line_feed bytes) ∷ lines_of (after_first is_line_feed bytes)
unfolding lines_of
lines_cut bytes h =
    elim (cases_lt (position_or_len is_line_feed bytes) (length bytes)) [
      | inl lt ↦
          let e : slice_split is_line_feed bytes ≡ before_first is_line_feed bytes ∷ slice_split is_line_feed (after_first is_line_feed bytes) =
          slice_split_first is_line_feed bytes 0 lt in
          let w : whole_lines (slice_split is_line_feed bytes) ≡ before_first is_line_feed bytes ∷ whole_lines
          (slice_split is_line_feed (after_first is_line_feed bytes)) =
          ap whole_lines e ∙ whole_cons (before_first is_line_feed bytes) (slice_split is_line_feed (after_first is_line_feed bytes))
          (omega (arith, length-slice_split is_line_feed (after_first is_line_feed bytes))) in
          ap (map strip_carriage_return) w
      | inr le ↦
          let front : before_first is_line_feed bytes ≡ bytes = take_all (position_or_len is_line_feed bytes) bytes le in
          let rest : after_first is_line_feed bytes ≡ [] = drop_all (position_or_len is_line_feed bytes + 1) bytes (omega arith) in
          let e : whole_lines (slice_split is_line_feed bytes) ≡ bytes ∷ [] = ap whole_lines (split_none is_line_feed bytes le) ∙ whole_one bytes h in
          ap (map strip_carriage_return) e ∙ ap₂ (λ (x : List ℕ) (y : List ℕ). strip_carriage_return x ∷ lines_of y) (sym front) (sym rest)
    ]

pub words_nil : words_of [] ≡ []
unfolding words_of
words_nil = refl

pub words_blank : (b : ℕ) (line : List ℕ) → is_blank b ≡ true → words_of (b ∷ line) ≡ words_of line
unfolding words_of
words_blank b line e = ap (filter is_word) (slice_split-cons_yes is_blank b line e)

pub drop_past : (n b : ℕ) (line : List ℕ) → drop (1 + n) (b ∷ line) ≡ drop n line
drop_past n b line = let e : 1 + n ≡ suc n = omega arith in ap (λ k. drop k (b ∷ line)) e

pub words_after_blanks : (line : List ℕ) → words_of line ≡ words_of (after_blanks line)
unfolding after_blanks
words_after_blanks [] = refl
words_after_blanks (b ∷ line) =
    elim (cases_Bool (is_blank b)) [
      | inl e ↦ let k : drop (prefix_len is_blank (b ∷ line)) (b ∷ line) ≡ drop (prefix_len is_blank line) line =
          rw e (drop_past (prefix_len is_blank line) b line) in
          words_blank b line e ∙ words_after_blanks line ∙ sym (ap words_of k)
      | inr e ↦ let k : drop (prefix_len is_blank (b ∷ line)) (b ∷ line) ≡ b ∷ line = rw e refl in sym (ap words_of k)
    ]

filter_word : (w : List ℕ) (parts : List (List ℕ)) → 0 < length w → filter is_word (w ∷ parts) ≡ w ∷ filter is_word parts
filter_word [] parts h = absurd (omega arith)
filter_word (b ∷ w) parts h = refl

-- the first word, and what is left from its end on
pub words_cut : (line : List ℕ) → 0 < position_or_len is_blank line
    → words_of line ≡ take (position_or_len is_blank line) line ∷ words_of (drop (position_or_len is_blank line) line)
unfolding words_of
words_cut line h =
    let n = position_or_len is_blank line in
    let within : n ≤ length line = prefix_len-le-length (λ x. not (is_blank x)) line in
    let some : 0 < length (take n line) = omega (arith, length-take n line) in
    elim (cases_lt n (length line)) [
      | inl lt ↦
          let at : drop n line ≡ get_or line n 0 ∷ drop (n + 1) line = drop_more line n 0 lt in
          let e : filter is_word (slice_split is_blank line) ≡ take n line ∷ words_of (drop (n + 1) line) =
          ap (filter is_word) (slice_split_first is_blank line 0 lt) ∙ filter_word (take n line) (slice_split is_blank (drop (n + 1) line)) some in
          e ∙ ap (λ (ws : List (List ℕ)). take n line ∷ ws)
          (sym (ap words_of at ∙ words_blank (get_or line n 0) (drop (n + 1) line) (passes_at_first is_blank line 0 lt)))
      | inr le ↦
          let front : take n line ≡ line = take_all n line le in
          let rest : drop n line ≡ [] = drop_all n line le in
          ap (filter is_word) (split_none is_blank line le) ∙ filter_word line [] (omega arith)
          ∙ ap₂ (λ (x : List ℕ) (y : List ℕ). x ∷ words_of y) (sym front) (sym rest)
    ]

-- what comes after blanks begins with a word, or is nothing
pub after_blanks_is : (line : List ℕ) → (after_blanks line ≡ []) ⊎ (0 < position_or_len is_blank (after_blanks line))
unfolding after_blanks
after_blanks_is [] = inl refl
after_blanks_is (b ∷ line) =
    elim (cases_Bool (is_blank b)) [
      | inl e ↦ let k : drop (prefix_len is_blank (b ∷ line)) (b ∷ line) ≡ drop (prefix_len is_blank line) line =
          rw e (drop_past (prefix_len is_blank line) b line) in
          rw k (after_blanks_is line)
      | inr e ↦ let k : drop (prefix_len is_blank (b ∷ line)) (b ∷ line) ≡ b ∷ line = rw e refl in
          let n : position_or_len is_blank (b ∷ line) ≡ 1 + position_or_len is_blank line = rw e refl in
          inr (rw (k, n) (omega arith))
    ]

pub kept_skip : (n : ℕ) (line : List ℕ) (lines : List (List ℕ)) → is_skipped line ≡ true
    → kept_after n (line ∷ lines) ≡ kept_after (n + 1) lines
unfolding kept_after
kept_skip n line lines e = rw e refl

pub kept_take : (n : ℕ) (line : List ℕ) (lines : List (List ℕ)) → is_skipped line ≡ false
    → kept_after n (line ∷ lines) ≡ record { number = n + 1; text = line } ∷ kept_after (n + 1) lines
unfolding kept_after
kept_take n line lines e = rw e refl

pub kept_nil : (n : ℕ) → kept_after n [] ≡ []
unfolding kept_after
kept_nil n = refl

pub lines_end : (bytes : List ℕ) → length bytes ≡ 0 → lines_of bytes ≡ []
lines_end bytes h = rw (nil_from_length bytes h) lines_nil

-- where no word stands after the blanks, none is left
no_word : (line word : List ℕ) → word ≡ take (position_or_len is_blank (after_blanks line)) (after_blanks line) → length word ≡ 0
    → after_blanks line ≡ []
no_word line word e h =
    elim (after_blanks_is line) [
      | inl nil ↦ nil
      | inr some ↦ absurd (omega (
        arith,
        ap length e,
        length-take (position_or_len is_blank (after_blanks line)) (after_blanks line),
        prefix_len-le-length (λ x. not (is_blank x)) (after_blanks line),
      ))
    ]

pub words_end : (line word : List ℕ) → word ≡ take (position_or_len is_blank (after_blanks line)) (after_blanks line) → length word ≡ 0
    → words_of line ≡ []
words_end line word e h = words_after_blanks line ∙ ap words_of (no_word line word e h) ∙ words_nil

pub words_ended : (line word after : List ℕ) → word ≡ take (position_or_len is_blank (after_blanks line)) (after_blanks line)
    → after ≡ drop (position_or_len is_blank (after_blanks line)) (after_blanks line) → length word ≡ 0 → words_of after ≡ []
words_ended line word after e f h = ap words_of (f ∙ ap (λ (x : List ℕ). drop (position_or_len is_blank x) x) (no_word line word e h)) ∙ words_nil

pub words_next : (line word after : List ℕ) → word ≡ take (position_or_len is_blank (after_blanks line)) (after_blanks line)
    → after ≡ drop (position_or_len is_blank (after_blanks line)) (after_blanks line) → 0 < length word → words_of line ≡ word ∷ words_of after
words_next line word after e f h =
    words_after_blanks line ∙ words_cut (after_blanks line)
    (omega (arith, ap length e, length-take (position_or_len is_blank (after_blanks line)) (after_blanks line)))
    ∙ ap₂ (λ (x : List ℕ) (y : List ℕ). x ∷ words_of y) (sym e) (sym f)

-- the rows of a line, and the words of a line that is cut at its first word
pub ruleset kept_rows = (kept_skip, kept_take, kept_nil)

pub ruleset next_words = (words_end, words_ended, words_next)
