-- What is spelt is read.
use Rattle.std.proofs.Common.{◌≡◌, ◌≢◌, ℕ, zero, suc, ◌+◌, ◌-◌, ◌<◌, ◌||◌, true, false, List, [], ◌∷◌, ◌++◌, length}
use Rattle.std.proofs.Common.{map}
use Rattle.std.proofs.Common.{get_or, drop, refl, sym, ap, ap₂, ◌∙◌, append_assoc, arith, inl, inr}
use Rattle.std.specs.List.{slice_split, onto_first, filter, flat_map, prefix_len, position_or_len, AllByRecursion}
use Rattle.std.specs.Str.Lines.{strip_carriage_return}
use Rattle.std.proofs.lemmas.Bool.{ne_eqb, cases_Bool}
use Rattle.std.proofs.lemmas.List.{append-nil}
use Rattle.std.proofs.lemmas.List.Splits.{slice_split-cons_yes, slice_split-cons_no, length-slice_split}
use Rattle.text_lines.specs.Lines.{is_line_feed, whole_lines, lines_of, begins_comment, is_skipped, kept_after, Row}
use Rattle.text_lines.specs.Words.{is_blank, words_of, is_word, after_blanks, after_word}
use Rattle.text_lines.specs.Spelling.{spaced, line_spelt, text_of, IsPlain, IsWord, IsNoComment, IsLine, numbered}
use Rattle.text_lines.proofs.Cut.{kept_take, kept_nil, whole_cons, drop_past, words_blank}

plain_blank : (b : ℕ) → IsPlain b → is_blank b ≡ false
plain_blank b h = ap₂ (λ x y. x || y) (ne_eqb b 32 h.space) (ne_eqb b 9 h.tab)

-- ---- words

split_word : (b : ℕ) (word rest : List ℕ) → is_blank b ≡ true → AllByRecursion IsPlain word
    → slice_split is_blank (word ++ b ∷ rest) ≡ word ∷ slice_split is_blank rest
split_word b [] rest e h = slice_split-cons_yes is_blank b rest e
split_word b (c ∷ word) rest e h = slice_split-cons_no is_blank c (word ++ b ∷ rest) (plain_blank c h.0)
    ∙ ap (onto_first c) (split_word b word rest e h.1)

split_last : (word : List ℕ) → AllByRecursion IsPlain word → slice_split is_blank word ≡ word ∷ []
split_last [] h = refl
split_last (b ∷ word) h = slice_split-cons_no is_blank b word (plain_blank b h.0) ∙ ap (onto_first b) (split_last word h.1)

keep_word : (word : List ℕ) (words : List (List ℕ)) → 0 < length word → filter is_word (word ∷ words) ≡ word ∷ filter is_word words
keep_word [] words h = absurd (omega arith)
keep_word (b ∷ word) words h = refl

-- a word, a blank and what stands after it
pub words_of_word : (b : ℕ) (word rest : List ℕ) → is_blank b ≡ true → IsWord word → words_of (word ++ b ∷ rest) ≡ word ∷ words_of rest
unfolding words_of
words_of_word b word rest e h = ap (filter is_word) (split_word b word rest e h.plain) ∙ keep_word word (slice_split is_blank rest) h.some

-- a word alone
pub words_of_last : (word : List ℕ) → IsWord word → words_of word ≡ word ∷ []
unfolding words_of
words_of_last word h = ap (filter is_word) (split_last word h.plain) ∙ keep_word word [] h.some

words_none : words_of [] ≡ []
unfolding words_of
words_none = refl

pub words_of_line : (words : List (List ℕ)) → AllByRecursion IsWord words → words_of (line_spelt words) ≡ words
words_of_line [] h = words_none
words_of_line (word ∷ []) h = ap words_of (append-nil word) ∙ words_of_last word h.0
words_of_line (word ∷ next ∷ words) h = words_of_word 32 word (next ++ flat_map spaced words) refl h.0
    ∙ ap (λ (ws : List (List ℕ)). word ∷ ws) (words_of_line (next ∷ words) h.1)

length_plain : (b : ℕ) (word rest : List ℕ) → is_blank b ≡ true → AllByRecursion IsPlain word
    → position_or_len is_blank (word ++ b ∷ rest) ≡ length word
length_plain b [] rest e h = rw e refl
length_plain b (c ∷ word) rest e h =
    let k : position_or_len is_blank (c ∷ (word ++ b ∷ rest)) ≡ 1 + position_or_len is_blank (word ++ b ∷ rest) = rw (plain_blank c h.0) refl in
    k ∙ ap (λ n. 1 + n) (length_plain b word rest e h.1) ∙ omega arith

no_blanks : (word rest : List ℕ) → IsWord word → after_blanks (word ++ rest) ≡ word ++ rest
unfolding after_blanks
no_blanks [] rest h = absurd (omega (arith, h.some))
no_blanks (b ∷ word) rest h = let k : prefix_len is_blank (b ∷ (word ++ rest)) ≡ 0 =
    rw (plain_blank b h.plain.0) refl in ap (λ n. drop n (b ∷ (word ++ rest))) k

drop_word : (word rest : List ℕ) → drop (length word) (word ++ rest) ≡ rest
drop_word [] rest = refl
drop_word (b ∷ word) rest = drop_word word rest

-- what stands after a word begins with the blank
pub behind_spelt : (b : ℕ) (word rest : List ℕ) → is_blank b ≡ true → IsWord word → after_word (word ++ b ∷ rest) ≡ b ∷ rest
unfolding after_word
behind_spelt b word rest e h =
    ap (λ (line : List ℕ). drop (position_or_len is_blank line) line) (no_blanks word (b ∷ rest) h)
    ∙ ap (λ n. drop n (word ++ b ∷ rest)) (length_plain b word rest e h.plain) ∙ drop_word word (b ∷ rest)

-- a blank in front changes nothing
after_blank : (b : ℕ) (rest : List ℕ) → is_blank b ≡ true → after_blanks (b ∷ rest) ≡ after_blanks rest
unfolding after_blanks
after_blank b rest e = rw e (drop_past (prefix_len is_blank rest) b rest)

pub behind_blank : (b : ℕ) (rest : List ℕ) → is_blank b ≡ true → after_word (b ∷ rest) ≡ after_word rest
unfolding after_word
behind_blank b rest e = ap (λ (line : List ℕ). drop (position_or_len is_blank line) line) (after_blank b rest e)

-- nor does one at the end, which has an empty part after it
onto_append : (c : ℕ) (parts more : List (List ℕ)) → 0 < length parts → onto_first c (parts ++ more) ≡ onto_first c parts ++ more
onto_append c [] more h = absurd (omega (arith, h))
onto_append c (part ∷ parts) more h = refl

split_end : (b : ℕ) (line : List ℕ) → is_blank b ≡ true → slice_split is_blank (line ++ b ∷ []) ≡ slice_split is_blank line ++ [] ∷ []
split_end b [] e = slice_split-cons_yes is_blank b [] e
split_end b (c ∷ line) e =
    elim (cases_Bool (is_blank c)) [
      | inl k ↦ slice_split-cons_yes is_blank c (line ++ b ∷ []) k ∙ ap (λ (parts : List (List ℕ)). [] ∷ parts) (split_end b line e)
          ∙ ap (λ (parts : List (List ℕ)). parts ++ [] ∷ []) (sym (slice_split-cons_yes is_blank c line k))
      | inr k ↦ slice_split-cons_no is_blank c (line ++ b ∷ []) k ∙ ap (onto_first c) (split_end b line e)
          ∙ onto_append c (slice_split is_blank line) ([] ∷ []) (omega (arith, length-slice_split is_blank line))
          ∙ ap (λ (parts : List (List ℕ)). parts ++ [] ∷ []) (sym (slice_split-cons_no is_blank c line k))
    ]

no_last_word : (parts : List (List ℕ)) → filter is_word (parts ++ [] ∷ []) ≡ filter is_word parts
no_last_word [] = refl
no_last_word ([] ∷ parts) = no_last_word parts
no_last_word ((c ∷ word) ∷ parts) = ap (λ (words : List (List ℕ)). (c ∷ word) ∷ words) (no_last_word parts)

pub words_before_blank : (b : ℕ) (line : List ℕ) → is_blank b ≡ true → words_of (line ++ b ∷ []) ≡ words_of line
unfolding words_of
words_before_blank b line e = ap (filter is_word) (split_end b line e) ∙ no_last_word (slice_split is_blank line)

-- ---- lines

-- neither a line feed nor a carriage return
record InLine (b : ℕ) : Type 0 where
  line_feed : b ≢ 10
  carriage_return : b ≢ 13

in_word : (word : List ℕ) → AllByRecursion IsPlain word → AllByRecursion InLine word
in_word [] h = tt
in_word (b ∷ word) h = (record { line_feed = h.0.line_feed; carriage_return = h.0.carriage_return }, in_word word h.1)

in_append : (xs ys : List ℕ) → AllByRecursion InLine xs → AllByRecursion InLine ys → AllByRecursion InLine (xs ++ ys)
in_append [] ys h k = k
in_append (x ∷ xs) ys h k = (h.0, in_append xs ys h.1 k)

in_spaced : (words : List (List ℕ)) → AllByRecursion IsWord words → AllByRecursion InLine (flat_map spaced words)
in_spaced [] h = tt
in_spaced (word ∷ words) h =
    (record { line_feed = λ e. cc; carriage_return = λ e. cc }, in_append word (flat_map spaced words) (in_word word h.0.plain) (in_spaced words h.1))

in_line : (words : List (List ℕ)) → AllByRecursion IsWord words → AllByRecursion InLine (line_spelt words)
in_line [] h = tt
in_line (word ∷ words) h = in_append word (flat_map spaced words) (in_word word h.0.plain) (in_spaced words h.1)

split_line : (line rest : List ℕ) → AllByRecursion InLine line → slice_split is_line_feed (line ++ 10 ∷ rest) ≡ line ∷ slice_split is_line_feed rest
split_line [] rest h = refl
split_line (b ∷ line) rest h = slice_split-cons_no is_line_feed b (line ++ 10 ∷ rest) (ne_eqb b 10 h.0.line_feed)
    ∙ ap (onto_first b) (split_line line rest h.1)

byte_at : (line : List ℕ) (k : ℕ) → AllByRecursion InLine line → get_or line k 0 ≢ 13
byte_at [] k h = λ e. cc
byte_at (b ∷ line) zero h = h.0.carriage_return
byte_at (b ∷ line) (suc k) h = byte_at line k h.1

strip_none : (line : List ℕ) → AllByRecursion InLine line → strip_carriage_return line ≡ line
strip_none line h = rw (ne_eqb (get_or line (length line - 1) 0) 13 (byte_at line (length line - 1) h)) refl

lines_of_line : (line rest : List ℕ) → AllByRecursion InLine line → lines_of (line ++ 10 ∷ rest) ≡ line ∷ lines_of rest
unfolding lines_of
lines_of_line line rest h =
    let w : whole_lines (slice_split is_line_feed (line ++ 10 ∷ rest)) ≡ line ∷ whole_lines (slice_split is_line_feed rest) =
    ap whole_lines (split_line line rest h) ∙ whole_cons line (slice_split is_line_feed rest) (omega (arith, length-slice_split is_line_feed rest)) in
    ap (map strip_carriage_return) w ∙ ap (λ (x : List ℕ). x ∷ lines_of rest) (strip_none line h)

kept_word : (word : List ℕ) (words : List (List ℕ)) → IsNoComment word → IsWord word → is_skipped (line_spelt (word ∷ words)) ≡ false
unfolding is_skipped
kept_word [] words h w = absurd (omega (arith, w.some))
kept_word (b ∷ bs) words h w = ap begins_comment (no_blanks (b ∷ bs) (flat_map spaced words) w) ∙ ne_eqb b 35 h

kept_line : (words : List (List ℕ)) → IsLine words → is_skipped (line_spelt words) ≡ false
kept_line [] h = absurd h
kept_line (word ∷ words) h = kept_word word words h.0 h.1

are_words : (words : List (List ℕ)) → IsLine words → AllByRecursion IsWord words
are_words [] h = absurd h
are_words (word ∷ words) h = (h.1, h.2)

text_cons : (line : List (List ℕ)) (lines : List (List (List ℕ))) → text_of (line ∷ lines) ≡ line_spelt line ++ 10 ∷ text_of lines
unfolding text_of
text_cons line lines = append_assoc (line_spelt line) (10 ∷ []) (flat_map (λ words. line_spelt words ++ 10 ∷ []) lines)

lines_of_cons : (line : List (List ℕ)) (lines : List (List (List ℕ))) → IsLine line
    → lines_of (text_of (line ∷ lines)) ≡ line_spelt line ∷ lines_of (text_of lines)
lines_of_cons line lines h = ap lines_of (text_cons line lines) ∙ lines_of_line (line_spelt line) (text_of lines) (in_line line (are_words line h))

lines_of_none : lines_of (text_of []) ≡ []
unfolding lines_of text_of
lines_of_none = refl

-- the lines of a spelt text
lines_of_text : (lines : List (List (List ℕ))) → AllByRecursion IsLine lines → lines_of (text_of lines) ≡ map line_spelt lines
lines_of_text [] h = lines_of_none
lines_of_text (line ∷ lines) h = lines_of_cons line lines h.0 ∙ ap (λ (ls : List (List ℕ)). line_spelt line ∷ ls) (lines_of_text lines h.1)

kept_text : (n : ℕ) (lines : List (List (List ℕ))) → AllByRecursion IsLine lines → kept_after n (map line_spelt lines) ≡ numbered n lines
kept_text n [] h = kept_nil n
kept_text n (line ∷ lines) h = kept_take n (line_spelt line) (map line_spelt lines) (kept_line line h.0)
    ∙ ap (λ (rs : List Row). record { number = n + 1; text = line_spelt line } ∷ rs) (kept_text (n + 1) lines h.1)

pub rows_of_text : (lines : List (List (List ℕ))) → AllByRecursion IsLine lines → kept_after 0 (lines_of (text_of lines)) ≡ numbered 0 lines
rows_of_text lines h = ap (kept_after 0) (lines_of_text lines h) ∙ kept_text 0 lines h

-- where words end
pub ruleset word_ends = (words_of_word, behind_spelt, words_blank, behind_blank, words_before_blank)
