-- Words of lines, and lines that name them.
use Rattle.std.proofs.Common.{◌≡◌, ◌<◌, ℕ, inl, inr, false, List, [], ◌∷◌, ◌++◌, length, refl, sym, ap, subst, ◌∙◌, arith}
use Rattle.std.specs.Prelude.{codes}
use Rattle.std.specs.List.{AllByRecursion, slice_split, onto_first, filter}
use Rattle.std.proofs.lemmas.Bool.{cases_Bool}
use Rattle.std.proofs.lemmas.List.Splits.{slice_split-cons_no, slice_split-cons_yes}
use Rattle.text_lines.specs.Words.{words_of, is_blank, is_word}
use Rattle.edge_text.specs.Grammar.{Words}

-- ---- words

abbrev pub HasNoBlank : List ℕ → Type 0
HasNoBlank word = AllByRecursion (λ b. is_blank b ≡ false) word

-- one byte or more, and no blank
pub record IsNameWord (word : List ℕ) : Type 0 where
  pub some : 0 < length word
  pub plain : HasNoBlank word

first_piece : (b : ℕ) (pieces : Words) → is_blank b ≡ false → AllByRecursion HasNoBlank pieces → AllByRecursion HasNoBlank (onto_first b pieces)
first_piece b [] e h = ((e, tt), tt)
first_piece b (piece ∷ pieces) e h = ((e, h.0), h.1)

pieces_plain : (line : List ℕ) → AllByRecursion HasNoBlank (slice_split is_blank line)
pieces_plain [] = (tt, tt)
pieces_plain (b ∷ line) =
    elim (cases_Bool (is_blank b)) [
      | inl t ↦ subst (AllByRecursion HasNoBlank) (sym (slice_split-cons_yes is_blank b line t)) (tt, pieces_plain line)
      | inr f ↦ subst (AllByRecursion HasNoBlank) (sym (slice_split-cons_no is_blank b line f))
          (first_piece b (slice_split is_blank line) f (pieces_plain line))
    ]

kept : (pieces : Words) → AllByRecursion HasNoBlank pieces → AllByRecursion IsNameWord (filter is_word pieces)
kept [] h = tt
kept ([] ∷ pieces) h = kept pieces h.1
kept ((b ∷ piece) ∷ pieces) h = (record { some = omega arith; plain = h.0 }, kept pieces h.1)

pub words_are : (line : List ℕ) → AllByRecursion IsNameWord (words_of line)
unfolding words_of
words_are line = kept (slice_split is_blank line) (pieces_plain line)

split_word : (word rest : List ℕ) → HasNoBlank word → slice_split is_blank (word ++ 32 ∷ rest) ≡ word ∷ slice_split is_blank rest
split_word [] rest h = refl
split_word (b ∷ word) rest h = slice_split-cons_no is_blank b (word ++ 32 ∷ rest) h.0 ∙ ap (onto_first b) (split_word word rest h.1)

keep_word : (word : List ℕ) (words : Words) → 0 < length word → filter is_word (word ∷ words) ≡ word ∷ filter is_word words
keep_word [] words h = absurd (omega arith)
keep_word (b ∷ word) words h = refl

pub word_first : (word rest : List ℕ) → IsNameWord word → words_of (word ++ 32 ∷ rest) ≡ word ∷ words_of rest
unfolding words_of
word_first word rest h = ap (filter is_word) (split_word word rest h.plain) ∙ keep_word word (slice_split is_blank rest) h.some

zero_word : words_of (codes "0") ≡ codes "0" ∷ []
unfolding words_of
zero_word = refl

-- a line of a fraction 0
pub zero_line : List ℕ → List ℕ
zero_line name = codes "spend" ++ 32 ∷ (name ++ 32 ∷ codes "0")

spend_word : IsNameWord (codes "spend")
spend_word = record { some = omega arith; plain = (refl, (refl, (refl, (refl, (refl, tt))))) }

pub zero_line_words : (name : List ℕ) → IsNameWord name → words_of (zero_line name) ≡ codes "spend" ∷ name ∷ codes "0" ∷ []
unfolding zero_line
zero_line_words name h =
    word_first (codes "spend") (name ++ 32 ∷ codes "0") spend_word
    ∙ ap (λ (ws : Words). codes "spend" ∷ ws) (word_first name (codes "0") h)
    ∙ ap (λ (ws : Words). codes "spend" ∷ name ∷ ws) zero_word
