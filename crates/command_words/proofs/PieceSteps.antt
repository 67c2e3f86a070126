-- Words, piece by piece.
use Rattle.std.proofs.Common.{◌≡◌, ◌+◌, ◌∙◌, ap, ap₂, refl, sym, arith, ℕ, List, [], ◌∷◌, Option, Some, None, Result, Ok, Err, map, length, String}
use Rattle.std.proofs.Common.{Global, Bor, subst}
use Rattle.std.specs.Option.{option_map}
use Rattle.std.specs.Prelude.{string_bytes, ok_or}
use Rattle.field_core.specs.Answers.{and_then}
use Rattle.command_words.specs.Given.{GivenContent, not_given, with_text}
use Rattle.command_words.specs.Table.{argument_of}
use Rattle.command_words.specs.WordParts.{name_of, text_of}
use Rattle.command_words.specs.Words.{on_text, pieces_in, value_in}
use Rattle.command_words.specs.declared.argument.Argument.{Argument}
use Rattle.command_words.specs.declared.verb.Verb.{Verb}

-- the words of the program, of which one is first
pub first_is : (words : List (String Global)) (x : String Global) (more : List (String Global)) (word : List ℕ) → words ≡ x ∷ more → word ≡ string_bytes x
    → map string_bytes words ≡ word ∷ map string_bytes more
first_is words x more word cut is = ap (map string_bytes) cut ∙ ap (λ w. w ∷ map string_bytes more) (sym is)

none_is : (words : List (String Global)) → length words ≡ 0 → words ≡ []
none_is [] e = refl
none_is (x ∷ xs) e = absurd (omega (arith, e))

module _ (verb : Verb) (at : ℕ) (g : GivenContent) where
  -- what words give after a value, if there is one
  abbrev pub given_by : ℕ → List (List ℕ) → Option GivenContent → Result GivenContent ℕ
  given_by n words all = and_then (ok_or all (at + n)) (λ x. pieces_in verb (at + n) x words)

  -- what words give after the parts of the first one
  abbrev pub by_parts : List (List ℕ) → Option Argument → Option (List ℕ) → Result GivenContent ℕ
  by_parts words argument text =
      and_then (ok_or argument (at + 1)) (λ a. on_text text (λ t. given_by 1 words (with_text verb at a t g)) (value_in verb at g a words))

  pub no_words : Ok g ≡ pieces_in verb at g []
  unfolding pieces_in
  no_words = refl

  -- a piece of one word or two, by the parts of its first
  pub pieces_by : (word : List ℕ) (words : List (List ℕ)) (argument : Option Argument) (name text : Option (List ℕ)) → name ≡ name_of word
      → text ≡ text_of word → argument ≡ not_given g (argument_of verb name) → by_parts words argument text ≡ pieces_in verb at g (word ∷ words)
  unfolding pieces_in
  pieces_by word words argument name text n t a = ap₂ (by_parts words) (a ∙ ap (λ x. not_given g (argument_of verb x)) n) t

  -- the value of a piece of two words
  pub value_by : (argument : Argument) (text : List ℕ) (words : List (List ℕ))
      → given_by 2 words (with_text verb at argument text g) ≡ value_in verb at g argument (text ∷ words)
  unfolding pieces_in
  value_by argument text words = refl

  pub no_value : (argument : Argument) → Err (at + 2) ≡ value_in verb at g argument []
  unfolding pieces_in
  no_value argument = refl

-- ---- the words of the program

-- the text of a value, if there is one
pub known_text : (o : Option (Bor (List ℕ))) (x : Bor (List ℕ)) (t : Option (List ℕ)) → o ≡ Some x → option_map (λ y. y.now) o ≡ t → Some x.now ≡ t
known_text o x t e h = ap (option_map (λ y. y.now)) (sym e) ∙ h

pub no_text : (o : Option (Bor (List ℕ))) (t : Option (List ℕ)) → o ≡ None → option_map (λ y. y.now) o ≡ t → None ≡ t
no_text o t e h = ap (option_map (λ y. y.now)) (sym e) ∙ h

module _ (verb : Verb) (at : ℕ) (g : GivenContent) (words : List (String Global)) where
  pub none_left : (now : GivenContent) → now ≡ g → length words ≡ 0 → Ok now ≡ pieces_in verb at g (map string_bytes words)
  none_left now same e =
      subst (λ x. Ok x ≡ pieces_in verb at g (map string_bytes words)) (sym same)
      (no_words verb at g ∙ ap (λ xs. pieces_in verb at g (map string_bytes xs)) (sym (none_is words e)))

  pub no_value_left : (argument : Argument) → length words ≡ 0 → Err (at + 2) ≡ value_in verb at g argument (map string_bytes words)
  no_value_left argument e = no_value verb at g argument ∙ ap (λ xs. value_in verb at g argument (map string_bytes xs)) (sym (none_is words e))

  module _ (x : String Global) (more : List (String Global)) (word : List ℕ) (cut : words ≡ x ∷ more) (is : word ≡ string_bytes x) where
    pub pieces_at : (argument : Option Argument) (name text : Option (List ℕ)) → name ≡ name_of word → text ≡ text_of word
        → argument ≡ not_given g (argument_of verb name) → by_parts verb at g (map string_bytes more) argument text ≡ pieces_in verb at g (map string_bytes words)
    pieces_at argument name text n t a =
        pieces_by verb at g word (map string_bytes more) argument name text n t a ∙ ap (pieces_in verb at g) (sym (first_is words x more word cut is))

    pub value_at : (argument : Argument) → given_by verb at g 2 (map string_bytes more) (with_text verb at argument word g)
        ≡ value_in verb at g argument (map string_bytes words)
    value_at argument = value_by verb at g argument word (map string_bytes more) ∙ ap (value_in verb at g argument) (sym (first_is words x more word cut is))
