-- What lists of words ask for, or else the number, from 1, of the first word at which their reading from left to right fails.
use Rattle.std.specs.Prelude.{ℕ, ◌+◌, Bool, false, List, [], ◌∷◌, length, drop, codes, Option, Some, None, Result, Ok, Err, ok_or}
use Rattle.std.specs.Prelude.{IsTrue, if◌then◌else◌}
use Rattle.std.specs.Str.{bytes_eq}
use Rattle.field_core.specs.Answers.{◌>>=◌}
use Rattle.command_words.specs.Asked.{Asked, StudyAsked}
use Rattle.command_words.specs.Given.{GivenContent, nothing, not_given, with_text, asked_of, study_of, forbidden_word}
use Rattle.command_words.specs.Table.{verb_named, argument_of}
use Rattle.command_words.specs.WordParts.{name_of, text_of}
use Rattle.command_words.specs.declared.argument.Argument.{Argument}
use Rattle.command_words.specs.declared.verb.Verb.{Verb}
use Rattle.command_words.specs.declared.verb.Verb.TheVariants.{Study}

-- ---- the first word

-- the command that is first
abbrev pub first_verb : List (List ℕ) → Option Verb
first_verb [] = None
first_verb (word ∷ words) = verb_named word

-- the first word is `study`
abbrev pub asks_study : List (List ℕ) → Bool
asks_study [] = false
asks_study (word ∷ words) = bytes_eq word (codes "study")

abbrev pub AsksStudy : List (List ℕ) → Type 0
AsksStudy words = IsTrue (asks_study words)

-- ---- the words after it

-- what a word gives: the option of its name, or what the command takes without a name; nothing if there is none, or it is given already
abbrev pub argument_in : Verb → GivenContent → List ℕ → Option Argument
argument_in verb given word = not_given given (argument_of verb (name_of word))

-- what comes of a text, or else of none
abbrev pub on_text : {A : Type 0} → Option (List ℕ) → (List ℕ → A) → A → A
on_text (Some text) next other = next text
on_text None next other = other

-- What is given with the words from a place on, which counts from 0, after what was given before. An argument is given in one word, `--name=text` or
-- `text`, or in two, `--name` and `text`.
unfoldable mutual
  -- arguments with their values
  pub pieces_in : Verb → ℕ → GivenContent → List (List ℕ) → Result GivenContent ℕ
  pieces_in verb at given [] = Ok given
  pieces_in verb at given (word ∷ words) = do
    argument ← ok_or (argument_in verb given word) (at + 1)
    on_text (text_of word) (λ text. do
      all ← ok_or (with_text verb at argument text given) (at + 1)
      pieces_in verb (at + 1) all words) (value_in verb at given argument words)

  -- the value of an argument whose name is the word at this place, and then further arguments
  pub value_in : Verb → ℕ → GivenContent → Argument → List (List ℕ) → Result GivenContent ℕ
  value_in verb at given argument [] = Err (at + 2)
  value_in verb at given argument (text ∷ words) = do
    all ← ok_or (with_text verb at argument text given) (at + 2)
    pieces_in verb (at + 2) all words

-- what is given after the first word
abbrev pub arguments_in : Verb → List (List ℕ) → Result GivenContent ℕ
arguments_in verb words = pieces_in verb 1 nothing (drop 1 words)

-- ---- all words

-- what the words after `study` ask for; something that is missing is after the last word
abbrev pub study_after : List (List ℕ) → Result StudyAsked ℕ
study_after words = do
  given ← arguments_in Study words
  ok_or (study_of given) (length words + 1)

-- what words ask a study for
unfoldable pub study_in : List (List ℕ) → Result StudyAsked ℕ
study_in words = if asks_study words then study_after words else Err 1

-- this, unless a word is forbidden
abbrev pub unless : {A : Type 0} → Option ℕ → A → Result A ℕ
unless None x = Ok x
unless (Some word) x = Err word

-- what words ask for that keeps no looks
unfoldable pub asked_in : List (List ℕ) → Result Asked ℕ
asked_in words = do
  verb ← ok_or (first_verb words) 1
  given ← arguments_in verb words
  asked ← ok_or (asked_of verb given) (length words + 1)
  unless (forbidden_word given) asked
