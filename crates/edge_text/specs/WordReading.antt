-- What lines and their words denote, or what is wrong with them.
use Rattle.std.specs.Prelude.{ℕ, nat_le, nat_lt, ◌&&◌, Bool, if◌then◌else◌, List, [], ◌∷◌, map, length, Option, Some, None, Result, Ok, Err}
use Rattle.std.specs.List.{list_all}
use Rattle.std.specs.Str.{bytes_eq}
use Rattle.std.specs.Str.Parse.{digits_value}
use Rattle.field_core.specs.declared.ratio.Ratio.{Ratio}
use Rattle.field_core.specs.Answers.{and_then, mapped, told_as}
use Rattle.case_model.specs.declared.draft_edge.DraftEdge.{DraftEdge}
use Rattle.case_model.specs.declared.draft_stages.Arrival.{Arrival}
use Rattle.case_model.specs.declared.spend_step.SpendStep.{SpendStep}
use Rattle.case_model.specs.Names.{position_of}
use Rattle.text_lines.specs.Words.{words_of, words_after, after_words, only_word, only_three}
use Rattle.fraction.specs.Numerals.{numeral_of}
use Rattle.entries.specs.Entries.{entry_of}
use Rattle.edge_text.specs.declared.fault.LineKind.{LineKind}
use Rattle.edge_text.specs.declared.fault.LineKind.TheVariants.{Unexpected, WordCount, UnknownName, Whole, Number, Expr}
use Rattle.edge_text.specs.Grammar.{Words}

-- the reading of the words after a keyword, if there are some, or else of another line
abbrev pub on_words : {A Kind : Type 0} → Option Words → (Words → Result A Kind) → Result A Kind → Result A Kind
on_words (Some words) f other = f words
on_words None f other = other

-- the reading of the words after this first word, or else of another line
abbrev pub on_keyword : {A Kind : Type 0} → List ℕ → List ℕ → (Words → Result A Kind) → Result A Kind → Result A Kind
on_keyword keyword line f other = on_words (words_after keyword (words_of line)) f other

-- the reading of what was found, or else this fault
abbrev pub found_or : {A B : Type 0} → Option A → LineKind → (A → Result B LineKind) → Result B LineKind
found_or (Some x) kind f = f x
found_or None kind f = Err kind

-- the value of a numeral
abbrev pub numeral : List ℕ → Result Ratio LineKind
numeral word = told_as Number (numeral_of word)

-- one numeral
abbrev pub number : Words → Result Ratio LineKind
number words = found_or (only_word words) WordCount numeral

-- numerals, any number of them
abbrev pub numbers : Words → Result (List Ratio) LineKind
numbers [] = Ok []
numbers (word ∷ words) = and_then (numeral word) (λ x. and_then (numbers words) (λ xs. Ok (x ∷ xs)))

-- numerals, at least one
abbrev pub some_numbers : Words → Result (List Ratio) LineKind
some_numbers [] = Err WordCount
some_numbers (word ∷ words) = numbers (word ∷ words)

-- the p-values of numerals, at least one
abbrev pub given : Words → Result (List (Option Ratio)) LineKind
given words = mapped (map Some) (some_numbers words)

-- the entry of an expression
abbrev pub entry : List ℕ → Result (List Ratio) LineKind
entry text = told_as Expr (entry_of text)

-- the first two words, if one more follows
abbrev pub ends_of : Words → Option (List ℕ × List ℕ)
ends_of [] = None
ends_of (from ∷ []) = None
ends_of (from ∷ to ∷ []) = None
ends_of (from ∷ to ∷ further ∷ others) = Some (from, to)

-- the names of two hypotheses, and an expression: all of the line after the second name
abbrev pub edge : List (List ℕ) → List ℕ → Words → Result DraftEdge LineKind
edge names line words =
    found_or (ends_of words) WordCount (λ ends.
    found_or (position_of ends.0 names) UnknownName (λ from.
    found_or (position_of ends.1 names) UnknownName (λ to.
    and_then (entry (after_words 3 line)) (λ weight. Ok (record { from = from; to = to; entry = weight })))))

-- whether a byte is a digit, 0 to 9
abbrev pub is_digit : ℕ → Bool
is_digit b = nat_le 48 b && nat_le b 57

-- whether a word is 1 to 9 digits
unfoldable pub is_whole : List ℕ → Bool
is_whole word = list_all is_digit word && (nat_lt 0 (length word) && nat_le (length word) 9)

-- the whole number that 1 to 9 digits denote
abbrev pub whole : List ℕ → Result ℕ LineKind
whole word = if is_whole word then Ok (digits_value 10 word) else Err Whole

-- one whole number
abbrev pub count : Words → Result ℕ LineKind
count words = found_or (only_word words) WordCount whole

-- a name, and at least one word after it
abbrev pub share_words : Words → Option (List ℕ × Words)
share_words [] = None
share_words (name ∷ []) = None
share_words (name ∷ share ∷ more) = Some (name, share ∷ more)

-- a name, a word, and at least one word after them
abbrev pub step_words : Words → Option (List ℕ × List ℕ × Words)
step_words [] = None
step_words (name ∷ []) = None
step_words (name ∷ from ∷ []) = None
step_words (name ∷ from ∷ level ∷ more) = Some (name, from, level ∷ more)

-- this name, and the numerals of fractions
abbrev pub shares : List ℕ → Words → Result (List Ratio) LineKind
shares name words = found_or (share_words words) WordCount (λ w. if bytes_eq w.0 name then numbers w.1 else Err Unexpected)

-- the numerals of a step
abbrev pub step_of : List ℕ → Words → Result SpendStep LineKind
step_of from levels = and_then (numeral from) (λ x. and_then (numbers levels) (λ xs. Ok (record { from = x; levels = xs })))

-- this name, and the numerals of a step
abbrev pub first_step : List ℕ → Words → Result SpendStep LineKind
first_step name words = found_or (step_words words) WordCount (λ w. if bytes_eq w.0 name then step_of w.1 w.2 else Err Unexpected)

-- the name of a hypothesis, the number of a stage, and the numeral of a p-value
abbrev pub arrival : List (List ℕ) → Words → Result Arrival LineKind
arrival names words =
    found_or (only_three words) WordCount (λ said.
    found_or (position_of said.0 names) UnknownName (λ hypothesis.
    and_then (whole said.1) (λ stage.
    and_then (numeral said.2) (λ p. Ok (record { hypothesis = hypothesis; stage = stage; p = p })))))
