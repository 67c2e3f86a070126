-- What words and lines denote.
use Rattle.std.specs.Prelude.{◌≡◌, ◌<◌, ℕ, List, [], ◌∷◌, Some, length, codes, pos}
use Rattle.std.specs.List.{AllZip}
use Rattle.field_core.specs.declared.ratio.Ratio.{Ratio}
use Rattle.field_core.specs.View.{terms}
use Rattle.numerals.specs.Numeral.{IsNumeralOf}
use Rattle.numerals.specs.WholeNumbers.{WritesNumber}
use Rattle.fraction.specs.Plain.{one_reduced}
use Rattle.case_model.specs.declared.draft_edge.DraftEdge.{DraftEdge}
use Rattle.case_model.specs.declared.draft_stages.Arrival.{Arrival}
use Rattle.case_model.specs.declared.spend_step.SpendStep.{SpendStep}
use Rattle.case_model.specs.Names.{position_of}
use Rattle.text_lines.specs.Words.{words_of, after_words}
use Rattle.edge_expression.specs.EntryReading.{IsEntryText}

-- the words of a line
abbrev pub Words : Type 0
Words = List (List ℕ)

-- the word is a numeral of this value
unfoldable pub Says : List ℕ → Ratio → Type 0
Says word value = IsNumeralOf word (terms value)

-- the line has the keyword as its first word, and what follows it is such words
pub record IsLineOf (keyword line : List ℕ) (Are : Words → Type 0) : Type 0 where
  pub behind : Words
  pub words : words_of line ≡ keyword ∷ behind
  pub are : Are behind

-- one numeral of this value
pub record IsNumber (words : Words) (value : Ratio) : Type 0 where
  pub numeral : List ℕ
  pub alone : words ≡ numeral ∷ []
  pub says : Says numeral value

-- numerals of these values, any number of them
abbrev pub AreNumbers : Words → List Ratio → Type 0
AreNumbers words values = AllZip Says words values

-- numerals of these values, at least one
pub record AreSomeNumbers (words : Words) (values : List Ratio) : Type 0 where
  pub each : AreNumbers words values
  pub some : 0 < length values

-- these two words, and at least one more
pub record HasThree (words : Words) (from to : List ℕ) : Type 0 where
  pub further : List ℕ
  pub others : Words
  pub words_are : words ≡ from ∷ to ∷ further ∷ others

-- The names of the two ends of an edge, and an expression of its weight: all of the line that follows the second name. If a name denotes several
-- hypotheses, it is the first.
pub record IsEdge (names : List (List ℕ)) (line : List ℕ) (words : Words) (edge : DraftEdge) : Type 0 where
  pub from : List ℕ
  pub to : List ℕ
  pub ends : HasThree words from to
  pub from_is : position_of from names ≡ Some edge.from
  pub to_is : position_of to names ≡ Some edge.to
  pub says : IsEntryText (after_words 3 line) edge.entry

-- `alpha` and a numeral of this value
abbrev pub IsAlphaLine : List ℕ → Ratio → Type 0
IsAlphaLine line value = IsLineOf (codes "alpha") line (λ words. IsNumber words value)

-- `hypotheses` and these names, any number of them
abbrev pub IsNamesLine : List ℕ → List (List ℕ) → Type 0
IsNamesLine line names = IsLineOf (codes "hypotheses") line (λ words. words ≡ names)

-- `p` and numerals of these values, at least one
abbrev pub IsPLine : List ℕ → List Ratio → Type 0
IsPLine line values = IsLineOf (codes "p") line (λ words. AreSomeNumbers words values)

-- `component` and a numeral of this value
abbrev pub IsShareLine : List ℕ → Ratio → Type 0
IsShareLine line value = IsLineOf (codes "component") line (λ words. IsNumber words value)

-- `weights` and numerals of these values, any number of them
abbrev pub IsWeightsLine : List ℕ → List Ratio → Type 0
IsWeightsLine line values = IsLineOf (codes "weights") line (λ words. AreNumbers words values)

-- `edge`, the names of its two ends, and an expression of its weight
abbrev pub IsEdgeLine : List (List ℕ) → List ℕ → DraftEdge → Type 0
IsEdgeLine names line edge = IsLineOf (codes "edge") line (λ words. IsEdge names line words edge)

-- 1 to 9 digits that denote this number
abbrev pub IsWholeNumber : List ℕ → ℕ → Type 0
IsWholeNumber word number = WritesNumber 9 word number

-- one word of 1 to 9 digits, which denotes this number
pub record IsCount (words : Words) (count : ℕ) : Type 0 where
  pub word : List ℕ
  pub alone : words ≡ word ∷ []
  pub is : IsWholeNumber word count

-- a name and numerals of these fractions, at least one
pub record AreShares (name : List ℕ) (words : Words) (shares : List Ratio) : Type 0 where
  pub numerals : Words
  pub words_are : words ≡ name ∷ numerals
  pub each : AreNumbers numerals shares
  pub some : 0 < length shares

-- a name and the numerals of a step of a table: from where it counts, and its levels, at least one
pub record IsStep (name : List ℕ) (words : Words) (step : SpendStep) : Type 0 where
  pub numerals : Words
  pub words_are : words ≡ name ∷ numerals
  pub each : AreNumbers numerals (step.from ∷ step.levels)
  pub some : 0 < length step.levels

-- a name, the number of a stage, and the numeral of a p-value; if a name denotes several hypotheses, it is the first
pub record IsArrival (names : List (List ℕ)) (words : Words) (arrival : Arrival) : Type 0 where
  pub name : List ℕ
  pub stage : List ℕ
  pub numeral : List ℕ
  pub words_are : words ≡ name ∷ stage ∷ numeral ∷ []
  pub name_is : position_of name names ≡ Some arrival.hypothesis
  pub stage_is : IsWholeNumber stage arrival.stage
  pub says : Says numeral arrival.p

-- `stages` and their number
abbrev pub IsStagesLine : List ℕ → ℕ → Type 0
IsStagesLine line count = IsLineOf (codes "stages") line (λ words. IsCount words count)

-- `spend`, this name, and what its hypothesis spends of its level at each stage
abbrev pub IsSpendLine : List ℕ → List ℕ → List Ratio → Type 0
IsSpendLine name line shares = IsLineOf (codes "spend") line (λ words. AreShares name words shares)

-- `table`, this name, and a step of the table of its hypothesis
abbrev pub IsTableLine : List ℕ → List ℕ → SpendStep → Type 0
IsTableLine name line step = IsLineOf (codes "table") line (λ words. IsStep name words step)

-- `arrive` and a p-value that arrived
abbrev pub IsArriveLine : List (List ℕ) → List ℕ → Arrival → Type 0
IsArriveLine names line arrival = IsLineOf (codes "arrive") line (λ words. IsArrival names words arrival)

-- 1/1
abbrev pub one : Ratio
one = record { num = pos 1; den = pos 1; valid = one_reduced }
