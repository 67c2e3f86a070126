-- The readings of doubles, in words of 64 bits.
use Rattle.std.specs.Prelude.{◌≡◌, ◌⊎◌, ℕ, ◌+◌, ◌*◌, ◌^◌, ◌<◌, pos, List, length, get_or, Option, Some, None}
use Rattle.field_core.specs.Terms.{Terms}
use Rattle.fraction.specs.View.{terms_of}
use Rattle.fraction.specs.declared.fraction.Fraction.{Fraction}
use Rattle.trial_rows.specs.Rows.{in_row}
use Rattle.typed_numbers.specs.Readings.{reading_of}

-- the number in two words, the low one first
abbrev pub number_in : ℕ → ℕ → ℕ
number_in low high = low + 2 ^ 64 * high

-- Four words are those of a fraction: its numerator in the first two, and its denominator in the others.
pub record AreParts (x : Terms) (words : ℕ → ℕ) : Type 0 where
  pub numerator : x.num ≡ pos (number_in (words 0) (words 1))
  pub denominator : x.den ≡ pos (number_in (words 2) (words 3))

-- Four words are those of a reading: those of its fraction, or zeros if there is none.
abbrev pub AreWordsOf : Option Fraction → (ℕ → ℕ) → Type 0
AreWordsOf None words = (j : ℕ) → j < 4 → words j ≡ 0
AreWordsOf (Some x) words = AreParts (terms_of x) words

-- Each double has the four words of its reading.
abbrev pub AreReadIn : List ℕ → List ℕ → Type 0
AreReadIn doubles words = (i : ℕ) → i < length doubles → AreWordsOf (reading_of (get_or doubles i 0)) (in_row 4 words i)

-- there are four words for each double
abbrev pub HasFourWords : List ℕ → List ℕ → Type 0
HasFourWords doubles words = length words ≡ length doubles * 4

-- The status is 0 and the words of each double are written, or there aren't four words for each, the status is 11, and nothing is written.
abbrev pub Reads : List ℕ → List ℕ → List ℕ → ℕ → Type 0
Reads doubles old new result = (HasFourWords doubles old × (result ≡ 0) × AreReadIn doubles new) ⊎ (¬ HasFourWords doubles old × (result ≡ 11) × (new ≡ old))
