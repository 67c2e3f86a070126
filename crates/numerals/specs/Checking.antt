-- What the bytes of a text alone show.
use Rattle.std.specs.Prelude.{◌≡◌, List, ℕ, [], Result, Ok, Err}
use Rattle.numerals.specs.declared.fault.NumberFault.{NumberFault}
use Rattle.numerals.specs.declared.fault.NumberFault.TheVariants.{Empty, BadByte, ZeroDenominator, TooManyDigits}
use Rattle.numerals.specs.Prefixes.{IsBadByte}
use Rattle.numerals.specs.Numeral.{IsNumeral}

-- a text is a numeral, or empty, or else has a first bad byte
unfoldable pub IsChecked : List ℕ → Result (Unit {0}) NumberFault → Type 0
IsChecked text (Ok x) = IsNumeral text
IsChecked text (Err Empty) = text ≡ []
IsChecked text (Err (BadByte n)) = ¬ (text ≡ []) × IsBadByte IsNumeral text n
IsChecked text (Err ZeroDenominator) = ⊥
IsChecked text (Err TooManyDigits) = ⊥
