-- What a double is read as, as a function of its bits.
use Rattle.std.specs.Prelude.{◌≡◌, ◌↔◌, ℕ, Option}
use Rattle.fraction.specs.declared.fraction.Fraction.{Fraction}
use Rattle.typed_numbers.specs.Rules.{IsReadingOf}
use Rattle.typed_numbers.specs.Laws.Total.{some_reading}

-- the fraction that a double from 0 to 1 is read as, or nothing for another double
unfoldable pub reading_of : ℕ → Option Fraction
reading_of bits = (some_reading bits).0

-- `reading_of` returns what the rules give, and nothing else.
abbrev pub ReadingsAreByTheRules : Type 0
ReadingsAreByTheRules = (bits : ℕ) (x : Option Fraction) → (reading_of bits ≡ x) ↔ IsReadingOf bits x
