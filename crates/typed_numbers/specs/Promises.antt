-- Laws of readings.
use Rattle.std.specs.Prelude.{◌≡◌, ◌↔◌, ℕ, ◌-◌, ◌*◌, ◌^◌, ◌<◌, ◌≤◌, ◌⊎◌, pos, Option, Some, false}
use lib.Dec.{T}
use lib.Ieee.{Float, fin, binary64, le, of_bits}
use Rattle.field_core.specs.Order.{◌≤ε◌}
use Rattle.fraction.specs.View.{terms_of, number_of}
use Rattle.fraction.specs.declared.fraction.Fraction.{Fraction}
use Rattle.typed_numbers.specs.Intervals.{IsInside, range_of}
use Rattle.typed_numbers.specs.Rounding.{RoundsTo, units_of}
use Rattle.typed_numbers.specs.Rules.{IsReadAs, IsReadable, IsReadingOf}

-- Exactly the fractions in the interval of a finite double without a sign round to it.
abbrev pub IntervalsAreWhatRounds : Type 0
IntervalsAreWhatRounds = (bits n q : ℕ) → bits < 2047 * 2 ^ 52 → 0 < q → IsInside (range_of bits) n q ↔ RoundsTo bits n q

-- The bits of a double have at most one reading.
abbrev pub ReadingsAreUnique : Type 0
ReadingsAreUnique = (bits : ℕ) (x y : Option Fraction) → IsReadingOf bits x → IsReadingOf bits y → x ≡ y

-- n / q is not below the double, and above it by less than 10 ^ -30.
pub record IsJustAbove (bits n q : ℕ) : Type 0 where
  pub not_below : units_of bits * q ≤ n * 2 ^ 1074
  pub near : (n * 2 ^ 1074 - units_of bits * q) * 10 ^ 30 < 2 ^ 1074 * q

-- The reading of a double rounds to the double, or is just above it.
abbrev pub ReadingsAreNear : Type 0
ReadingsAreNear = (bits n q : ℕ) → IsReadAs bits n q → RoundsTo bits n q ⊎ IsJustAbove bits n q

-- The fraction is from 0 to 1, and its denominator is at most 10^30, as those of p-values are.
pub record IsShortUnit (f : Fraction) : Type 0 where
  pub n : ℕ
  pub q : ℕ
  pub terms : terms_of f ≡ record { num = pos n; den = pos q }
  pub at_most_one : n ≤ q
  pub short : q ≤ 10 ^ 30

-- Each reading is such a fraction.
abbrev pub ReadingsAreShortUnits : Type 0
ReadingsAreShortUnits = (bits : ℕ) (f : Fraction) → IsReadingOf bits (Some f) → IsShortUnit f

-- 0 and 1 as doubles
abbrev pub zero_float : Float
zero_float = fin false 0 (pos 0)

abbrev pub one_float : Float
one_float = fin false 1 (pos 0)

-- The double is from 0 to 1, as the kit compares doubles: minus zero is not below 0, and a NaN is neither above nor below.
abbrev pub IsFromZeroToOne : ℕ → Type 0
IsFromZeroToOne bits = T (le zero_float (of_bits binary64 bits)) × T (le (of_bits binary64 bits) one_float)

-- Exactly the doubles from 0 to 1 have a reading.
abbrev pub ReadableAreFromZeroToOne : Type 0
ReadableAreFromZeroToOne = (bits : ℕ) → bits < 2 ^ 64 → IsReadable bits ↔ IsFromZeroToOne bits

-- Of two doubles with a reading, of which one is at most the other as the kit compares doubles, the readings are in the same order.
abbrev pub ReadingsKeepOrder : Type 0
ReadingsKeepOrder = (x y : ℕ) (f g : Fraction) → IsReadingOf x (Some f) → IsReadingOf y (Some g)
    → T (le (of_bits binary64 x) (of_bits binary64 y)) → number_of f ≤ε number_of g
