-- What a double from 0 to 1 is read as: the simplest fraction that rounds to it, else the shortest decimal, else a decimal just above it.
use Rattle.std.specs.Prelude.{◌≡◌, ℕ, ◌*◌, ◌%◌, ◌^◌, ◌<◌, ◌≤◌, ◌⊎◌, pos, Option, Some, None}
use Rattle.fraction.specs.View.{terms_of}
use Rattle.fraction.specs.declared.fraction.Fraction.{Fraction}
use Rattle.numerals.specs.Lowest.{lowest_terms}
use Rattle.typed_numbers.specs.Rounding.{RoundsTo, units_of, distance}

-- ---- the simplest fraction

-- n / q rounds to the double, no such fraction has a lesser denominator, and it is at most 10,000.
pub record IsSimplest (bits n q : ℕ) : Type 0 where
  pub some : 0 < q
  pub within : q ≤ 10000
  pub rounds : RoundsTo bits n q
  pub least : (m p : ℕ) → 0 < p → RoundsTo bits m p → q ≤ p

-- the denominators of all fractions that round to the double pass 10,000
abbrev pub HasNoSimple : ℕ → Type 0
HasNoSimple bits = (m p : ℕ) → 0 < p → RoundsTo bits m p → 10000 < p

-- ---- the shortest decimal

-- Of the multiples of 1 / q that round to the double, n / q is the nearest to it. Of two that are equally near it is the one with the even n.
pub record IsNearest (bits n q : ℕ) : Type 0 where
  pub rounds : RoundsTo bits n q
  pub nearest : (m : ℕ) → RoundsTo bits m q → distance bits n q ≤ distance bits m q
  pub even : (m : ℕ) → RoundsTo bits m q → distance bits m q ≡ distance bits n q → (m ≡ n) ⊎ (n % 2 ≡ 0)

-- n / q has the fewest decimal places, at most 30, with which a decimal rounds to the double, and is the nearest of those.
pub record IsShortest (bits n q : ℕ) : Type 0 where
  pub places : ℕ
  pub power : q ≡ 10 ^ places
  pub within : places ≤ 30
  pub fewest : (m i : ℕ) → RoundsTo bits m (10 ^ i) → places ≤ i
  pub nearest : IsNearest bits n q

-- all decimals that round to the double have more than 30 places
abbrev pub HasNoDecimal : ℕ → Type 0
HasNoDecimal bits = (m i : ℕ) → RoundsTo bits m (10 ^ i) → 30 < i

-- ---- the double rounded up

-- n / q is the least multiple of 10 ^ -30 that is not below the double.
pub record IsRoundedUp (bits n q : ℕ) : Type 0 where
  pub power : q ≡ 10 ^ 30
  pub above : units_of bits * q ≤ n * 2 ^ 1074
  pub least : (m : ℕ) → units_of bits * q ≤ m * 2 ^ 1074 → n ≤ m

-- ---- the reading

-- The double is read as n / q, by the first of the three rules that gives a fraction.
pub data IsReadAs (bits n q : ℕ) : Type 0 where
  simplest : IsSimplest bits n q → IsReadAs bits n q
  shortest : HasNoSimple bits → IsShortest bits n q → IsReadAs bits n q
  rounded_up : HasNoSimple bits → HasNoDecimal bits → IsRoundedUp bits n q → IsReadAs bits n q

-- the fraction, in lowest terms, that the double is read as
pub record IsReading (bits : ℕ) (f : Fraction) : Type 0 where
  pub n : ℕ
  pub q : ℕ
  pub read : IsReadAs bits n q
  pub lowest : terms_of f ≡ lowest_terms (pos n) (pos q)

-- The double is from 0 to 1: its bits are at most those of 1, or those of minus zero.
abbrev pub IsReadable : ℕ → Type 0
IsReadable bits = (bits ≤ 0x3ff0_0000_0000_0000) ⊎ (bits ≡ 0x8000_0000_0000_0000)

-- A double from 0 to 1 has its reading, minus zero that of 0; another double, an infinity or a NaN has none.
abbrev pub IsReadingOf : ℕ → Option Fraction → Type 0
IsReadingOf bits None = ¬ IsReadable bits
IsReadingOf bits (Some f) = IsReadable bits × IsReading (bits % 2 ^ 63) f
