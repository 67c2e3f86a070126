-- What each step of a reading finds, by the interval of a double in quarters of its last place.
use Rattle.std.specs.Prelude.{◌≡◌, ℕ, ◌+◌, ◌-◌, ◌*◌, ◌%◌, ◌^◌, ◌<◌, ◌≤◌, ◌⊎◌}
use Rattle.typed_numbers.specs.Intervals.{Range, IsInside, exponent_of, digits_of, mantissa_by, below_by, shift_by}

-- ---- the interval

-- `places` is the number of binary places of a quarter of the last place. The interval is from `low` to `high`, and the double is `middle`, in quarters.
pub record IsInterval (places low middle high ends : ℕ) : Type 0 where
  pub fine : 55 ≤ places
  pub some : 2 ≤ low
  pub ends_few : ends ≤ 1
  pub below : low < middle
  pub lopsided : middle ≤ low + 2
  pub above : high ≡ middle + 2
  pub short : high + 1 ≤ 2 ^ 55

-- these numbers are the interval of the double with these fields
pub record IsIntervalBy (e digits places low middle high ends : ℕ) : Type 0 where
  pub unit : places + shift_by e ≡ 1076
  pub value : middle ≡ 4 * mantissa_by e digits
  pub down : low + below_by e digits ≡ middle
  pub up : high ≡ middle + 2
  pub parity : ends ≡ 1 - digits % 2

-- (those of a double with these bits)
abbrev pub IsIntervalOf : ℕ → ℕ → ℕ → ℕ → ℕ → ℕ → Type 0
IsIntervalOf bits = IsIntervalBy (exponent_of bits) (digits_of bits)

-- as an interval of fractions
abbrev pub in_quarters : ℕ → ℕ → ℕ → ℕ → Range
in_quarters places low high ends = record { scale = 2 ^ places; low = low; high = high; ends = ends }

-- ---- the simplest fraction

-- n / q has the least denominator of the fractions in the interval, at most `limit`.
pub record IsSimplestIn (r : Range) (limit n q : ℕ) : Type 0 where
  pub some : 0 < q
  pub within : q ≤ limit
  pub inside : IsInside r n q
  pub least : (m p : ℕ) → 0 < p → IsInside r m p → q ≤ p

-- no fraction in the interval has a denominator of at most `limit`
abbrev pub HasNoneIn : Range → ℕ → Type 0
HasNoneIn r limit = (m p : ℕ) → 0 < p → IsInside r m p → limit < p

-- ---- the shortest decimal

-- the distance of two numbers
abbrev pub gap : ℕ → ℕ → ℕ
gap a b = (a - b) + (b - a)

-- n units are in the interval
pub record IsWithin (low high ends unit n : ℕ) : Type 0 where
  pub from_low : low < n * unit + ends
  pub to_high : n * unit < high + ends

-- Of the multiples of the unit in the interval, n units are the nearest to the middle, and of two that are equally near n is even.
pub record IsNearestIn (low middle high ends unit n : ℕ) : Type 0 where
  pub inside : IsWithin low high ends unit n
  pub nearest : (m : ℕ) → IsWithin low high ends unit m → gap (n * unit) middle ≤ gap (m * unit) middle
  pub even : (m : ℕ) → IsWithin low high ends unit m → gap (m * unit) middle ≡ gap (n * unit) middle → (m ≡ n) ⊎ (n % 2 ≡ 0)

-- m / 10 ^ j is in the interval: 10 ^ j is 5 ^ j * 2 ^ j, and the power of 2 leaves that many binary places.
abbrev pub IsDecimalIn : ℕ → ℕ → ℕ → ℕ → ℕ → ℕ → Type 0
IsDecimalIn places low high ends j m = IsWithin (low * 5 ^ j) (high * 5 ^ j) ends (2 ^ (places - j)) m

abbrev pub IsNearestDecimal : ℕ → ℕ → ℕ → ℕ → ℕ → ℕ → ℕ → Type 0
IsNearestDecimal places low middle high ends j n = IsNearestIn (low * 5 ^ j) (middle * 5 ^ j) (high * 5 ^ j) ends (2 ^ (places - j)) n

-- n / q is the shortest decimal in the interval, the nearest to the middle.
pub record IsShortestIn (places low middle high ends n q : ℕ) : Type 0 where
  pub digits : ℕ
  pub power : q ≡ 10 ^ digits
  pub within : digits ≤ 30
  pub fewest : (m i : ℕ) → i < digits → ¬ IsDecimalIn places low high ends i m
  pub nearest : IsNearestDecimal places low middle high ends digits n

-- no decimal of at most 30 places is in the interval
abbrev pub HasNoDecimalIn : ℕ → ℕ → ℕ → ℕ → Type 0
HasNoDecimalIn places low high ends = (m i : ℕ) → i ≤ 30 → ¬ IsDecimalIn places low high ends i m

-- ---- the value rounded up

-- n / 10 ^ 30 is the least such decimal that is not below the middle.
pub record IsLeastAbove (places middle n : ℕ) : Type 0 where
  pub above : middle * 5 ^ 30 ≤ n * 2 ^ (places - 30)
  pub least : (m : ℕ) → middle * 5 ^ 30 ≤ m * 2 ^ (places - 30) → n ≤ m
