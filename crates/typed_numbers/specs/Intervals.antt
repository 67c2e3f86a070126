-- The fractions that round to a double, as an interval: from half a last place below it to half a last place above.
use Rattle.std.specs.Prelude.{ℕ, zero, suc, ◌+◌, ◌-◌, ◌*◌, ◌/◌, ◌%◌, ◌^◌, ◌<◌}

-- The interval from low / scale to high / scale: with its ends if `ends` is 1, without them if it is 0.
pub record Range : Type 0 where
  pub scale : ℕ
  pub low : ℕ
  pub high : ℕ
  pub ends : ℕ

-- n / q is in the interval
pub record IsInside (r : Range) (n q : ℕ) : Type 0 where
  pub from_low : r.low * q < n * r.scale + r.ends
  pub to_high : n * r.scale < r.high * q + r.ends

-- the field of the exponent, and that of the digits
abbrev pub exponent_of : ℕ → ℕ
exponent_of bits = bits / 2 ^ 52

abbrev pub digits_of : ℕ → ℕ
digits_of bits = bits % 2 ^ 52

-- the mantissa: a leading 1 and the digits after it, or the digits alone of a subnormal double
abbrev pub mantissa_by : ℕ → ℕ → ℕ
mantissa_by zero digits = digits
mantissa_by (suc e) digits = 2 ^ 52 + digits

-- Quarters of the last place down to the end of the interval: 2, but 1 at a power of 2, below which the places are half as large.
abbrev pub below_of : ℕ → ℕ
below_of zero = 1
below_of (suc digits) = 2

abbrev pub below_by : ℕ → ℕ → ℕ
below_by zero digits = 2
below_by (suc zero) digits = 2
below_by (suc (suc e)) digits = below_of digits

-- the last place is 2 to this power, in units of 2 ^ -1074
abbrev pub shift_by : ℕ → ℕ
shift_by zero = 0
shift_by (suc e) = e

-- The fractions that round to the double m * 2 ^ s / 2 ^ 1074. They go from half a last place below it, or a quarter, to half a last place above it,
-- and the ends belong to them if m is even.
abbrev pub range_by : ℕ → ℕ → Range
range_by e digits = record {
  scale = 4 * 2 ^ 1074;
  low = (4 * mantissa_by e digits - below_by e digits) * 2 ^ shift_by e;
  high = (4 * mantissa_by e digits + 2) * 2 ^ shift_by e;
  ends = 1 - digits % 2;
}

unfoldable pub range_of : ℕ → Range
range_of bits = range_by (exponent_of bits) (digits_of bits)
