-- What rounds to a double, by the kit's own rounding to 53 binary digits.
use Rattle.std.specs.Prelude.{ℕ, ◌+◌, ◌-◌, ◌*◌, ◌/◌, ◌^◌, false}
use lib.Dec.{T}
use lib.Ieee.{Float, nan, inf, fin, binary64, up, down, eq, round, of_bits}

-- The double that is nearest to n / q, of two the one with the even last digit, is the double with these bits.
unfoldable pub RoundsTo : ℕ → ℕ → ℕ → Type 0
RoundsTo bits n q = T (eq (round binary64 false n q) (of_bits binary64 bits))

-- a finite value without its sign in units of 2 ^ -1074, of which it is a whole number
abbrev pub units : Float → ℕ
units nan = 0
units (inf s) = 0
units (fin s m e) = m * up e * 2 ^ 1074 / down e

-- how many units the double with these bits has
unfoldable pub units_of : ℕ → ℕ
units_of bits = units (of_bits binary64 bits)

-- How far n / q is from the double, in units of 2 ^ -1074 / q.
abbrev pub distance : ℕ → ℕ → ℕ → ℕ
distance bits n q = (n * 2 ^ 1074 - units_of bits * q) + (units_of bits * q - n * 2 ^ 1074)
