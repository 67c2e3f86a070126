-- What the digits of a numeral give, before its sign.
use Rattle.std.specs.Prelude.{◌≡◌, ◌≢◌, ℕ, ◌^◌, ◌⊎◌, List, [], ◌∷◌, ◌++◌, length, ℤ, pos, neg_ℤ, ◌-ℤ◌, ◌≤ℤ◌}
use Rattle.std.specs.Prelude.{Option, None, Result, Ok, Err}
use Rattle.std.specs.Str.Parse.{digits_value}
use Rattle.field_core.specs.Terms.{Terms}
use Rattle.numerals.specs.Numeral.{Exponent, exponent_text, IsExponent, exponent_of, Body, body_text, IsBody, over_power, value_of, without_leading_zeros}
use Rattle.numerals.specs.Numeral.{PassesLimit, IsTooLong, HasZeroDenominator, HasTooManyDigits, Same}
use Rattle.numerals.specs.declared.fault.NumberFault.{NumberFault}
use Rattle.numerals.specs.declared.fault.NumberFault.TheVariants.{ZeroDenominator, TooManyDigits}
use Rattle.numerals.specs.declared.size.Size.{Size}
use Rattle.numerals.specs.declared.decimal.Decimal.{Decimal}
use Rattle.numerals.specs.declared.shift.Shift.{Shift}

-- a text that doesn't begin with this byte
abbrev pub BeginsOtherwise : ℕ → List ℕ → Type 0
BeginsOtherwise byte [] = Unit {0}
BeginsOtherwise byte (b ∷ bs) = b ≢ byte

-- a size as a quotient
abbrev pub quotient_of : Size → Terms
quotient_of x = record { num = pos x.num; den = pos x.den }

-- the digits of a decimal, without its point
abbrev pub digits_in : Decimal → List ℕ
digits_in d = d.whole.now ++ d.fraction.now

-- A shift by z places; or one by 2^100 places in the direction of z, if z is at least that far.
abbrev pub IsShift : ℕ → ℕ → ℤ → Type 0
IsShift up down z = (z ≡ pos up -ℤ pos down)
    ⊎ (((up ≡ 2 ^ 100) × (down ≡ 0) × (pos (2 ^ 100) ≤ℤ z)) ⊎ ((up ≡ 0) × (down ≡ 2 ^ 100) × (z ≤ℤ neg_ℤ (pos (2 ^ 100)))))

-- the shift that an exponent makes
unfoldable pub GivesShift : List ℕ → Shift → Type 0
GivesShift text x = (exponent : Option Exponent) → IsExponent exponent → text ≡ exponent_text exponent → IsShift x.up x.down (exponent_of exponent)

-- what a number of n digits gives, divided by ten to the s
unfoldable pub IsScaled : ℕ → ℕ → ℤ → Result Size NumberFault → Type 0
IsScaled n number s (Ok x) = ¬ PassesLimit n s × (quotient_of x ≡ over_power (pos number) s)
IsScaled n number s (Err TooManyDigits) = PassesLimit n s
IsScaled n number s (Err fault) = ⊥

-- what digits give, divided by ten to the s
unfoldable pub IsDecimalSize : List ℕ → ℤ → Result Size NumberFault → Type 0
IsDecimalSize digits s (Ok x) = ¬ IsTooLong (without_leading_zeros digits) s × Same (quotient_of x) (over_power (pos (digits_value 10 digits)) s)
IsDecimalSize digits s (Err TooManyDigits) = IsTooLong (without_leading_zeros digits) s
IsDecimalSize digits s (Err fault) = ⊥

-- what a decimal gives with the shift of its exponent
unfoldable pub GivesDecimal : Decimal → Shift → Result Size NumberFault → Type 0
GivesDecimal d x result = (exponent : ℤ) → IsShift x.up x.down exponent → IsDecimalSize (digits_in d) (pos (length d.fraction.now) -ℤ exponent) result

-- what a body gives without a sign
unfoldable pub IsBodySize : Body → Result Size NumberFault → Type 0
IsBodySize body (Ok x) = ¬ HasZeroDenominator body × (¬ HasTooManyDigits body × Same (quotient_of x) (value_of None body))
IsBodySize body (Err ZeroDenominator) = HasZeroDenominator body
IsBodySize body (Err TooManyDigits) = ¬ HasZeroDenominator body × HasTooManyDigits body
IsBodySize body (Err fault) = ⊥

-- what a text gives, however it is spelt as a body
unfoldable pub GivesBody : List ℕ → Result Size NumberFault → Type 0
GivesBody text result = (body : Body) → IsBody body → text ≡ body_text body → IsBodySize body result
