-- Decimals: numerals without a sign that are not pairs, and their values.
use Rattle.std.specs.Prelude.{◌≡◌, ◌↔◌, ℕ, ◌-◌, ◌&&◌, ◌||◌, ◌++◌, Bool, true, List, length, nat_lt, int_lt, ℤ, pos, ◌-ℤ◌}
use Rattle.std.specs.Prelude.{Option, Some, None, if◌then◌else◌}
use Rattle.field_core.specs.Terms.{Terms}
use Rattle.numerals.specs.Lowest.{lowest_terms}
use Rattle.numerals.specs.Numeral.{Body, Plain, Pointed, Pair, body_text, IsBody, exponent_of, without_leading_zeros, trailing_zeros, value_of}
use Rattle.numerals.specs.Numeral.{HasTooManyDigits}

-- two numbers with a slash between
abbrev pub IsPair : Body → Type 0
IsPair (Plain whole exponent) = ⊥
IsPair (Pointed whole fraction exponent) = ⊥
IsPair (Pair over under) = Unit {0}

-- a decimal: a numeral without a sign that is not a pair
pub record Decimal : Type 0 where
  pub body : Body
  pub is_body : IsBody body
  pub no_pair : ¬ IsPair body

-- a text that is a decimal
pub record IsDecimal (text : List ℕ) : Type 0 where
  pub decimal : Decimal
  pub spelt : text ≡ body_text decimal.body

-- whether a number of n digits, divided by ten to the s, passes the limit (`PassesLimit`)
abbrev pub passes_limit : ℕ → ℤ → Bool
passes_limit n s = nat_lt 38 n || int_lt (pos 38) s || (int_lt s (pos 0) && int_lt (pos 38) (pos n -ℤ s))

-- whether a whole number without leading zeros, divided by ten to the s, is too long (`IsTooLong`)
abbrev pub is_too_long : List ℕ → ℤ → Bool
is_too_long digits s = nat_lt 0 (length digits) && passes_limit (length digits - trailing_zeros digits) (s -ℤ pos (trailing_zeros digits))

-- whether a body has too many digits (`HasTooManyDigits`)
unfoldable pub has_too_many_digits : Body → Bool
has_too_many_digits (Plain whole exponent) = is_too_long (without_leading_zeros whole) (pos 0 -ℤ exponent_of exponent)
has_too_many_digits (Pointed whole fraction exponent) =
    is_too_long (without_leading_zeros (whole ++ fraction)) (pos (length fraction) -ℤ exponent_of exponent)
has_too_many_digits (Pair over under) = nat_lt 38 (length (without_leading_zeros over)) || nat_lt 38 (length (without_leading_zeros under))

-- the value of a decimal in lowest terms, or nothing if it has too many digits
unfoldable pub decimal_value : Decimal → Option Terms
decimal_value d =
    if has_too_many_digits d.body then None
    else Some (lowest_terms (value_of None d.body).num (value_of None d.body).den)

-- the test of a body's digits is the limit of numerals
abbrev pub DecimalsHaveTheLimitOfNumerals : Type 0
DecimalsHaveTheLimitOfNumerals = (body : Body) → (has_too_many_digits body ≡ true) ↔ HasTooManyDigits body
