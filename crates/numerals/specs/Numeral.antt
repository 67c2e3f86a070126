-- Numerals: what they are, their values, and why a text has no value.
use Rattle.std.specs.Prelude.{◌≡◌, ℕ, suc, ◌+◌, ◌-◌, ◌^◌, ◌<◌, ◌≤◌, ◌⊎◌, Bool, false, List, [], ◌∷◌, ◌++◌, length}
use Rattle.std.specs.Prelude.{drop, ℤ, pos, negsuc, neg_ℤ, ◌-ℤ◌, ◌*ℤ◌, ◌<ℤ◌, Option, Some, None, ◌==◌, if◌then◌else◌}
use Rattle.std.specs.List.{prefix_len, suffix_len}
use Rattle.std.specs.Str.Parse.{digits_value}
use Rattle.field_core.specs.Terms.{Terms, IsReduced}
use Rattle.field_core.specs.View.{terms}
use Rattle.field_core.specs.declared.ratio.Ratio.{Ratio}
use Rattle.numerals.specs.Prefixes.{IsBadByte}
use Rattle.numerals.specs.declared.fault.NumberFault.{NumberFault}
use Rattle.numerals.specs.declared.fault.NumberFault.TheVariants.{Empty, BadByte, ZeroDenominator, TooManyDigits}

-- ---- what a numeral is

-- each byte is a digit
abbrev pub AreDigits : List ℕ → Type 0
AreDigits [] = Unit {0}
AreDigits (b ∷ bs) = (48 ≤ b) × (b ≤ 57) × AreDigits bs

-- a sign as it is written, perhaps not at all
abbrev pub sign_text : Option ℕ → List ℕ
sign_text None = []
sign_text (Some b) = b ∷ []

-- a plus or a minus, or nothing
abbrev pub IsSign : Option ℕ → Type 0
IsSign None = Unit {0}
IsSign (Some b) = (b ≡ 43) ⊎ (b ≡ 45)

-- a mark, perhaps a sign, and digits
pub record Exponent : Type 0 where
  pub mark : ℕ
  pub sign : Option ℕ
  pub digits : List ℕ

-- an exponent as it is written, perhaps not at all
abbrev pub exponent_text : Option Exponent → List ℕ
exponent_text None = []
exponent_text (Some e) = e.mark ∷ sign_text e.sign ++ e.digits

-- the mark is `e` or `E`, and there is a digit
abbrev pub IsExponent : Option Exponent → Type 0
IsExponent None = Unit {0}
IsExponent (Some e) = ((e.mark ≡ 101) ⊎ (e.mark ≡ 69)) × IsSign e.sign × AreDigits e.digits × (0 < length e.digits)

-- what follows the sign
pub data Body : Type 0 where
  -- digits, perhaps an exponent
  Plain : (whole : List ℕ) (exponent : Option Exponent) → Body
  -- digits, a point, digits, perhaps an exponent
  Pointed : (whole fraction : List ℕ) (exponent : Option Exponent) → Body
  -- digits, a slash, digits
  Pair : (over under : List ℕ) → Body

-- a body as it is written
abbrev pub body_text : Body → List ℕ
body_text (Plain whole exponent) = whole ++ exponent_text exponent
body_text (Pointed whole fraction exponent) = whole ++ 46 ∷ fraction ++ exponent_text exponent
body_text (Pair over under) = over ++ 47 ∷ under

-- each part has a digit; at a point one of its two sides may have none
abbrev pub IsBody : Body → Type 0
IsBody (Plain whole exponent) = AreDigits whole × (0 < length whole) × IsExponent exponent
IsBody (Pointed whole fraction exponent) = AreDigits whole × AreDigits fraction × (0 < length whole + length fraction) × IsExponent exponent
IsBody (Pair over under) = AreDigits over × (0 < length over) × AreDigits under × (0 < length under)

-- a text that is a numeral, by its parts
pub record IsNumeral (text : List ℕ) : Type 0 where
  pub sign : Option ℕ
  pub body : Body
  pub is_sign : IsSign sign
  pub is_body : IsBody body
  pub spelt : text ≡ sign_text sign ++ body_text body

-- ---- what it is worth

-- whether a sign is a minus
abbrev pub is_minus : Option ℕ → Bool
is_minus None = false
is_minus (Some b) = b == 45

-- a number of this size, below 0 or not
abbrev pub with_sign : Bool → ℕ → ℤ
with_sign negative n = if negative then neg_ℤ (pos n) else pos n

-- a number after a sign
abbrev pub signed : Option ℕ → ℕ → ℤ
signed sign n = with_sign (is_minus sign) n

-- the exponent, 0 if none is written
abbrev pub exponent_of : Option Exponent → ℤ
exponent_of None = pos 0
exponent_of (Some e) = signed e.sign (digits_value 10 e.digits)

-- n divided by ten to the s
abbrev pub over_power : ℤ → ℤ → Terms
over_power n (pos s) = record { num = n; den = pos (10 ^ s) }
over_power n (negsuc s) = record { num = n *ℤ pos (10 ^ suc s); den = pos 1 }

-- the value of a numeral, as a quotient of whole numbers
unfoldable pub value_of : Option ℕ → Body → Terms
value_of sign (Plain whole exponent) = over_power (signed sign (digits_value 10 whole)) (pos 0 -ℤ exponent_of exponent)
value_of sign (Pointed whole fraction exponent) = over_power (signed sign (digits_value 10 (whole ++ fraction)))
    (pos (length fraction) -ℤ exponent_of exponent)
value_of sign (Pair over under) = record { num = signed sign (digits_value 10 over); den = pos (digits_value 10 under) }

-- ---- its limits

-- whether a byte is the digit 0
abbrev pub is_nought : ℕ → Bool
is_nought b = b == 48

-- the digits of a whole number, from the first that isn't 0 on
unfoldable pub without_leading_zeros : List ℕ → List ℕ
without_leading_zeros digits = drop (prefix_len is_nought digits) digits

-- how many zeros digits end with
unfoldable pub trailing_zeros : List ℕ → ℕ
trailing_zeros digits = suffix_len is_nought digits

-- A number of n digits, divided by ten to the s, passes the limit of 38. It has more digits, or more places after the point, or more digits together
-- with the zeros up to the point.
abbrev pub PassesLimit : ℕ → ℤ → Type 0
PassesLimit n s = (38 < n) ⊎ ((pos 38 <ℤ s) ⊎ ((s <ℤ pos 0) × (pos 38 <ℤ (pos n -ℤ s))))

-- A whole number, given by its digits without leading zeros, is too long once divided by ten to the s. That is, it isn't 0, and it passes the limit
-- without its trailing zeros, each of which lowers s by 1.
unfoldable pub IsTooLong : List ℕ → ℤ → Type 0
IsTooLong digits s = (0 < length digits) × PassesLimit (length digits - trailing_zeros digits) (s -ℤ pos (trailing_zeros digits))

-- a pair whose second part is 0
unfoldable pub HasZeroDenominator : Body → Type 0
HasZeroDenominator (Plain whole exponent) = ⊥
HasZeroDenominator (Pointed whole fraction exponent) = ⊥
HasZeroDenominator (Pair over under) = digits_value 10 under ≡ 0

-- A body has too many digits. All digits before the exponent make one whole number, which is too long over ten to the s. Here s is the number of
-- digits after the point minus the exponent. Of a pair, one part has more than 38 digits without leading zeros.
unfoldable pub HasTooManyDigits : Body → Type 0
HasTooManyDigits (Plain whole exponent) = IsTooLong (without_leading_zeros whole) (pos 0 -ℤ exponent_of exponent)
HasTooManyDigits (Pointed whole fraction exponent) = IsTooLong (without_leading_zeros (whole ++ fraction)) (pos (length fraction) -ℤ exponent_of exponent)
HasTooManyDigits (Pair over under) = (38 < length (without_leading_zeros over)) ⊎ (38 < length (without_leading_zeros under))

-- ---- what a text gives

-- two quotients with one value: their cross products are equal
abbrev pub Same : Terms → Terms → Type 0
Same x y = x.num *ℤ y.den ≡ y.num *ℤ x.den

-- The text is a numeral within the limits and not over 0, and this is its value in lowest terms.
pub record IsNumeralOf (text : List ℕ) (value : Terms) : Type 0 where
  pub numeral : IsNumeral text
  pub defined : ¬ HasZeroDenominator numeral.body
  pub within : ¬ HasTooManyDigits numeral.body
  pub lowest : IsReduced value
  pub same : Same value (value_of numeral.sign numeral.body)

-- the text is a numeral of this fraction
abbrev pub IsRatioText : List ℕ → Ratio → Type 0
IsRatioText text x = IsNumeralOf text (terms x)

-- Why a text has no value: the first of these that holds.
unfoldable pub IsParseFault : List ℕ → NumberFault → Type 0
IsParseFault text Empty = text ≡ []
IsParseFault text (BadByte n) = ¬ (text ≡ []) × IsBadByte IsNumeral text n
IsParseFault text ZeroDenominator = (numeral : IsNumeral text) × HasZeroDenominator numeral.body
IsParseFault text TooManyDigits = (numeral : IsNumeral text) × (¬ HasZeroDenominator numeral.body × HasTooManyDigits numeral.body)
