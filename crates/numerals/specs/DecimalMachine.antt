-- A decimal byte by byte.
use Rattle.std.specs.Prelude.{ℕ, ◌||◌, ◌==◌, if◌then◌else◌, Bool, true, false, List, Option, Some, None}
use Rattle.std.specs.Char.{is_ascii_digit}
use Rattle.field_core.specs.Longest.{count}
use Rattle.numerals.specs.declared.byte_class.Class.{Class}
use Rattle.numerals.specs.declared.byte_class.Class.TheVariants as classes
use Rattle.numerals.specs.declared.decimal_machine.DecimalPart.{DecimalPart}
use Rattle.numerals.specs.declared.decimal_machine.DecimalPart.TheVariants.{Start, Whole, Point, Fraction, Mark, MarkSigned, Exponent}

-- what a byte may be in a numeral
unfoldable pub class_of : ℕ → Class
class_of b =
    if is_ascii_digit b then classes.Digit
    else if (b == 43) || (b == 45) then classes.Sign
    else if b == 46 then classes.Point
    else if (b == 101) || (b == 69) then classes.Mark
    else if b == 47 then classes.Slash
    else classes.Other

-- what is read of a decimal after one more byte of this class, or nothing if no decimal begins so
abbrev pub decimal_step : DecimalPart → Class → Option DecimalPart
decimal_step Start classes.Digit = Some Whole
decimal_step Start classes.Point = Some Point
decimal_step Whole classes.Digit = Some Whole
decimal_step Whole classes.Point = Some Fraction
decimal_step Whole classes.Mark = Some Mark
decimal_step Point classes.Digit = Some Fraction
decimal_step Fraction classes.Digit = Some Fraction
decimal_step Fraction classes.Mark = Some Mark
decimal_step Mark classes.Sign = Some MarkSigned
decimal_step Mark classes.Digit = Some Exponent
decimal_step MarkSigned classes.Digit = Some Exponent
decimal_step Exponent classes.Digit = Some Exponent
decimal_step part class = None

-- what is read of a decimal after one more byte, or nothing if no decimal begins so
abbrev pub decimal_byte : DecimalPart → ℕ → Option DecimalPart
decimal_byte part b = decimal_step part (class_of b)

-- whether a decimal may end here
abbrev pub may_end : DecimalPart → Bool
may_end Whole = true
may_end Fraction = true
may_end Exponent = true
may_end part = false

-- how many bytes of a text may begin a decimal
unfoldable pub decimal_length : List ℕ → ℕ
decimal_length text = count decimal_byte text Start
