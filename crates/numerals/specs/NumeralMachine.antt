-- A numeral byte by byte.
use Rattle.std.specs.Prelude.{ℕ, Bool, true, false, Option, Some, None}
use Rattle.std.specs.Option.{option_map}
use Rattle.numerals.specs.declared.byte_class.Class.{Class}
use Rattle.numerals.specs.declared.byte_class.Class.TheVariants as classes
use Rattle.numerals.specs.declared.decimal_machine.DecimalPart.TheVariants as parts
use Rattle.numerals.specs.declared.numeral_machine.State.{State}
use Rattle.numerals.specs.declared.numeral_machine.State.TheVariants.{Start, Decimal, Slash, Under}
use Rattle.numerals.specs.DecimalMachine.{class_of, decimal_step, may_end}

-- what is read after one more byte of this class, or nothing if no numeral begins so
abbrev pub step : State → Class → Option State
step Start classes.Sign = Some (Decimal parts.Start)
step Start class = option_map Decimal (decimal_step parts.Start class)
step (Decimal parts.Whole) classes.Slash = Some Slash
step (Decimal part) class = option_map Decimal (decimal_step part class)
step Slash classes.Digit = Some Under
step Under classes.Digit = Some Under
step state class = None

-- what is read after one more byte, or nothing if no numeral begins so
abbrev pub byte_step : State → ℕ → Option State
byte_step state b = step state (class_of b)

-- whether a numeral may end here
abbrev pub is_final : State → Bool
is_final (Decimal part) = may_end part
is_final Under = true
is_final state = false
