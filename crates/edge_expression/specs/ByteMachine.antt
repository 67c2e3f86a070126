-- Edge expressions byte by byte.
use Rattle.std.specs.Prelude.{ℕ, zero, suc, ◌||◌, Bool, true, false, Option, Some, None, ◌==◌, if◌then◌else◌}
use Rattle.std.specs.Char.{is_ascii_digit}
use Rattle.text_lines.specs.Words.{is_blank}
use Rattle.numerals.specs.declared.decimal_machine.DecimalPart.{DecimalPart}
use Rattle.numerals.specs.declared.decimal_machine.DecimalPart.TheVariants as parts
use Rattle.numerals.specs.DecimalMachine.{decimal_byte, may_end as ends_decimal}
use Rattle.edge_expression.specs.declared.byte_class.Class.{Class}
use Rattle.edge_expression.specs.declared.byte_class.Class.TheVariants as classes
use Rattle.edge_expression.specs.declared.byte_machine.Letter.{Letter}
use Rattle.edge_expression.specs.declared.byte_machine.Letter.TheVariants as letters
use Rattle.edge_expression.specs.declared.byte_machine.State.{State}
use Rattle.edge_expression.specs.declared.byte_machine.State.TheVariants.{Start, Operand, Decimal, Word, Epsilon, Caret, Factor}
use Rattle.edge_expression.specs.declared.byte_machine.Reached.{Reached}

-- what a byte may be in an expression, but for what belongs to decimals and to the letters of `\epsilon`
unfoldable pub class_of : ℕ → Class
class_of b =
    if is_ascii_digit b then classes.Digit
    else if is_blank b then classes.Blank
    else if (b == 43) || (b == 45) then classes.Sign
    else if (b == 42) || (b == 47) then classes.Joint
    else if b == 94 then classes.Caret
    else if b == 40 then classes.Open
    else if b == 41 then classes.Close
    else if b == 92 then classes.Backslash
    else classes.Other

-- the byte after a part of `\epsilon`
abbrev pub next_letter : Letter → ℕ
next_letter letters.Backslash = 101
next_letter letters.E = 112
next_letter letters.P = 115
next_letter letters.S = 105
next_letter letters.I = 108
next_letter letters.L = 111
next_letter letters.O = 110

-- what is read after that byte
abbrev pub with_letter : Letter → State
with_letter letters.Backslash = Word letters.E
with_letter letters.E = Word letters.P
with_letter letters.P = Word letters.S
with_letter letters.S = Word letters.I
with_letter letters.I = Word letters.L
with_letter letters.L = Word letters.O
with_letter letters.O = Epsilon

-- what is read after a byte that may begin a factor other than a decimal
abbrev pub further : Class → Option State
further classes.Backslash = Some (Word letters.Backslash)
further classes.Open = Some Start
further class = None

-- what is read after a byte at which a factor must begin, given the part of a decimal that the byte may begin
abbrev pub operand_parts : Option DecimalPart → Class → Option State
operand_parts (Some part) class = Some (Decimal part)
operand_parts None classes.Blank = Some Operand
operand_parts None class = further class

-- what is read after a byte at which a factor must begin
abbrev pub at_operand : ℕ → Option State
at_operand b = operand_parts (decimal_byte parts.Start b) (class_of b)

-- what is read after a byte at which a sum begins, given what is read if a factor begins there
abbrev pub start_or : Class → Option State → Option State
start_or classes.Blank operand = Some Start
start_or classes.Sign operand = Some Operand
start_or class operand = operand

-- what is read after a byte at which a sum begins
abbrev pub at_start : ℕ → Option State
at_start b = start_or (class_of b) (at_operand b)

-- what is read after a factor and one byte more
abbrev pub behind_factor : Class → Option State
behind_factor classes.Blank = Some Factor
behind_factor classes.Close = Some Factor
behind_factor classes.Sign = Some Operand
behind_factor classes.Joint = Some Operand
behind_factor class = further class

-- what is read after part of a decimal and one byte more, given the longer part, if the byte continues the decimal
abbrev pub behind_parts : Option DecimalPart → Bool → Class → Option State
behind_parts (Some longer) ends class = Some (Decimal longer)
behind_parts None true class = behind_factor class
behind_parts None false class = None

-- what is read after part of a decimal and one byte more
abbrev pub behind_part : DecimalPart → ℕ → Option State
behind_part part b = behind_parts (decimal_byte part b) (ends_decimal part) (class_of b)

-- what is read after `\epsilon` and one byte more
abbrev pub behind_epsilon : Class → Option State
behind_epsilon classes.Caret = Some Caret
behind_epsilon classes.Blank = Some Epsilon
behind_epsilon class = behind_factor class

-- what is read after a caret and one byte more
abbrev pub behind_caret : Class → Option State
behind_caret classes.Blank = Some Caret
behind_caret classes.Digit = Some Factor
behind_caret class = None

-- what is read after part of `\epsilon` and one byte more
abbrev pub behind_letter : Letter → ℕ → Option State
behind_letter letter b = if b == next_letter letter then Some (with_letter letter) else None

-- what is read after one byte more, but for the parentheses that are open
abbrev pub next : State → ℕ → Option State
next Start b = at_start b
next Operand b = at_operand b
next (Decimal part) b = behind_part part b
next (Word letter) b = behind_letter letter b
next Epsilon b = behind_epsilon (class_of b)
next Caret b = behind_caret (class_of b)
next Factor b = behind_factor (class_of b)

-- how many parentheses are open after one byte more, or nothing if it closes one and none is open
abbrev pub opened : Class → ℕ → Option ℕ
opened classes.Open n = Some (suc n)
opened classes.Close zero = None
opened classes.Close (suc n) = Some n
opened class n = Some n

-- the state and the number of open parentheses, if there are both
abbrev pub reached : Option State → Option ℕ → Option Reached
reached (Some state) (Some n) = Some (record { state = state; depth = n })
reached (Some state) None = None
reached None n = None

-- what is read after one byte more, or nothing if no expression begins so
unfoldable pub step : Reached → ℕ → Option Reached
step r b = reached (next r.state b) (opened (class_of b) r.depth)

-- whether a factor may end here
abbrev pub is_whole : State → Bool
is_whole Factor = true
is_whole Epsilon = true
is_whole (Decimal part) = ends_decimal part
is_whole state = false

-- whether an expression may end, given whether a factor may, with this number of open parentheses
abbrev pub ends : Bool → ℕ → Bool
ends true zero = true
ends true (suc n) = false
ends false n = false

-- whether an expression may end here
unfoldable pub may_end : Reached → Bool
may_end r = ends (is_whole r.state) r.depth

-- nothing was read
abbrev pub start : Reached
start = record { state = Start; depth = 0 }
