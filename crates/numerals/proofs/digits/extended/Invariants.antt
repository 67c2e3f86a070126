use Rattle.std.proofs.Common.{◌^◌}
use Rattle.std.specs.Str.Parse.{digits_value_after}
use Rattle.numerals.proofs.DigitNumbers.{Goes}
use Rattle.numerals.proofs.digits.extended.Given as goal

abbrev pub invariant-loop-digit : goal.invariant-loop-digit
invariant-loop-digit l = Goes l.digits l.digit-index l.number (10 ^ 38) (digits_value_after 10 l.fn.start l.digits)
