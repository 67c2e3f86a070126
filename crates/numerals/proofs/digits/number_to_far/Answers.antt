use Rattle.std.proofs.Common.{◌^◌}
use Rattle.numerals.proofs.DigitNumbers.{digit_at, far_on}
use Rattle.numerals.proofs.digits.number_to_far.Goals as goal

pub overflow_sub-digit : goal.overflow_sub-digit
overflow_sub-digit c = (digit_at c.args.digits.now c.loop-digit.digit-index c.requires c.loop-digit-test.true).0

pub loop-digit-preserved : goal.loop-digit-preserved
loop-digit-preserved c = far_on c.args.digits.now c.loop-digit.digit-index c.loop-digit.number _
    (2 ^ 100) c.requires c.loop-digit-test.true c.loop-digit.invariant (rw (← c.from.ensures) c.min-number.ensures)
