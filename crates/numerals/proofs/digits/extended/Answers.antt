use Rattle.std.proofs.Common.{arith}
use Rattle.numerals.proofs.DigitNumbers.{digit_at, goes_on, goes_below, goes_end, value_below}
use Rattle.numerals.proofs.digits.extended.Goals as goal

pub overflow_mul-number : goal.overflow_mul-number
overflow_mul-number c = let b = goes_below c.args.digits.now c.loop-digit.digit-index c.loop-digit.number _ _ c.loop-digit-test.true c.loop-digit.invariant in
    record { fits = omega arith }

pub overflow_sub-digit : goal.overflow_sub-digit
overflow_sub-digit c = (digit_at c.args.digits.now c.loop-digit.digit-index c.requires.digits c.loop-digit-test.true).0

pub overflow_add-number : goal.overflow_add-number
overflow_add-number c =
    let d = digit_at c.args.digits.now c.loop-digit.digit-index c.requires.digits c.loop-digit-test.true in
    let b = goes_below c.args.digits.now c.loop-digit.digit-index c.loop-digit.number _ _ c.loop-digit-test.true c.loop-digit.invariant in
    record { fits = omega arith }

pub loop-digit-preserved : goal.loop-digit-preserved
loop-digit-preserved c = rw c.from.ensures
    (goes_on c.args.digits.now c.loop-digit.digit-index c.loop-digit.number _ _ c.requires.digits c.loop-digit-test.true c.loop-digit.invariant)

pub returns-clause-below : goal.returns-clause-below
returns-clause-below c = rw (goes_end c.args.digits.now c.loop-digit.digit-index c.loop-digit.number _ _ c.loop-digit-test.false c.loop-digit.invariant)
    (value_below c.args.start c.args.digits.now c.requires.digits)
