use Rattle.std.proofs.Common.{refl}
use Rattle.std.proofs.lemmas.List.{take_rest}
use Rattle.numerals.proofs.SignedTexts.{no_shift, down_shift, up_shift}
use Rattle.numerals.proofs.value.shift.Goals as goal

pub returns-in_default : goal.returns-in_default
returns-in_default c = no_shift c.args.exponent.now _ c.in_default.len_below refl refl

pub returns-then-negative : goal.returns-then-negative
returns-then-negative c =
    down_shift c.args.exponent.now _ _ _ c.split_sign-negative.result.0 _ _ c.in-len1-up.len_at_least
    (take_rest c.args.exponent.now 1) c.split_sign-negative.ensures.minus c.split_sign-negative.ensures.rest c.split_digits.ensures.digits
    c.number_to_far-size.ensures c.if-negative.true refl refl

pub returns : goal.returns
returns c =
    up_shift c.args.exponent.now _ _ _ c.split_sign-negative.result.0 _ _ c.in-len1-up.len_at_least
    (take_rest c.args.exponent.now 1) c.split_sign-negative.ensures.minus c.split_sign-negative.ensures.rest c.split_digits.ensures.digits
    c.number_to_far-size.ensures c.if-negative.false refl refl
