use Rattle.std.proofs.Common.{◌∙◌, sym, refl}
use Rattle.numerals.proofs.Cut.{digits_append}
use Rattle.numerals.proofs.Bodies.{read_pair, read_pointed, read_plain}
use Rattle.numerals.proofs.value.value.Goals as goal

pub returns-in-Some : goal.returns-in-Some
returns-in-Some c = read_pair c.args.body.now _ c.in-Some.rest.now _ c.pair.result c.split_digits.ensures.digits
    (sym c.in-Some.ensures ∙ c.split_digits.ensures.rest) c.split_digits-in-Some.ensures.digits c.pair.ensures

pub value-requires : goal.value-requires
value-requires c = digits_append _ _ c.split_digits.ensures.are c.split_digits-in-Some-after_byte.ensures.are

pub returns-in-Some-after_byte : goal.returns-in-Some-after_byte
returns-in-Some-after_byte c =
    read_pointed c.args.body.now c.in-Some-after_byte.rest.now _ _ _ _ c.split_digits.ensures.digits
    (sym c.in-Some-after_byte.ensures ∙ c.split_digits.ensures.rest) c.split_digits-in-Some-after_byte.ensures.digits c.split_digits-in-Some-after_byte.ensures.rest
    c.shift.ensures c.value.ensures

pub returns : goal.returns
returns c = read_plain c.args.body.now c.split_digits.result.1.now _ _ _ c.split_digits.ensures.digits c.split_digits.ensures.rest c.in_default.ensures
    c.in_default-after_byte.ensures refl c.shift-2.ensures c.value-2.ensures
