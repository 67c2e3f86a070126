use Rattle.std.proofs.Common.{◌-◌, arith}
use Rattle.typed_numbers.proofs.Wide.{product_short, shifted, too_wide}
use Rattle.typed_numbers.proofs.decimals.nearest_decimal.Goals as goal

pub returns-then-places-gt-MOST_PLACES-clause-none : goal.returns-then-places-gt-MOST_PLACES-clause-none
returns-then-places-gt-MOST_PLACES-clause-none c = λ is m k.
    let x = c.args.x in
    too_wide x.places x.low x.middle x.high x.ends c.args.digits m x.valid c.requires.places c.if-places-gt-MOST_PLACES.true k

pub overflow_mul-x : goal.overflow_mul-x
overflow_mul-x c =
    let i = c.args.x.valid in
    let f = product_short c.args.x.low c.args.digits c.args.five (omega arith) c.requires.places c.requires.power in
    omega arith

pub overflow_mul-x-2 : goal.overflow_mul-x-2
overflow_mul-x-2 c =
    let i = c.args.x.valid in
    let f = product_short c.args.x.middle c.args.digits c.args.five (omega arith) c.requires.places c.requires.power in
    omega arith

pub overflow_mul-x-3 : goal.overflow_mul-x-3
overflow_mul-x-3 c =
    let i = c.args.x.valid in
    let f = product_short c.args.x.high c.args.digits c.args.five (omega arith) c.requires.places c.requires.power in
    omega arith

pub nearest_multiple-requires-clause-short : goal.nearest_multiple-requires-clause-short
nearest_multiple-requires-clause-short c =
    let i = c.args.x.valid in
    let f = product_short c.args.x.high c.args.digits c.args.five (omega arith) c.requires.places c.requires.power in
    let g = shifted (c.args.x.places - c.args.digits) c.if-places-gt-MOST_PLACES.false in
    omega arith
