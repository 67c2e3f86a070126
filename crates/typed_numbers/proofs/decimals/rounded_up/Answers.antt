use Rattle.std.proofs.Common.{◌-◌, arith}
use Rattle.typed_numbers.proofs.Wide.{shifted, one_above}
use Rattle.typed_numbers.proofs.decimals.rounded_up.Goals as goal

pub returns-then-places-gt-MOST_PLACES : goal.returns-then-places-gt-MOST_PLACES
returns-then-places-gt-MOST_PLACES c =
    let x = c.args.x in
    one_above x.places x.low x.middle x.high x.ends x.valid c.if-places-gt-MOST_PLACES.true

pub first_multiple-requires-clause-short : goal.first_multiple-requires-clause-short
first_multiple-requires-clause-short c =
    let i = c.args.x.valid in
    let g = shifted (c.args.x.places - 30) c.if-places-gt-MOST_PLACES.false in
    omega arith
