use Rattle.typed_numbers.specs.Laws.Multiples.{nearest_found}
use Rattle.typed_numbers.proofs.decimals.nearest_multiple.Goals as goal

pub returns-clause-found : goal.returns-clause-found
returns-clause-found c =
    nearest_found c.args.low c.args.middle c.args.high c.args.ends c.args.unit c.first_multiple-first.result c.rounded.result c.max.result
    c.requires.ends c.requires.some c.requires.lopsided c.first_multiple-first.ensures.from_low c.if-high-ends.false c.first_multiple-first.ensures.least
    (record { from_low = c.rounded.ensures.from_low; to_high = c.rounded.ensures.to_high }) c.max.ensures
