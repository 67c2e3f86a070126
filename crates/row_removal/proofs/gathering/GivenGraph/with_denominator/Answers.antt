use Rattle.std.proofs.Common.{◌≡◌, ◌*ℤ◌, int_div, rules}
use Rattle.field_core.specs.Sized.{sized, gcd_of}
use Rattle.field_core.specs.Steps.{at}
use Rattle.field_core.specs.declared.place.Op.TheVariants.{Mul}
use Rattle.row_removal.specs.Gathering.{place_of}
use Rattle.row_removal.proofs.Given.{positive_next}
use Rattle.row_removal.proofs.gathering.GivenGraph.with_denominator.Goals as goal

pub returns-clause-positive : goal.returns-clause-positive
returns-clause-positive c =
    let place = place_of c.args.row c.args.k in
    let d = c.below-below.result in
    let value : c.ok_or.result ≡ at place Mul (sized (int_div c.args.c (gcd_of c.args.c d) *ℤ d)) = search rules in
    rw value (positive_next place c.args.c d c.requires.positive c.below-below.ensures.positive)
