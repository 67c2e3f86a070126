use Rattle.std.proofs.Common.{◌≡◌, ◌<◌, ◌^◌, ◌∙◌, ap₂, negsuc, arith, lit<, to_z, of_z}
use Rattle.std.specs.Int.{w128}
use Rattle.std.proofs.lemmas.Int.{to_z_pos, to_z-of_z, fits_signed_from_abs}
use Rattle.numerals.specs.Lowest.{lowest_terms}
use Rattle.catalogue.proofs.RatiosOf.{quotient_is, no_fault}
use Rattle.catalogue.proofs.quotient.minus_part.Goals as goal

minus_one : to_z w128 (of_z w128 (negsuc 0)) ≡ negsuc 0
minus_one = to_z-of_z w128 (negsuc 0) (fits_signed_from_abs w128 (negsuc 0) (lit< tt))

pub unreachable-requires : goal.unreachable-requires
unreachable-requires c =
    let low : c.args.n < 2 ^ 127 = omega arith in
    no_fault (negsuc 0) _ _ c.args.n c.new.result c.in-Err.field-0 minus_one (to_z_pos w128 c.args.n low) c.requires
    (lit< tt) low c.in-Err.is c.new.ensures.zero c.new.ensures.wide

pub returns : goal.returns
returns c =
    let low : c.args.n < 2 ^ 127 = omega arith in
    quotient_is (negsuc 0) c.args.n c.in-Ok.fraction (c.in-Ok.ensures.lowest ∙ ap₂ lowest_terms minus_one (to_z_pos w128 c.args.n low))
