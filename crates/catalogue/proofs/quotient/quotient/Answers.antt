use Rattle.std.proofs.Common.{◌<◌, ◌^◌, ◌∙◌, ap₂, pos, arith}
use Rattle.std.specs.Int.{w128}
use Rattle.std.proofs.lemmas.Int.{to_z_pos}
use Rattle.numerals.specs.Lowest.{lowest_terms}
use Rattle.catalogue.proofs.RatiosOf.{quotient_is, no_fault}
use Rattle.catalogue.proofs.quotient.quotient.Goals as goal

pub unreachable-requires : goal.unreachable-requires
unreachable-requires c =
    let top : c.args.num < 2 ^ 127 = omega arith in
    let low : c.args.den < 2 ^ 127 = omega arith in
    no_fault (pos c.args.num) _ _ c.args.den c.new.result c.in-Err.field-0 (to_z_pos w128 c.args.num top)
    (to_z_pos w128 c.args.den low) c.requires top low c.in-Err.is c.new.ensures.zero c.new.ensures.wide

pub returns : goal.returns
returns c =
    let top : c.args.num < 2 ^ 127 = omega arith in
    let low : c.args.den < 2 ^ 127 = omega arith in
    quotient_is (pos c.args.num) c.args.den c.in-Ok.fraction
    (c.in-Ok.ensures.lowest ∙ ap₂ lowest_terms (to_z_pos w128 c.args.num top) (to_z_pos w128 c.args.den low))
