use Rattle.std.proofs.Common.{◌<◌, ◌^◌, rules, unsigned_abs}
use Rattle.eps_quotient.specs.Laws.LimitTerms.{lowest_terms}
use Rattle.eps_quotient.proofs.limits.lowest_terms.Goals as goal

pub of_wholes-requires : goal.of_wholes-requires
of_wholes-requires c =
    let sn : unsigned_abs c.args.num < 2 ^ 127 = search rules in
    let sd : unsigned_abs c.args.den < 2 ^ 127 = search rules in
    rw (c.over.ensures, c.over-2.ensures, c.common_divisor-divisor.ensures.value) (lowest_terms c.args.num c.args.den sn sd c.requires)
