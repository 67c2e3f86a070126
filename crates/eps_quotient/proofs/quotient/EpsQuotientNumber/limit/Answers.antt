use Rattle.std.proofs.Common.{◌∙◌, sym, subst}
use Rattle.field_core.specs.Terms.{IsReduced}
use Rattle.eps_quotient.specs.View.{quotient_parts}
use Rattle.eps_quotient.specs.Laws.Exact.{limit_in_lowest_terms, first_positive}
use Rattle.eps_quotient.proofs.Stored.{terms_made}
use Rattle.eps_quotient.proofs.quotient.EpsQuotientNumber.limit.Goals as goal

pub common_divisor-divisor-requires : goal.common_divisor-divisor-requires
common_divisor-divisor-requires c =
    let x = c.args.self.now in
    rw c.whole-den.ensures (first_positive (quotient_parts x) x.stored c.requires)

pub of_wholes-requires : goal.of_wholes-requires
of_wholes-requires c =
    let x = c.args.self.now in
    subst IsReduced
    (sym (terms_made x.pair.numerator x.pair.denominator _ _ _ _ _ c.whole-num.ensures c.whole-den.ensures c.common_divisor-divisor.ensures.value c.over.ensures
    c.over-2.ensures))
    (limit_in_lowest_terms (quotient_parts x) x.stored c.requires)

pub returns : goal.returns
returns c =
    let x = c.args.self.now in
    c.of_wholes.ensures
    ∙ terms_made x.pair.numerator x.pair.denominator _ _ _ _ _ c.whole-num.ensures c.whole-den.ensures c.common_divisor-divisor.ensures.value c.over.ensures
    c.over-2.ensures
