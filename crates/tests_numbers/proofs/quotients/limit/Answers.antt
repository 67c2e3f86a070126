use Rattle.std.proofs.Common.{◌∙◌, sym}
use Rattle.eps_quotient.specs.View.{quotient_parts}
use Rattle.eps_quotient.proofs.Units.{unit_by_tests}
use Rattle.tests_numbers.proofs.quotients.limit.Goals as goal

pub limit-requires : goal.limit-requires
limit-requires c =
    unit_by_tests (quotient_parts c.args.x.now) (quotient_parts c.one.result) c.in-Ok.order c.sign.result c.args.x.now.stored c.one.result.stored c.one.ensures
    (sym c.in-Ok.ensures)
    (sym c.is_gt.ensures ∙ c.if-is_gt.false) c.sign.ensures (sym c.is_lt.ensures ∙ c.if-is_lt.false)
