use Rattle.std.proofs.Common.{◌∙◌, sym, ap, Some}
use Rattle.eps_quotient.specs.View.{pair_parts}
use Rattle.eps_quotient.proofs.Quick.{quotient_of_zero, quotient_by_one}
use Rattle.eps_quotient.proofs.written.quotient.Goals as goal

pub returns-then-is_zero : goal.returns-then-is_zero
returns-then-is_zero c = ap Some c.zero.ensures ∙ sym (quotient_of_zero (pair_parts c.args.x.now) _ (sym c.is_zero.ensures ∙ c.if-is_zero.true))

pub returns-then-is_one : goal.returns-then-is_one
returns-then-is_one c = sym
    (quotient_by_one (pair_parts c.args.x.now) (pair_parts c.args.y.now) (sym c.is_zero.ensures ∙ c.if-is_zero.false) c.requires
    (sym c.is_one.ensures ∙ c.if-is_one.true))
