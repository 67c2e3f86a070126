use Rattle.std.proofs.Common.{sym, ◌∙◌}
use Rattle.field_core.proofs.Live.{true_not_false}
use Rattle.fraction.specs.View.{number_of}
use Rattle.case_model.proofs.Comparisons.{le_is}
use Rattle.adjusted_p.proofs.Greater.{second_greater, first_greater}
use Rattle.adjusted_p.proofs.adjusted.greater.Goals as goal

pub returns-then-le : goal.returns-then-le
returns-then-le c = second_greater (number_of c.args.x.now) (number_of c.args.y.now) (sym (c.le.ensures ∙ le_is c.args.x.now c.args.y.now) ∙ c.if-le.true)

pub returns-else-le : goal.returns-else-le
returns-else-le c = first_greater (number_of c.args.x.now) (number_of c.args.y.now)
    (λ h. true_not_false (sym ((c.le.ensures ∙ le_is c.args.x.now c.args.y.now) ∙ h) ∙ c.if-le.false))
