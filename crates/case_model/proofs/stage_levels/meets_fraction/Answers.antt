use Rattle.std.proofs.Common.{sym, ◌∙◌}
use Rattle.field_core.proofs.Live.{true_not_false}
use Rattle.fraction.specs.View.{number_of}
use Rattle.case_model.proofs.StageLevels.{at_positive, none_spent, spent_tested}
use Rattle.case_model.proofs.stage_levels.meets_fraction.Goals as goal

pub returns-then-is_above_zero-2 : goal.returns-then-is_above_zero-2
returns-then-is_above_zero-2 c =
    spent_tested (number_of c.args.fraction.now) (number_of c.args.weight.now) (number_of c.args.alpha.now)
    (number_of c.full_level-level.result) c.full_level-level.ensures.value (number_of c.args.p.now) (number_of c.weight_for.result) c.is_at_most.result
    (sym c.is_above_zero.ensures ∙ c.if-is_above_zero.true)
    (sym c.is_above_zero-then-is_above_zero.ensures ∙ c.if-is_above_zero-2.true) c.weight_for.ensures c.is_at_most.ensures

pub returns-else-is_above_zero-2 : goal.returns-else-is_above_zero-2
returns-else-is_above_zero-2 c = (
  λ h. absurd (true_not_false (sym h)),
  λ m. absurd (none_spent (number_of c.args.fraction.now) (number_of c.args.weight.now) (number_of c.args.alpha.now)
      (number_of c.full_level-level.result) c.full_level-level.ensures.value (number_of c.args.p.now)
      (sym c.is_above_zero-then-is_above_zero.ensures ∙ c.if-is_above_zero-2.false) m),
)

pub returns-else-is_above_zero : goal.returns-else-is_above_zero
returns-else-is_above_zero c = (
  λ h. absurd (true_not_false (sym h)),
  λ m. absurd
      (true_not_false (sym (at_positive (number_of c.args.weight.now) m.positive) ∙ sym c.is_above_zero.ensures ∙ c.if-is_above_zero.false)),
)
