use Rattle.std.proofs.Common.{subst, ◌∙◌}
use Rattle.case_model.specs.Draft.{ArePValues}
use Rattle.trial_rows.proofs.Readings.{zeros}
use Rattle.trial_rows.proofs.rows.test_rows.Goals as goal

pub open_with-requires : goal.open_with-requires
open_with-requires c = subst (λ n. ArePValues n c.deref.result.now) c.size-2.ensures.count
    (zeros c.size-2.result c.zero.result c.deref.result.now c.zero.ensures
    (c.deref.ensures.value ∙ c.in_ok-p_values.ensures.items_if_clones_equal (λ y e. e)))
