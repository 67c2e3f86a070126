use Rattle.std.proofs.Common.{◌≡◌, Some}
use Rattle.field_core.specs.View.{terms}
use Rattle.case_model.specs.Sums.{written_sum}
use Rattle.closed_test.specs.WeightsView.{weight_at}
use Rattle.simes_test.specs.SimesSums.{weight_up_to}
use Rattle.simes_test.proofs.sums.sum_up_to.Given as goal

abbrev pub invariant-loop-i : goal.invariant-loop-i
invariant-loop-i l = written_sum l.i (weight_up_to l.p_values (weight_at l.weights) l.set l.j) ≡ Some (terms l.sum)
