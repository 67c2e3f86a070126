use Rattle.std.proofs.Common.{◌≡◌}
use Rattle.field_core.specs.OrderOfSets.{lists_after}
use Rattle.case_model.specs.SetTableView.{table_size, answer_of}
use Rattle.closed_test.specs.PathView.{path_size, left_of, IsPath}
use Rattle.closed_test.specs.WeightsView.{weights_size, weight_at}
use Rattle.simes_test.specs.Tested.{AreTestedBefore}
use Rattle.simes_test.proofs.table.local_answers.Given as goal

abbrev pub invariant-sets : goal.invariant-sets
invariant-sets l = record {
  size : path_size l.path ≡ weights_size l.weights;
  path : IsPath l.path;
  table : table_size l.local ≡ weights_size l.weights;
  tested : AreTestedBefore (weights_size l.weights) l.p_values (weight_at l.weights) l.alpha (answer_of l.local) (left_of l.path);
}

abbrev pub decreases-sets : goal.decreases-sets
decreases-sets l = lists_after (weights_size l.weights) 0 (left_of l.path)
