use Rattle.std.proofs.Common.{◌≡◌, ◌+◌, length, map}
use Rattle.field_core.specs.OrderOfSets.{lists_after}
use Rattle.case_model.specs.CaseView.{content}
use Rattle.entangled.specs.CaseNetView.{case_state}
use Rattle.closed_test.specs.PathView.{left_of, IsPath}
use Rattle.closed_test.specs.WeightsView.{weights_size, weight_at}
use Rattle.closed_test.specs.Walks.{AreTabledTo, AreStatesAlong, AreLikeTheFirst}
use Rattle.closed_test.proofs.walk.walk.Given as goal

abbrev pub invariant-sets : goal.invariant-sets
invariant-sets l = record {
  size : l.path.size ≡ length (content l.case).names;
  path : IsPath l.path;
  table : weights_size l.table ≡ length (content l.case).names;
  count : length l.nets ≡ length (content l.case).names + 1;
  along : AreStatesAlong (content l.case) (left_of l.path) (map case_state l.nets);
  alike : AreLikeTheFirst (length (content l.case).names + 1) (map case_state l.nets);
  tabled : AreTabledTo (content l.case) (weight_at l.table) (left_of l.path);
}

abbrev pub decreases-sets : goal.decreases-sets
decreases-sets l = lists_after (length (content l.case).names) 0 (left_of l.path)
