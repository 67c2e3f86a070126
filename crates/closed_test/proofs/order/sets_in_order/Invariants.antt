use Rattle.std.proofs.Common.{◌≡◌}
use Rattle.field_core.specs.OrderOfSets.{lists_after}
use Rattle.closed_test.specs.PathView.{left_of, IsPath}
use Rattle.closed_test.proofs.SetLists.{AreListedTo}
use Rattle.closed_test.proofs.order.sets_in_order.Given as goal

abbrev pub invariant-sets : goal.invariant-sets
invariant-sets l = record {
  size : l.path.size ≡ l.size;
  path : IsPath l.path;
  listed : AreListedTo l.size l.sets (left_of l.path);
}

abbrev pub decreases-sets : goal.decreases-sets
decreases-sets l = lists_after l.size 0 (left_of l.path)
