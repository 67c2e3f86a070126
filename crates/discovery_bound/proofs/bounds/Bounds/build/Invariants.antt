use Rattle.std.proofs.Common.{◌≡◌, length}
use Rattle.case_model.specs.SetTableView.{answer_of}
use Rattle.discovery_bound.specs.BoundLists.{AreBounds}
use Rattle.discovery_bound.proofs.bounds.Bounds.build.Given as goal

abbrev pub invariant-loop-set : goal.invariant-loop-set
invariant-loop-set l = record { count : length l.bounds ≡ l.set; each : AreBounds l.closed.size (answer_of l.closed) l.bounds l.set }
