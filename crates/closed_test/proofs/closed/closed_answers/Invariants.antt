use Rattle.std.proofs.Common.{◌≡◌, ◌-◌}
use Rattle.case_model.specs.SetTableView.{answer_of}
use Rattle.case_model.specs.SetAnswers.{AreClosedFrom}
use Rattle.closed_test.proofs.closed.closed_answers.Given as goal

abbrev pub invariant-loop-done : goal.invariant-loop-done
invariant-loop-done l = record {
  size : l.closed.size ≡ l.local.size;
  each : AreClosedFrom l.local.size (answer_of l.local) (answer_of l.closed) (l.sets - l.done);
}
