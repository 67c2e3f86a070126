use Rattle.std.proofs.Common.{◌≡◌, ℕ, ◌<◌, ◌↔◌, true}
use Rattle.case_model.specs.SetTableView.{table_size, answer_of}
use Rattle.closed_test.specs.WeightsView.{weights_size, weight_at}
use Rattle.closed_test.specs.Passing.{HasPassing}
use Rattle.closed_test.proofs.table.local_answers.Given as goal

abbrev pub invariant-loop-set : goal.invariant-loop-set
invariant-loop-set l = record {
  size : table_size l.local ≡ weights_size l.weights;
  each : (n : ℕ) → n < l.set → (answer_of l.local n ≡ true) ↔ HasPassing (weights_size l.weights) l.p_values (weight_at l.weights) l.alpha n;
}
