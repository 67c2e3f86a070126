use Rattle.std.proofs.Common.{◌≡◌, ℕ, ◌<◌, true}
use Rattle.field_core.specs.NumberedSets.{members}
use Rattle.fraction.specs.View.{number_of}
use Rattle.case_model.specs.Sums.{number_at}
use Rattle.case_model.specs.ClosedTest.{Passes}
use Rattle.closed_test.specs.WeightsView.{weight_at}
use Rattle.closed_test.proofs.table.has_passing.Given as goal

abbrev pub invariant-loop-k : goal.invariant-loop-k
invariant-loop-k l = (j : ℕ) → j < l.k → members l.set j ≡ true
    → ¬ Passes (number_at l.p_values j) (number_of (weight_at l.weights l.set j)) (number_of l.alpha)
