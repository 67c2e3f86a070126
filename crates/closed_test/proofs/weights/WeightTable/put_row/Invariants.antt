use Rattle.std.proofs.Common.{◌≡◌, ◌≢◌, ℕ, ◌<◌, true}
use Rattle.field_core.specs.View.{terms}
use Rattle.entangled.specs.CaseNetView.{case_state}
use Rattle.entangled.specs.CaseRun.{case_level, is_live_in_case}
use Rattle.closed_test.specs.WeightsView.{weights_size, weight_at}
use Rattle.closed_test.proofs.weights.WeightTable.put_row.Given as goal

abbrev pub invariant-loop-k : goal.invariant-loop-k
invariant-loop-k l = record {
  size : weights_size l.self ≡ weights_size l.fn.self;
  row : (j : ℕ) → j < l.k → is_live_in_case (case_state l.nets) j ≡ true → terms (weight_at l.self l.set j) ≡ case_level (case_state l.nets) j;
  others : (n j : ℕ) → j < 16 → n ≢ l.set → weight_at l.self n j ≡ weight_at l.fn.self n j;
}
