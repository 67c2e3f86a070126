use Rattle.std.proofs.Common.{◌≡◌, ℕ, ◌<◌, true}
use Rattle.field_core.specs.NumberedSets.{members}
use Rattle.closed_test.specs.WeightsView.{weights_size, weight_at}
use Rattle.simes_test.specs.SimesSums.{IsSumDefined}
use Rattle.simes_test.specs.Tested.{PassesAtSum}
use Rattle.simes_test.proofs.set_test.is_rejected.Given as goal

abbrev pub invariant-loop-j : goal.invariant-loop-j
invariant-loop-j l = record {
  defined : (i : ℕ) → i < l.j → members l.set i ≡ true → IsSumDefined (weights_size l.weights) l.p_values (weight_at l.weights) l.set i;
  found : l.rejected ≡ true → (i : ℕ) × (i < l.j) × (members l.set i ≡ true)
      × PassesAtSum (weights_size l.weights) l.p_values (weight_at l.weights) l.alpha l.set i;
  each : (i : ℕ) → i < l.j → members l.set i ≡ true → PassesAtSum (weights_size l.weights) l.p_values (weight_at l.weights) l.alpha l.set i
      → l.rejected ≡ true;
}
