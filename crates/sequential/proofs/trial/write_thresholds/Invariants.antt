use Rattle.std.proofs.Common.{◌≡◌, ℕ, ◌<◌, length}
use Rattle.field_core.specs.Arithmetic.{◌*ε◌}
use Rattle.fraction.specs.View.{number_of}
use Rattle.case_model.specs.Sums.{number_at}
use Rattle.sequential.proofs.trial.write_thresholds.Given as goal

abbrev pub invariant-loop-k : goal.invariant-loop-k
invariant-loop-k l = record {
  room : length l.thresholds ≡ length l.p_values;
  each : (i : ℕ) → i < l.k → number_at l.thresholds i *ε number_of l.alpha ≡ number_at l.p_values i;
}
