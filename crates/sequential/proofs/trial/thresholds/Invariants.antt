use Rattle.std.proofs.Common.{◌≡◌, ℕ, ◌<◌, length}
use Rattle.field_core.specs.Arithmetic.{◌*ε◌}
use Rattle.fraction.specs.View.{number_of}
use Rattle.case_model.specs.Sums.{number_at}
use Rattle.sequential.proofs.trial.thresholds.Given as goal

abbrev pub invariant-loop-p : goal.invariant-loop-p
invariant-loop-p l = record {
  count : length l.thresholds ≡ l.p-index;
  each : (k : ℕ) → k < l.p-index → number_at l.thresholds k *ε number_of l.alpha ≡ number_at l.fn.p_values k;
}
