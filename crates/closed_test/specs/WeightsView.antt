-- Tables of weights as contracts see them.
use Rattle.std.specs.Prelude.{ℕ, ◌+◌, ◌*◌}
use Rattle.field_core.specs.declared.ratio.Ratio.{Ratio}
use Rattle.case_model.specs.Sums.{ratio_at}
use Rattle.closed_test.specs.declared.weights.WeightTable.{WeightTable}

-- the number of hypotheses that a table is for
abbrev pub weights_size : WeightTable → ℕ
weights_size t = t.size

-- the weight of `k` in the set of `n`, and some fraction if `k` isn't a member
unfoldable pub weight_at : WeightTable → ℕ → ℕ → Ratio
weight_at t n k = ratio_at t.weights (n * 16 + k)
