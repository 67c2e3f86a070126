use Rattle.std.proofs.Common.{◌≡◌, ℕ, ◌<◌}
use Rattle.field_core.specs.Polynomial.{coefficient}
use Rattle.eps_poly.proofs.poly.EpsPoly.is_same_below.Given as goal

abbrev pub invariant-loop-power : goal.invariant-loop-power
invariant-loop-power l = (k : ℕ) → k < l.power → coefficient l.fn.self k ≡ coefficient l.fn.other k
