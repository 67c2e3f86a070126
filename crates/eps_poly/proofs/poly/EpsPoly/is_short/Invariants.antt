use Rattle.std.proofs.Common.{ℕ, ◌<◌, FitsSigned}
use Rattle.std.specs.Int.{w64}
use Rattle.field_core.specs.Polynomial.{coefficient}
use Rattle.eps_poly.proofs.poly.EpsPoly.is_short.Given as goal

abbrev pub invariant-loop-power : goal.invariant-loop-power
invariant-loop-power l = (k : ℕ) → k < l.power → FitsSigned w64 (coefficient l.fn.self k)
