use Rattle.std.proofs.Common.{◌≡◌, ◌<◌, ℕ, pos}
use Rattle.field_core.specs.Polynomial.{coefficient}
use Rattle.eps_poly.proofs.poly.EpsPoly.order.Given as goal

abbrev pub invariant-loop-power : goal.invariant-loop-power
invariant-loop-power l = (k : ℕ) → k < l.power → coefficient l.fn.self k ≡ pos 0
