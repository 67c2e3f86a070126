use Rattle.std.proofs.Common.{◌≡◌, ◌≤◌, ℕ, pos, set}
use Rattle.field_core.specs.Polynomial.{coefficient}
use Rattle.eps_poly.proofs.poly.EpsPoly.used_with.Given as goal

abbrev pub invariant-loop-at : goal.invariant-loop-at
invariant-loop-at l = (k : ℕ) → l.at ≤ k → coefficient (set l.fn.self l.fn.power l.fn.c) k ≡ pos 0
