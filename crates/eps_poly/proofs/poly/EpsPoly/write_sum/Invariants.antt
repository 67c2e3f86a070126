use Rattle.std.proofs.Common.{◌≡◌, Some, ◌+ℤ◌}
use Rattle.field_core.specs.Polynomial.{coefficient}
use Rattle.field_core.specs.Sized.{sized}
use Rattle.eps_poly.proofs.InPlace.{Rewritten}
use Rattle.eps_poly.proofs.poly.EpsPoly.write_sum.Given as goal

abbrev pub invariant-loop-power : goal.invariant-loop-power
invariant-loop-power l = Rewritten (λ k c. sized (coefficient l.initial.self k +ℤ coefficient l.fn.other k) ≡ Some c) l.initial.self l.self l.power
