use Rattle.std.proofs.Common.{◌≡◌, Some, ◌+◌}
use Rattle.eps_poly.specs.Written.{written_coefficient}
use Rattle.eps_poly.proofs.InPlace.{Rewritten}
use Rattle.eps_poly.proofs.poly.EpsPoly.write_product.Given as goal

abbrev pub invariant-loop-power : goal.invariant-loop-power
invariant-loop-power l = Rewritten (λ k c. written_coefficient l.fn.left l.fn.right k (k + 1) ≡ Some c) l.initial.self l.self l.power
