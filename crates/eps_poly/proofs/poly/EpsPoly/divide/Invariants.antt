use Rattle.std.proofs.Common.{◌≡◌, int_div}
use Rattle.field_core.specs.Polynomial.{coefficient}
use Rattle.eps_poly.proofs.InPlace.{Rewritten}
use Rattle.eps_poly.proofs.poly.EpsPoly.divide.Given as goal

abbrev pub invariant-loop-power : goal.invariant-loop-power
invariant-loop-power l = Rewritten (λ k c. c ≡ int_div (coefficient l.initial.self k) l.fn.by) l.initial.self l.self l.power
