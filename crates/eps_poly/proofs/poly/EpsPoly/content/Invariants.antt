use Rattle.std.proofs.Common.{◌≡◌, drop}
use Rattle.eps_poly.specs.Factors.{content}
use Rattle.eps_poly.proofs.poly.EpsPoly.content.Given as goal

abbrev pub invariant-loop-power : goal.invariant-loop-power
invariant-loop-power l = l.divisor ≡ content (drop l.power l.fn.self)
