use Rattle.std.proofs.Common.{◌≡◌, ◌∷◌, ◌++◌, map, take}
use Rattle.std.specs.Fmt.{signed_decimal}
use Rattle.std.specs.List.{join_with_byte}
use Rattle.eps_quotient.proofs.print.put_polynomial.Given as goal

abbrev pub invariant-loop-power : goal.invariant-loop-power
invariant-loop-power l = l.text ≡ l.fn.text ++ 91 ∷ join_with_byte 44 (map signed_decimal (take l.power l.p))
