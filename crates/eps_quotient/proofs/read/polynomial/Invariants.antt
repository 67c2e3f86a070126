use Rattle.std.proofs.Common.{◌≡◌, ◌==◌}
use Rattle.std.specs.List.{slice_split}
use Rattle.eps_quotient.specs.Texts.{polynomial_of}
use Rattle.eps_quotient.proofs.ReadSteps.{filled}
use Rattle.eps_quotient.proofs.read.polynomial.Given as goal

abbrev pub invariant-loop-power : goal.invariant-loop-power
invariant-loop-power l = filled l.power l.polynomial (slice_split (λ b. b == 44) l.rest) ≡ polynomial_of (slice_split (λ b. b == 44) l.fn.text)
