use Rattle.std.proofs.lemmas.Nat.Gcd.{IsGcd-from_zero, IsGcd-from_mod}
use Rattle.field_core.proofs.Divisors.{gcd_same, gcd_is}
use Rattle.field_core.proofs.divisor.wide_gcd.Goals as goal

pub steps-preserved : goal.steps-preserved
steps-preserved c g h = c.steps.invariant g (IsGcd-from_mod _ _ g h)

pub returns-then-y-eq0 : goal.returns-then-y-eq0
returns-then-y-eq0 c = gcd_same _ _ _ (c.steps.invariant _ (IsGcd-from_zero _ _ c.if-y-eq0.true))

pub returns : goal.returns
returns c = gcd_same _ _ _ (rw c.binary_gcd.ensures (c.steps.invariant _ (IsGcd-from_mod _ _ _ (gcd_is _ _))))
