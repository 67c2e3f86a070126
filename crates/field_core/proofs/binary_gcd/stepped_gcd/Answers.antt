use Rattle.field_core.proofs.Divisors.{gcd_is}
use Rattle.field_core.proofs.Stein.{after_step, divisor_divides, remainder_one}
use Rattle.field_core.proofs.binary_gcd.stepped_gcd.Goals as goal

pub returns-then-rest-eq0 : goal.returns-then-rest-eq0
returns-then-rest-eq0 c = divisor_divides c.args.a c.args.b c.if-rest-eq0.true

pub returns-then-rest-eq1 : goal.returns-then-rest-eq1
returns-then-rest-eq1 c = remainder_one c.args.a c.args.b c.if-rest-eq1.true

pub returns-else-rest-eq1 : goal.returns-else-rest-eq1
returns-else-rest-eq1 c = after_step c.args.a c.args.b _ (rw c.positive_gcd.ensures (gcd_is _ _))
