use Rattle.std.proofs.Common.{inl}
use Rattle.field_core.proofs.Stein.{gcd_of_zero, gcd_with_one, gcd_ordered}
use Rattle.field_core.proofs.binary_gcd.binary_gcd.Goals as goal

pub returns-then-least-eq0 : goal.returns-then-least-eq0
returns-then-least-eq0 c = gcd_ordered c.args.a c.args.b _ _ _ c.min-least.ensures c.max-most.ensures (gcd_of_zero _ _ c.if-least-eq0.true)

pub returns-then-least-eq1 : goal.returns-then-least-eq1
returns-then-least-eq1 c = gcd_ordered c.args.a c.args.b _ _ _ c.min-least.ensures c.max-most.ensures (gcd_with_one _ _ (inl c.if-least-eq1.true))

pub returns-else-least-eq1 : goal.returns-else-least-eq1
returns-else-least-eq1 c = gcd_ordered c.args.a c.args.b _ _ _ c.min-least.ensures c.max-most.ensures c.stepped_gcd.ensures
