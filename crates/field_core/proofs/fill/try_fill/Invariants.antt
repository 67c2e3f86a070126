use Rattle.field_core.specs.Filled.{AreFilledBelow}
use Rattle.field_core.proofs.fill.try_fill.Given as goal

abbrev pub invariant-loop-k : goal.invariant-loop-k
invariant-loop-k g l = AreFilledBelow (goal.S-post g l.step) l.k l.places
