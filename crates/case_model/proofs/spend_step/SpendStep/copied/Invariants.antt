use Rattle.std.proofs.Common.{◌≡◌, take}
use Rattle.case_model.proofs.spend_step.SpendStep.copied.Given as goal

abbrev pub invariant-loop-n : goal.invariant-loop-n
invariant-loop-n l = l.all ≡ take l.n l.steps
