use Rattle.std.proofs.Common.{◌≡◌, ◌||◌, drop}
use Rattle.case_model.specs.declared.fault.CaseFault.TheVariants.{SpendRange}
use Rattle.case_model.specs.CaseFaults.{◌when◌, first_from, is_below_zero, is_lower, level_of, step_before, falling_level}
use Rattle.case_model.proofs.spend_step.falling_level.Given as goal

abbrev pub invariant-loop-t : goal.invariant-loop-t
invariant-loop-t l = first_from (λ t x. SpendRange l.i t when (is_below_zero x || is_lower (level_of (step_before l.steps l.n) t) x)) l.t (drop l.t l.levels) ≡ falling_level l.i (step_before l.steps l.n) l.levels
