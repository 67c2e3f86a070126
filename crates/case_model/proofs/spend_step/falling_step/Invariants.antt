use Rattle.std.proofs.Common.{◌≡◌, drop}
use Rattle.case_model.specs.CaseFaults.{first_from, first_of, step_before, falling_level}
use Rattle.case_model.proofs.spend_step.falling_step.Given as goal

abbrev pub invariant-loop-n : goal.invariant-loop-n
invariant-loop-n l = first_from (λ n s. falling_level l.i (step_before l.steps n) s.levels) l.n (drop l.n l.steps) ≡ first_of (λ n s. falling_level l.i (step_before l.steps n) s.levels) l.steps
