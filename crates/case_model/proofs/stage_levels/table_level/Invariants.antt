use Rattle.std.proofs.Common.{◌≡◌, drop, None}
use Rattle.fraction.specs.View.{number_of}
use Rattle.case_model.specs.Spends.{last_step}
use Rattle.case_model.proofs.stage_levels.table_level.Given as goal

abbrev pub invariant-loop-n : goal.invariant-loop-n
invariant-loop-n l = last_step (drop l.n l.steps) (number_of l.weight) ≡ None
