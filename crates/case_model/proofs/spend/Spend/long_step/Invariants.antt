use Rattle.std.proofs.Common.{◌≡◌, ◌&&◌, not, drop}
use Rattle.case_model.specs.declared.fault.CaseFault.TheVariants.{PartTooLong}
use Rattle.case_model.specs.declared.fault.PartPlace.TheVariants.{Step}
use Rattle.case_model.specs.declared.spend.Spend.TheVariants.{Table}
use Rattle.std.specs.List.{list_all}
use Rattle.case_model.specs.Draft.{is_short}
use Rattle.case_model.specs.CaseFaults.{◌when◌, first_from, long_step}
use Rattle.case_model.proofs.spend.Spend.long_step.Given as goal

abbrev pub invariant-loop-n : goal.invariant-loop-n
invariant-loop-n l = first_from (λ n s. PartTooLong (Step l.i n) when not (is_short s.from && list_all is_short s.levels)) l.n (drop l.n l.steps) ≡ long_step l.i (Table l.steps)
