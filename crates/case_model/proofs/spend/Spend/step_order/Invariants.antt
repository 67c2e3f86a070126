use Rattle.std.proofs.Common.{◌≡◌, ◌&&◌, not, drop}
use Rattle.case_model.specs.declared.fault.CaseFault.TheVariants.{StepOrder}
use Rattle.case_model.specs.declared.spend.Spend.TheVariants.{Table}
use Rattle.std.specs.Option.{option_map}
use Rattle.case_model.specs.Draft.{is_level_range}
use Rattle.case_model.specs.CaseFaults.{◌when◌, first_from, is_later, step_before, step_order}
use Rattle.case_model.proofs.spend.Spend.step_order.Given as goal

abbrev pub invariant-loop-n : goal.invariant-loop-n
invariant-loop-n l = first_from (λ n s. StepOrder l.i n when not (is_level_range s.from && is_later (option_map (λ x. x.from) (step_before l.steps n)) s.from)) l.n (drop l.n l.steps) ≡ step_order l.i (Table l.steps)
