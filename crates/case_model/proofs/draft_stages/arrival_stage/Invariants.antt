use Rattle.std.proofs.Common.{◌≡◌, not, drop}
use Rattle.case_model.specs.declared.fault.CaseFault.TheVariants.{ArrivalStage}
use Rattle.case_model.specs.Draft.{is_stage}
use Rattle.case_model.specs.CaseFaults.{◌when◌, first_from, arrival_stage}
use Rattle.case_model.proofs.draft_stages.arrival_stage.Given as goal

abbrev pub invariant-loop-n : goal.invariant-loop-n
invariant-loop-n l = first_from (λ n a. ArrivalStage n when not (is_stage l.count a.stage)) l.n (drop l.n l.arrivals) ≡ arrival_stage l.count l.arrivals
