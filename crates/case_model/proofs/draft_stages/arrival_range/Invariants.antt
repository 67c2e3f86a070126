use Rattle.std.proofs.Common.{◌≡◌, not, drop}
use Rattle.case_model.specs.declared.fault.CaseFault.TheVariants.{ArrivalRange}
use Rattle.fraction.specs.View.{number_of}
use Rattle.case_model.specs.Draft.{is_unit}
use Rattle.case_model.specs.CaseFaults.{◌when◌, first_from, arrival_range}
use Rattle.case_model.proofs.draft_stages.arrival_range.Given as goal

abbrev pub invariant-loop-n : goal.invariant-loop-n
invariant-loop-n l = first_from (λ n a. ArrivalRange n when not (is_unit (number_of a.p))) l.n (drop l.n l.arrivals) ≡ arrival_range l.arrivals
