use Rattle.std.proofs.Common.{◌≡◌, not, drop}
use Rattle.case_model.specs.declared.fault.CaseFault.TheVariants.{PartTooLong}
use Rattle.case_model.specs.declared.fault.PartPlace.TheVariants.{Arrival}
use Rattle.case_model.specs.Draft.{is_short_p_value}
use Rattle.case_model.specs.CaseFaults.{◌when◌, first_from, long_arrival}
use Rattle.case_model.proofs.draft_stages.long_arrival.Given as goal

abbrev pub invariant-loop-n : goal.invariant-loop-n
invariant-loop-n l = first_from (λ n a. PartTooLong (Arrival n) when not (is_short_p_value a.p)) l.n (drop l.n l.arrivals) ≡ long_arrival l.arrivals
