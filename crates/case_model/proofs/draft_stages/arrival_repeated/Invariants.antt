use Rattle.std.proofs.Common.{◌≡◌, drop}
use Rattle.case_model.specs.CaseFaults.{first_from, repeated_arrival, arrival_repeated}
use Rattle.case_model.proofs.draft_stages.arrival_repeated.Given as goal

abbrev pub invariant-loop-n : goal.invariant-loop-n
invariant-loop-n l = first_from (repeated_arrival l.arrivals) l.n (drop l.n l.arrivals) ≡ arrival_repeated l.arrivals
