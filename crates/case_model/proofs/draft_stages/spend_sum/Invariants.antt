use Rattle.std.proofs.Common.{◌≡◌, drop}
use Rattle.case_model.specs.CaseFaults.{first_from, first_of, spend_sum}
use Rattle.case_model.proofs.draft_stages.spend_sum.Given as goal

abbrev pub invariant-loop-i : goal.invariant-loop-i
invariant-loop-i l = first_from (spend_sum l.alpha) l.i (drop l.i l.spends) ≡ first_of (spend_sum l.alpha) l.spends
