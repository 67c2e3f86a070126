use Rattle.std.proofs.Common.{◌≡◌, ◌||◌, not, nat_le, drop}
use Rattle.case_model.specs.declared.fault.CaseFault.TheVariants.{SpendCount}
use Rattle.case_model.specs.CaseFaults.{◌when◌, first_from, first_of, has_all_stages}
use Rattle.case_model.proofs.draft_stages.spend_count.Given as goal

abbrev pub invariant-loop-i : goal.invariant-loop-i
invariant-loop-i l = first_from (λ i s. SpendCount i when (nat_le l.size i || not (has_all_stages l.count s))) l.i (drop l.i l.spends) ≡ first_of (λ i s. SpendCount i when (nat_le l.size i || not (has_all_stages l.count s))) l.spends
