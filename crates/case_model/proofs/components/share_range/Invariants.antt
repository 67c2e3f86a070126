use Rattle.std.proofs.Common.{◌≡◌, drop}
use Rattle.case_model.specs.declared.fault.CaseFault.TheVariants.{ShareRange}
use Rattle.case_model.specs.CaseFaults.{◌when◌, first_from, is_below_zero, share_range}
use Rattle.case_model.proofs.components.share_range.Given as goal

abbrev pub invariant-loop-c : goal.invariant-loop-c
invariant-loop-c l = first_from (λ c k. ShareRange c when is_below_zero k.share) l.c (drop l.c l.components) ≡ share_range l.components
