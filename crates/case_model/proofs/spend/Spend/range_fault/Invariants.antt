use Rattle.std.proofs.Common.{◌≡◌, drop}
use Rattle.case_model.specs.declared.fault.CaseFault.TheVariants.{SpendRange}
use Rattle.case_model.specs.declared.spend.Spend.TheVariants.{Shares}
use Rattle.case_model.specs.CaseFaults.{◌when◌, first_from, is_below_zero, spend_range}
use Rattle.case_model.proofs.spend.Spend.range_fault.Given as goal

abbrev pub invariant-loop-t : goal.invariant-loop-t
invariant-loop-t l = first_from (λ t f. SpendRange l.i t when is_below_zero f) l.t (drop l.t l.fractions) ≡ spend_range l.i (Shares l.fractions)
