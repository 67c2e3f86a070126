use Rattle.std.proofs.Common.{◌≡◌, drop}
use Rattle.case_model.specs.declared.fault.CaseFault.TheVariants.{PRange}
use Rattle.case_model.specs.CaseFaults.{◌when◌, first_from, is_outside, p_range}
use Rattle.case_model.proofs.p_values.p_range.Given as goal

abbrev pub invariant-loop-i : goal.invariant-loop-i
invariant-loop-i l = first_from (λ i p. PRange i when is_outside p) l.i (drop l.i l.p) ≡ p_range l.p
