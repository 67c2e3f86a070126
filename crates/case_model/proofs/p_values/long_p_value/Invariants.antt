use Rattle.std.proofs.Common.{◌≡◌, drop}
use Rattle.case_model.specs.declared.fault.CaseFault.TheVariants.{PartTooLong}
use Rattle.case_model.specs.declared.fault.PartPlace.TheVariants.{P}
use Rattle.case_model.specs.CaseFaults.{◌when◌, first_from, is_long_p_value, long_p_value}
use Rattle.case_model.proofs.p_values.long_p_value.Given as goal

abbrev pub invariant-loop-i : goal.invariant-loop-i
invariant-loop-i l = first_from (λ i p. PartTooLong (P i) when is_long_p_value p) l.i (drop l.i l.p) ≡ long_p_value l.p
