use Rattle.std.proofs.Common.{◌≡◌, is_none, drop}
use Rattle.case_model.specs.declared.fault.CaseFault.TheVariants.{PMissing}
use Rattle.case_model.specs.CaseFaults.{◌when◌, first_from, first_of}
use Rattle.case_model.proofs.p_values.first_missing.Given as goal

abbrev pub invariant-loop-i : goal.invariant-loop-i
invariant-loop-i l = first_from (λ i p. PMissing i when is_none p) l.i (drop l.i l.p) ≡ first_of (λ i p. PMissing i when is_none p) l.p
