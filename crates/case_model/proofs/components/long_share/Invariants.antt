use Rattle.std.proofs.Common.{◌≡◌, not, drop}
use Rattle.case_model.specs.declared.fault.CaseFault.TheVariants.{PartTooLong}
use Rattle.case_model.specs.declared.fault.PartPlace.TheVariants.{Share}
use Rattle.case_model.specs.Draft.{is_short}
use Rattle.case_model.specs.CaseFaults.{◌when◌, first_from, long_share}
use Rattle.case_model.proofs.components.long_share.Given as goal

abbrev pub invariant-loop-c : goal.invariant-loop-c
invariant-loop-c l = first_from (λ c k. PartTooLong (Share c) when not (is_short k.share)) l.c (drop l.c l.components) ≡ long_share l.components
