use Rattle.std.proofs.Common.{◌≡◌, not, drop}
use Rattle.case_model.specs.declared.fault.CaseFault.TheVariants.{PartTooLong}
use Rattle.case_model.specs.declared.fault.PartPlace.TheVariants.{Weight}
use Rattle.case_model.specs.Draft.{is_short}
use Rattle.case_model.specs.CaseFaults.{◌when◌, first_from, long_weight}
use Rattle.case_model.proofs.draft_component.DraftComponent.long_weight.Given as goal

abbrev pub invariant-loop-i : goal.invariant-loop-i
invariant-loop-i l = first_from (λ i w. PartTooLong (Weight l.c i) when not (is_short w)) l.i (drop l.i l.weights) ≡ long_weight l.c l.self
