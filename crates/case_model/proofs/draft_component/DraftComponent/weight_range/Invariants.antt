use Rattle.std.proofs.Common.{◌≡◌, drop}
use Rattle.case_model.specs.declared.fault.CaseFault.TheVariants.{WeightRange}
use Rattle.case_model.specs.CaseFaults.{◌when◌, first_from, is_below_zero, weight_range}
use Rattle.case_model.proofs.draft_component.DraftComponent.weight_range.Given as goal

abbrev pub invariant-loop-i : goal.invariant-loop-i
invariant-loop-i l = first_from (λ i w. WeightRange l.c i when is_below_zero w) l.i (drop l.i l.weights) ≡ weight_range l.c l.self
