use Rattle.std.proofs.Common.{◌≡◌, ◌==◌, length, not, drop}
use Rattle.case_model.specs.declared.fault.CaseFault.TheVariants.{WeightCount}
use Rattle.case_model.specs.CaseFaults.{◌when◌, first_from, weight_count}
use Rattle.case_model.proofs.components.weight_count.Given as goal

abbrev pub invariant-loop-c : goal.invariant-loop-c
invariant-loop-c l = first_from (λ c k. WeightCount c when not (length k.weights == l.count)) l.c (drop l.c l.components) ≡ weight_count l.count l.components
