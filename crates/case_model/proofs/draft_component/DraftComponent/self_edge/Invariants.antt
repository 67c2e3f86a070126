use Rattle.std.proofs.Common.{◌≡◌, drop}
use Rattle.case_model.specs.declared.fault.CaseFault.TheVariants.{SelfEdge}
use Rattle.case_model.specs.CaseFaults.{◌when◌, first_from, is_self_edge, self_edge}
use Rattle.case_model.proofs.draft_component.DraftComponent.self_edge.Given as goal

abbrev pub invariant-loop-n : goal.invariant-loop-n
invariant-loop-n l = first_from (λ _ e. SelfEdge l.c e.from when is_self_edge e) l.n (drop l.n l.edges) ≡ self_edge l.c l.self
