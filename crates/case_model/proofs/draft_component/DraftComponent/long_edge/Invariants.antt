use Rattle.std.proofs.Common.{◌≡◌, not, drop}
use Rattle.case_model.specs.declared.fault.CaseFault.TheVariants.{PartTooLong}
use Rattle.case_model.specs.declared.fault.PartPlace.TheVariants.{Edge}
use Rattle.std.specs.List.{list_all}
use Rattle.case_model.specs.Draft.{is_short}
use Rattle.case_model.specs.CaseFaults.{◌when◌, first_from, long_edge}
use Rattle.case_model.proofs.draft_component.DraftComponent.long_edge.Given as goal

abbrev pub invariant-loop-n : goal.invariant-loop-n
invariant-loop-n l = first_from (λ _ e. PartTooLong (Edge l.c e.from e.to) when not (list_all is_short e.entry)) l.n (drop l.n l.edges) ≡ long_edge l.c l.self
