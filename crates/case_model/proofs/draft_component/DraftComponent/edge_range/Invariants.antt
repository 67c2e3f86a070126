use Rattle.std.proofs.Common.{◌≡◌, not, drop}
use Rattle.case_model.specs.declared.fault.CaseFault.TheVariants.{EdgeRange}
use Rattle.case_model.specs.Entries.{entry_value}
use Rattle.case_model.specs.Draft.{is_unit}
use Rattle.case_model.specs.CaseFaults.{◌when◌, first_from, edge_range}
use Rattle.case_model.proofs.draft_component.DraftComponent.edge_range.Given as goal

abbrev pub invariant-loop-n : goal.invariant-loop-n
invariant-loop-n l = first_from (λ _ e. EdgeRange l.c e.from e.to when not (is_unit (entry_value e.entry))) l.n (drop l.n l.edges) ≡ edge_range l.c l.self
