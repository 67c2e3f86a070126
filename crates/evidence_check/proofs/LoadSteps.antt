-- Edges are loaded one after the other.
use Rattle.std.proofs.Common.{◌≡◌, refl, sym, ap, ◌∙◌, ℕ, length, Result, Ok, Err}
use Rattle.field_core.specs.declared.place.Place.TheVariants.{Edge}
use Rattle.field_core.specs.declared.place.TooWide.{TooWide}
use Rattle.field_core.specs.Kind.{Parts, ok_map}
use Rattle.case_model.specs.Entries.{entry_at}
use Rattle.case_model.specs.Content.{Content, component_at}
use Rattle.case_numbers.specs.Numbers.{Numbers, loaded_edge}
use Rattle.evidence_check.specs.declared.event.CheckEvent.{CheckEvent}
use Rattle.evidence_check.specs.CheckSteps.{written_at}
use Rattle.evidence_check.specs.CaseCheck.{written_edge, edge_load}
use Rattle.evidence_check.proofs.AddedSteps.{written_map}

module _ {F : Type 0} (v : F → Parts) (n : Numbers) (c : Content) (k l j : ℕ) (r : Result F TooWide)
    (e : ok_map v r ≡ loaded_edge n (entry_at (length c.names) (component_at c.components k).edges l j)) where
  load_is : edge_load n c k l j ≡ ok_map (λ _. tt) (ok_map v (written_at k (Edge l j) r))
  unfolding edge_load written_edge
  load_is = ap (λ r. ok_map (λ _. tt) (written_at k (Edge l j) r)) (sym e) ∙ ap (ok_map (λ _. tt)) (sym (written_map v k (Edge l j) r))

  pub edge_refused : (x : CheckEvent) → written_at k (Edge l j) r ≡ Err x → edge_load n c k l j ≡ Err x
  edge_refused x h = rw (load_is, h) refl

  pub edge_done : (x : F) → written_at k (Edge l j) r ≡ Ok x → edge_load n c k l j ≡ Ok tt
  edge_done x h = rw (load_is, h) refl
