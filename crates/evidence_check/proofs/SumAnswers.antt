-- The sums of a case as they are written down.
use Rattle.std.proofs.Common.{◌≡◌, refl, ap, ap₂, ◌∙◌, ℕ, zero, suc, List, [], ◌∷◌, map, length, get_or, Result}
use Rattle.field_core.specs.declared.place.Place.{Place}
use Rattle.field_core.specs.declared.place.Place.TheVariants.{Level, Exit}
use Rattle.field_core.specs.Kind.{Parts, Kind}
use Rattle.evidence_check.specs.Evidence.{at_place}
use Rattle.evidence_check.specs.declared.event.CheckEvent.{CheckEvent}
use Rattle.evidence_check.specs.WrittenCheck.{Loaded, added, brought_sum, leaving_sum, allowed_sum}

module _ (K : Kind) (L : Loaded) (js : List ℕ) (y : ℕ → Parts) (c k : ℕ) (r : Result Parts CheckEvent) (start : Parts) (n : ℕ)
    (many : n ≡ length js) where
  pub brought_is : (place : Place) → start ≡ L.weight c k → r ≡ added K (λ _. c) place start y (λ e. L.edge c (at_place js e) k) n
      → r ≡ brought_sum K L js place y k c
  unfolding brought_sum
  brought_is place s h = h ∙ ap₂ (λ s n. added K (λ _. c) place s y (λ e. L.edge c (at_place js e) k) n) s many

  pub leaving_is : (l e : ℕ) → l ≡ at_place js e → start ≡ L.edge c l k
      → r ≡ added K (λ _. c) (Exit l k) start (λ e. L.edge c l (at_place js e)) y n → r ≡ leaving_sum K L js y k c e
  unfolding leaving_sum
  leaving_is l e p s h =
      h ∙ ap₂ (λ s n. added K (λ _. c) (Exit l k) s (λ e. L.edge c l (at_place js e)) y n) s many
      ∙ ap (λ l. added K (λ _. c) (Exit l k) (L.edge c l k) (λ e. L.edge c l (at_place js e)) y (length js)) p

  pub allowed_is : start ≡ L.weight c k → r ≡ added K (λ _. c) (Level k) start (λ r. L.weight c (at_place js r)) y n → r ≡ allowed_sum K L js y k c
  unfolding allowed_sum
  allowed_is s h = h ∙ ap₂ (λ s n. added K (λ _. c) (Level k) s (λ r. L.weight c (at_place js r)) y n) s many

-- ---- the numbers of a component

pub mapped_row : {F : Type 0} (parts : F → Parts) (lists : List (List F)) (c : ℕ) → map parts (get_or lists c []) ≡ get_or (map (map parts) lists) c []
mapped_row parts [] c = refl
mapped_row parts (ys ∷ lists) zero = refl
mapped_row parts (ys ∷ lists) (suc c) = mapped_row parts lists c
