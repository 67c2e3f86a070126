-- The written run of a case along a list of positions.
use Rattle.std.proofs.Common.{◌≡◌, sym, ap, ◌∙◌, inl, inr, ℕ, ◌+◌, ◌<◌, ◌≤◌, true, List, [], ◌∷◌, ◌++◌, length, get_or, take, Ok, Err, arith}
use Rattle.std.proofs.lemmas.Bool.{cases_eq}
use Rattle.std.proofs.lemmas.List.{take_more, take_all}
use Rattle.field_core.specs.Sets.{whole}
use Rattle.field_core.specs.Runs.{IsOrder}
use Rattle.field_core.specs.Steps.{◌>>=◌}
use Rattle.field_core.specs.declared.place.WideAt.{WideAt}
use Rattle.case_model.specs.Content.{Content}
use Rattle.case_model.specs.Validity.{IsValidContent}
use Rattle.removal.specs.InTurn.{removed_in_turn}
use Rattle.entangled.specs.CaseRun.{CaseState, case_opening, case_removal, is_live_in_case}
use Rattle.entangled.specs.CaseAfter.{case_after}
use Rattle.entangled.proofs.CaseRuns.{after_next, after_opening}
use Rattle.entangled.proofs.CaseLevels.{case_live}
use Rattle.field_core.specs.Made.{Makes}
use Rattle.field_core.specs.declared.fault.Fault.TheVariants as openings
use Rattle.entangled.specs.CaseNetView.{case_state}
use Rattle.entangled.specs.OpenFaults.{OpenFault}
use Rattle.graph_update.specs.Updates.{IsFirstUndefined, IsRunFault, of_opening}
use Rattle.removal.proofs.Orders.{order_take, order_at}

not_opened : (c : Content) (w : WideAt) → case_opening c ≡ Err w → case_after c [] ≡ Err w
unfolding case_after
not_opened c w h = ap (λ r. r >>= (λ s. removed_in_turn case_removal s [])) h

module _ (c : Content) (js : List ℕ) where
  -- the state after the first removals, and before each of them there is one
  pub record IsReached (i : ℕ) (s : CaseState) : Type 0 where
    pub reached : case_after c (take i js) ≡ Ok s
    pub before : (k : ℕ) → k < i → (t : CaseState) × (case_after c (take k js) ≡ Ok t)

  pub reached_first : (s : CaseState) → case_opening c ≡ Ok s → IsReached 0 s
  reached_first s h = record { reached = after_opening c s h; before = λ k p. absurd (omega (arith, p)) }

  earlier : (i : ℕ) (s : CaseState) → IsReached i s → (k : ℕ) → k < i + 1 → (t : CaseState) × (case_after c (take k js) ≡ Ok t)
  earlier i s R k p = elim (cases_eq k i) [
    | inl e ↦ (s, ap (λ n. case_after c (take n js)) e ∙ R.reached)
    | inr n ↦ R.before k (grind arith)
  ]

  next_is : (i j : ℕ) (s : CaseState) → i < length js → j ≡ get_or js i 0 → IsReached i s → case_after c (take (i + 1) js) ≡ case_removal s j
  next_is i j s p e R =
      ap (case_after c) (take_more js i 0 p) ∙ ap (λ k. case_after c (take i js ++ k ∷ [])) (sym e) ∙ after_next c (take i js) s j R.reached

  pub reached_next : (i j : ℕ) (s t : CaseState) → i < length js → j ≡ get_or js i 0 → IsReached i s → case_removal s j ≡ Ok t → IsReached (i + 1) t
  reached_next i j s t p e R h = record { reached = next_is i j s p e R ∙ h; before = earlier i s R }

  pub undefined_first : (w : WideAt) → case_opening c ≡ Err w → IsFirstUndefined c js 0 w
  undefined_first w h = record { within = omega arith; undefined = not_opened c w h; before = λ k p. absurd (omega (arith, p)) }

  pub undefined_next : (i j : ℕ) (s : CaseState) (w : WideAt) → i < length js → j ≡ get_or js i 0 → IsReached i s → case_removal s j ≡ Err w
      → IsFirstUndefined c js (i + 1) w
  undefined_next i j s w p e R h = record { within = omega arith; undefined = next_is i j s p e R ∙ h; before = earlier i s R }

  pub reached_last : (i : ℕ) (s : CaseState) → length js ≤ i → IsReached i s → case_after c js ≡ Ok s
  reached_last i s p R = ap (case_after c) (sym (take_all i js p)) ∙ R.reached

  -- the one that is removed next remains
  pub next_live : (i j : ℕ) (s : CaseState) → IsValidContent c → IsOrder (length c.names) whole js → i < length js → j ≡ get_or js i 0 → IsReached i s
      → is_live_in_case s j ≡ true
  next_live i j s V o p e R =
      let at = order_at (length c.names) js whole i o p in
      ap (is_live_in_case s) e
      ∙ case_live c (take i js) s (get_or js i 0) V (order_take (length c.names) js whole i o) R.reached at.below
      ∙ at.member

  -- why a case isn't opened
  pub opening_fault : (fault : OpenFault) → Makes case_state (Err fault) (case_opening c) → IsRunFault c js (of_opening fault)
  opening_fault (openings.Wide w) h = undefined_first w h
  opening_fault openings.NoMemory h = tt
