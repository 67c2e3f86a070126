-- Runs of removals whose closed form is short are never refused.
use Rattle.std.proofs.Common.{◌≡◌, ◌≢◌, refl, sym, ap, ◌∙◌, subst, ℕ, ◌<◌, Bool, true, List, [], ◌∷◌, Ok}
use Rattle.field_core.specs.Number.{Number}
use Rattle.field_core.specs.NumberField.{number_field}
use Rattle.field_core.specs.Graph.{Graph}
use Rattle.field_core.specs.Removal.{without}
use Rattle.field_core.specs.Sets.{IsIn, dropping, whole}
use Rattle.field_core.specs.Runs.{IsOrder}
use Rattle.field_core.specs.Exact.{value_of}
use Rattle.field_core.proofs.Agreement.{Agrees, agrees_step}
use Rattle.fraction.specs.Plain.{plain, pair_of, IsFraction}
use Rattle.fraction.specs.Laws.PlainLaws.{plain_is_exact}
use Rattle.field_core.proofs.ClosedForms.{IsClosedForm, agrees_on}
use Rattle.removal.specs.StoredGraph.{StoredGraph, size, is_live, weight, edge}
use Rattle.removal.specs.ByValue.{graph_of, AreStored}
use Rattle.removal.specs.WrittenRemoval.{written_removal}
use Rattle.removal.specs.InTurn.{removed_in_turn}
use Rattle.removal.specs.Laws.Exact.{removal_is_exact}
use Rattle.removal.specs.Laws.Seen.{weight_in, edge_in}
use Rattle.fraction.specs.Within.{IsWithin}
use Rattle.fraction.proofs.ShortNumbers.{IsNumberWithin, stored_within}
use Rattle.removal.proofs.WeightsLeft.{Stands, in_turn, turn_end, turn_on}
use Rattle.textbook.proofs.ShortRemovals.{AreWithin, Fit, removal_defined}
use Rattle.textbook.specs.TextbookRuns.{Stores, IsNeverRefused}

module _ (m : ℕ) (left : (ℕ → Bool) → Graph Number) (C : IsClosedForm number_field m left) (w e : ℕ) (fit : Fit w e)
    (short_weight : (I : ℕ → Bool) (l : ℕ) → IsIn m I l → IsNumberWithin w ((left I).weight l))
    (short_edge : (I : ℕ → Bool) (l h : ℕ) → IsIn m I l → IsIn m I h → l ≢ h → IsNumberWithin e ((left I).edge l h)) where
  -- the state `S` is reached where `I` remains, and `A` is its graph
  abbrev pub Now : (ℕ → Bool) → Graph Number → StoredGraph → Type 0
  Now = Stands plain IsFraction (λ G. G) (λ G. AreStored plain IsFraction G) (written_removal plain) (removal_is_exact plain IsFraction plain_is_exact) m

  pub now_short : (I : ℕ → Bool) (A : Graph Number) (S : StoredGraph) → Now I A S → Agrees m I A (left I) → AreWithin w e S
  now_short I A S N G = record { weights = weights; edges = edges }
    where
      inside : (l : ℕ) → l < size S → is_live S l ≡ true → IsIn m I l
      inside l h t = let b : l < m = subst (λ n. l < n) N.same_size h in record { below = b; member = sym (N.live l b) ∙ t }

      weights : (l : ℕ) → l < size S → is_live S l ≡ true → IsWithin w (pair_of (weight plain S l))
      weights l h t =
          let e : value_of (weight plain S l) ≡ (left I).weight l = sym (weight_in plain S l t) ∙ ap (λ B. B.weight l) N.value
          ∙ G.weight l (inside l h t) in
          stored_within w (weight plain S l) (N.proper.weights l h) (subst (IsNumberWithin w) (sym e) (short_weight I l (inside l h t)))

      edges : (l i : ℕ) → l < size S → i < size S → is_live S l ≡ true → is_live S i ≡ true → l ≢ i
          → IsWithin e (pair_of (edge plain S l i))
      edges l i h g t s n =
          let q : value_of (edge plain S l i) ≡ (left I).edge l i = sym (edge_in plain S l i t s n) ∙ ap (λ B. B.edge l i) N.value
          ∙ G.edge l i (inside l h t) (inside i g s) n in
          stored_within e (edge plain S l i) (N.proper.edges l i h g) (subst (IsNumberWithin e) (sym q) (short_edge I l i (inside l h t) (inside i g s) n))

  -- the state after one more removal
  pub record Next (I : ℕ → Bool) (A : Graph Number) (S : StoredGraph) (j : ℕ) : Type 0 where
    pub state : StoredGraph
    pub made : written_removal plain S j ≡ Ok state
    pub now : Now (dropping j I) (without number_field A j) state
    pub agrees : Agrees m (dropping j I) (without number_field A j) (left (dropping j I))

  pub next_state : (I : ℕ → Bool) (A : Graph Number) (S : StoredGraph) (j : ℕ) → Now I A S → Agrees m I A (left I) → IsIn m I j → Next I A S j
  next_state I A S j N G p =
      let below : j < size S = subst (λ n. j < n) (sym N.same_size) p.below in
      let first = removal_defined S j w e fit (now_short I A S N G) below (N.live j p.below ∙ p.member) in
      record {
        state = first.0;
        made = first.1;
        now = in_turn plain IsFraction (λ G. G) (λ G. AreStored plain IsFraction G) (written_removal plain)
            (removal_is_exact plain IsFraction plain_is_exact) m (j ∷ []) I A S first.0 N (p, tt)
            (turn_on (written_removal plain) S first.0 first.0 j [] first.1 (turn_end (written_removal plain) first.0));
        agrees = agrees_on m (dropping j I) (without number_field A j) (without number_field (left I) j) (left (dropping j I))
            (agrees_step number_field m I A (left I) j p G) (C.step I j p);
      }

  run_defined : (js : List ℕ) (I : ℕ → Bool) (A : Graph Number) (S : StoredGraph) → Now I A S → Agrees m I A (left I) → IsOrder m I js
      → (T : StoredGraph) × (removed_in_turn (written_removal plain) S js ≡ Ok T)
  run_defined [] I A S N G o = (S, turn_end (written_removal plain) S)
  run_defined (j ∷ js) I A S N G o =
      let X = next_state I A S j N G o.0 in
      let rest = run_defined js (dropping j I) (without number_field A j) X.state X.now X.agrees o.1 in
      (rest.0, turn_on (written_removal plain) S X.state rest.0 j js X.made rest.1)

  pub start_agrees : (G : Graph Number) (S : StoredGraph) → size S ≡ m → Stores G S → Agrees m whole G (left whole)
      → Agrees m whole (graph_of plain S) (left whole)
  start_agrees G S e St A = record {
    weight = λ l p. weight_in plain S l (St.live l (at l p)) ∙ St.weight_is l (at l p) ∙ A.weight l p;
    edge = λ l h p q n. edge_in plain S l h (St.live l (at l p)) (St.live h (at h q)) n ∙ St.edge_is l h (at l p) (at h q) n ∙ A.edge l h p q n;
  }
    where
      at : (l : ℕ) → IsIn m whole l → l < size S
      at l p = subst (λ n. l < n) (sym e) p.below

  pub start_now : (G : Graph Number) (S : StoredGraph) → size S ≡ m → Stores G S → Now whole (graph_of plain S) S
  start_now G S e St = record { proper = St.stored; same_size = e; live = λ i b. St.live i (subst (λ n. i < n) (sym e) b); value = refl }

  pub never_refused : (G : Graph Number) (S : StoredGraph) → size S ≡ m → Stores G S → Agrees m whole G (left whole) → IsNeverRefused S
  never_refused G S e St A js o =
      run_defined js whole (graph_of plain S) S (start_now G S e St) (start_agrees G S e St A) (subst (λ n. IsOrder n whole js) e o)
