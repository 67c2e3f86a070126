-- The flow run of nets gives evidence that meets its conditions.
use Rattle.std.proofs.Common.{◌≡◌, inl, inr, refl, sym, ap, subst, ◌∙◌, ℕ, zero, suc, ◌<◌, true, false, List, [], ◌∷◌, Result, Ok}
use Rattle.std.proofs.Common.{length, map, arith}
use Rattle.std.specs.List.{All}
use Rattle.field_core.specs.declared.place.Wide.{Wide}
use Rattle.field_core.specs.Number.{Number}
use Rattle.field_core.specs.Kind.{Parts, Kind}
use Rattle.field_core.specs.Exact.{IsExact}
use Rattle.field_core.specs.Sets.{whole, set_of}
use Rattle.field_core.specs.Runs.{IsOrder}
use Rattle.field_core.specs.Laws.Prefixes.{bind_ok, ok_same}
use Rattle.field_core.proofs.Live.{true_or_false}
use Rattle.case_model.specs.EntangledGraph.{EntangledGraph}
use Rattle.case_model.specs.LegalOrder.{IsLegalOrder, IsComplete}
use Rattle.case_model.proofs.RejectionOrders.{not_listed_left}
use Rattle.removal.specs.StoredGraph.{StoredGraph}
use Rattle.removal.specs.Exactness.{RemovesExactly}
use Rattle.entangled.specs.Bundled.{Bundled, size}
use Rattle.entangled.specs.BundleRun.{by_value}
use Rattle.evidence_check.specs.Evidence.{others, listed, kept, AreGoodSteps, IsGoodKeep, MeetsConditions, KeepsOthers}
use Rattle.std.proofs.lemmas.List.{length-map}
use Rattle.evidence_check.specs.EvidenceParts.{StepParts, AreFull, ExitsFit, FitsSize, part_at, step_values, keep_values}
use Rattle.evidence_check.specs.CheckStatements.{AreStoredSteps, evidence_values}
use Rattle.evidence.specs.FlowTables.{Tables, row}
use Rattle.evidence.specs.FlowRun.{FlowRun, WrittenEvidence, has_some, flow_run, opening_state, kept_exits, evidence_run}
use Rattle.evidence.specs.FlowStatements.{IsOpened}
use Rattle.evidence.proofs.Lists.{others_each, all_mapped, some_has}
use Rattle.evidence.proofs.RunEvidence.{Gives, picked_stored, whole_run, good_keep, order_of}

kept_names : (K : Kind) (ts : List Tables) (js ks : List ℕ) → kept (map (keep_values K) (map (kept_exits K ts js) ks)) ≡ ks
unfolding kept_exits
kept_names K ts js [] = refl
kept_names K ts js (k ∷ ks) = ap (λ xs. k ∷ xs) (kept_names K ts js ks)

-- ---- sizes

good_below : (K : Kind) (E : EntangledGraph) (p : ℕ → Number) (level : Number) (ss : List StepParts) (js : List ℕ)
    → AreGoodSteps E p level js (map (step_values K) ss) → All (λ s. s.hypothesis < E.hypotheses) ss
good_below K E p level [] js G i d q = absurd (omega arith)
good_below K E p level (s ∷ ss) js G zero d q = G.0.below
good_below K E p level (s ∷ ss) js G (suc i) d q = good_below K E p level ss _ G.1 i d (omega arith)

kept_full : (K : Kind) (n : ℕ) (ts : List Tables) (js : List ℕ) (k : ℕ) → length ts ≡ n → AreFull n (length js) (kept_exits K ts js k).exits
unfolding kept_exits
kept_full K n ts js k e = record {
  lists = length-map ts _ ∙ e;
  each = all_mapped _ (λ ys. length ys ≡ length js) ts (λ i d q. length-map js _);
}

kept_fit : (K : Kind) (n : ℕ) (ts : List Tables) (js ks : List ℕ) → length ts ≡ n → ExitsFit n (length js) (map (kept_exits K ts js) ks)
kept_fit K n ts js [] e = tt
kept_fit K n ts js (k ∷ ks) e = (kept_full K n ts js k e, kept_fit K n ts js ks e)

steps_length : (K : Kind) (ss : List StepParts) (js : List ℕ) → listed (map (step_values K) ss) ≡ js → length ss ≡ length js
steps_length K ss js e = sym (length-map ss (step_values K)) ∙ sym (length-map (map (step_values K) ss) (λ s. s.hypothesis)) ∙ ap length e

kept_of : (K : Kind) (ts : List Tables) (js : List ℕ) (k : ℕ) → (kept_exits K ts js k).hypothesis ≡ k
unfolding kept_exits
kept_of K ts js k = refl

module _ {S : Type 0} (K : Kind) (IsStored : Parts → Type 0) (X : IsExact K IsStored) (graph : S → StoredGraph) (IsProper : S → Type 0)
    (removal : S → ℕ → Result S Wide) (E : RemovesExactly K IsStored graph IsProper removal)
    (b : Bundled S) (O : IsOpened K graph IsProper b) (p : ℕ → Number) (level : Number) (js : List ℕ)
    (o : IsLegalOrder (by_value K graph b.states b.shares) p level whole js) where
  abbrev ks : List ℕ
  ks = others (size graph b) js

  module _ (r : FlowRun) (run : flow_run K graph removal (has_some (others (size graph b) js)) [] js (opening_state K graph b) ≡ Ok r) where
    gives : Gives K IsStored X graph IsProper removal E b.states b.shares O.ready (has_some (others (size graph b) js)) p level [] js r
    gives = whole_run K IsStored X graph IsProper removal E b.states b.shares O.ready (has_some (others (size graph b) js)) p level js b r o O.levels run

    order : IsOrder (size graph b) whole js
    order = order_of K IsStored X graph IsProper removal E b.states b.shares O.ready (has_some (others (size graph b) js)) p level js o

    module _ (complete : IsComplete (by_value K graph b.states b.shares) p level whole js) where
      keep_good : (k : ℕ) → k < size graph b → set_of js k ≡ false → has_some (others (size graph b) js) ≡ true
          → IsGoodKeep (by_value K graph b.states b.shares) p level js (keep_values K (kept_exits K r.tables js k))
      keep_good k below f some =
          good_keep K IsStored X graph IsProper removal E b.states b.shares O.ready js order r.tables gives.count (gives.exits some) k
          (record { below = below; member = not_listed_left js whole k refl f }) p level complete

      keeps_good : All (IsGoodKeep (by_value K graph b.states b.shares) p level js)
          (map (keep_values K) (map (kept_exits K r.tables js) (others (size graph b) js)))
      keeps_good = elim (true_or_false (has_some (others (size graph b) js))) [
        | inr none ↦ subst (λ ks. All (IsGoodKeep (by_value K graph b.states b.shares) p level js) (map (keep_values K) (map (kept_exits K r.tables js) ks)))
            (sym (some_has (others (size graph b) js) none)) (λ i d q. absurd (omega arith))
        | inl some ↦
            all_mapped (keep_values K) (IsGoodKeep (by_value K graph b.states b.shares) p level js) _
            (all_mapped (kept_exits K r.tables js) (λ x. IsGoodKeep (by_value K graph b.states b.shares) p level js (keep_values K x))
            (others (size graph b) js)
            (others_each (size graph b) js (λ k. IsGoodKeep (by_value K graph b.states b.shares) p level js (keep_values K (kept_exits K r.tables js k)))
            (λ k below f. keep_good k below f some)))
      ]

      meets : MeetsConditions (by_value K graph b.states b.shares) p level
          (evidence_values K r.steps (map (kept_exits K r.tables js) (others (size graph b) js)))
      meets = record {
        steps = gives.good;
        keeps = subst (λ is. All (IsGoodKeep (by_value K graph b.states b.shares) p level is)
            (map (keep_values K) (map (kept_exits K r.tables js) (others (size graph b) js)))) (sym gives.lists) keeps_good;
      }

      keeps_others : KeepsOthers (size graph b) (evidence_values K r.steps (map (kept_exits K r.tables js) (others (size graph b) js)))
      keeps_others = kept_names K r.tables js (others (size graph b) js) ∙ ap (others (size graph b)) (sym gives.lists)

    -- the numbers of a keep are stored
    keep_stored : (k : ℕ) → k < size graph b → set_of js k ≡ false → has_some (others (size graph b) js) ≡ true
        → (c e : ℕ) → IsStored (part_at K (kept_exits K r.tables js k).exits c e)
    unfolding kept_exits
    keep_stored k below f some = picked_stored K IsStored X (λ t. row t.exits k) r.tables js
        (λ c i q. ((gives.exits some c (subst (λ n. c < n) gives.count q)).into k
        (record { below = below; member = not_listed_left js whole k refl f })).stored i)

    keeps_stored : All (λ x. (c e : ℕ) → IsStored (part_at K x.exits c e)) (map (kept_exits K r.tables js) (others (size graph b) js))
    keeps_stored = elim (true_or_false (has_some (others (size graph b) js))) [
      | inr none ↦ subst (λ ks. All (λ x. (c e : ℕ) → IsStored (part_at K x.exits c e)) (map (kept_exits K r.tables js) ks))
          (sym (some_has (others (size graph b) js) none)) (λ i d q. absurd (omega arith))
      | inl some ↦
          all_mapped (kept_exits K r.tables js) (λ x. (c e : ℕ) → IsStored (part_at K x.exits c e)) (others (size graph b) js)
          (others_each (size graph b) js (λ k. (c e : ℕ) → IsStored (part_at K (kept_exits K r.tables js k).exits c e))
          (λ k below f. keep_stored k below f some))
    ]

    -- the steps and keeps fit the nets
    fits : FitsSize (size graph b) (length b.states) r.steps (map (kept_exits K r.tables js) (others (size graph b) js))
    unfolding by_value
    fits = record {
      steps_below = good_below K (by_value K graph b.states b.shares) p level r.steps [] gives.good;
      flows = gives.fit;
      keeps_below = all_mapped (kept_exits K r.tables js) (λ x. x.hypothesis < size graph b) (others (size graph b) js)
          (others_each (size graph b) js (λ k. (kept_exits K r.tables js k).hypothesis < size graph b)
          (λ k below f. subst (λ i. i < size graph b) (sym (kept_of K r.tables js k)) below));
      exits = subst (λ n. ExitsFit (length b.states) n (map (kept_exits K r.tables js) (others (size graph b) js)))
          (sym (steps_length K r.steps js gives.lists)) (kept_fit K (length b.states) r.tables js (others (size graph b) js) gives.count);
    }

    are_stored : AreStoredSteps K IsStored (size graph b) r.steps (map (kept_exits K r.tables js) (others (size graph b) js))
    are_stored = record {
      steps_below = fits.steps_below;
      steps_stored = gives.stored;
      keeps_below = fits.keeps_below;
      keeps_stored = keeps_stored;
    }

  -- the parts of a run
  record Parts_of (v : WrittenEvidence) : Type 0 where
    run : FlowRun
    flows : flow_run K graph removal (has_some (others (size graph b) js)) [] js (opening_state K graph b) ≡ Ok run
    is : record { steps = run.steps; keeps = map (kept_exits K run.tables js) (others (size graph b) js) } ≡ v

  parts_of : (v : WrittenEvidence) → evidence_run K graph removal b js ≡ Ok v → Parts_of v
  unfolding evidence_run
  parts_of v h =
      let a = bind_ok (flow_run K graph removal (has_some (others (size graph b) js)) [] js (opening_state K graph b)) _ v h in
      record { run = a.0; flows = a.1.0; is = ok_same (Ok v) _ v (sym a.1.1) refl }

  pub net_steps : (v : WrittenEvidence) → evidence_run K graph removal b js ≡ Ok v → (listed (map (step_values K) v.steps) ≡ js)
      × AreGoodSteps (by_value K graph b.states b.shares) p level [] (map (step_values K) v.steps)
  net_steps v h =
      let a = parts_of v h in
      subst (λ w. (listed (map (step_values K) w.steps) ≡ js) × AreGoodSteps (by_value K graph b.states b.shares) p level [] (map (step_values K) w.steps))
      a.is ((gives a.run a.flows).lists, (gives a.run a.flows).good)

  pub net_evidence : IsComplete (by_value K graph b.states b.shares) p level whole js → (v : WrittenEvidence) → evidence_run K graph removal b js ≡ Ok v
      → MeetsConditions (by_value K graph b.states b.shares) p level (evidence_values K v.steps v.keeps)
      × KeepsOthers (size graph b) (evidence_values K v.steps v.keeps)
  net_evidence complete v h =
      let a = parts_of v h in
      subst (λ w. MeetsConditions (by_value K graph b.states b.shares) p level (evidence_values K w.steps w.keeps)
      × KeepsOthers (size graph b) (evidence_values K w.steps w.keeps)) a.is (meets a.run a.flows complete, keeps_others a.run a.flows complete)

  pub net_fits : (v : WrittenEvidence) → evidence_run K graph removal b js ≡ Ok v → FitsSize (size graph b) (length b.states) v.steps v.keeps
  net_fits v h = let a = parts_of v h in subst (λ w. FitsSize (size graph b) (length b.states) w.steps w.keeps) a.is (fits a.run a.flows)

  pub net_stored : (v : WrittenEvidence) → evidence_run K graph removal b js ≡ Ok v → AreStoredSteps K IsStored (size graph b) v.steps v.keeps
  net_stored v h = let a = parts_of v h in subst (λ w. AreStoredSteps K IsStored (size graph b) w.steps w.keeps) a.is (are_stored a.run a.flows)
