-- The flow run of a case gives evidence that meets its conditions.
use Rattle.std.proofs.Common.{◌≡◌, ◌⊎◌, inl, inr, refl, sym, ap, subst, ◌∙◌, ℕ, ◌<◌, Bool, true, List, [], ◌∷◌, ◌++◌, Ok}
use Rattle.std.proofs.Common.{length, map, arith}
use Rattle.std.specs.List.{All}
use Rattle.std.proofs.lemmas.Bool.Decides.{nat_tests}
use Rattle.field_core.proofs.RemovalLaws.{same_or_not}
use Rattle.field_core.specs.declared.ratio.Ratio.{Ratio}
use Rattle.field_core.specs.Number.{Number}
use Rattle.field_core.specs.Kind.{Kind}
use Rattle.field_core.specs.Sets.{IsIn, whole, set_of}
use Rattle.field_core.specs.Runs.{IsOrder, left_after}
use Rattle.field_core.specs.Laws.Prefixes.{bind_ok, ok_same}
use Rattle.case_model.specs.EntangledGraph.{EntangledGraph}
use Rattle.case_model.specs.Content.{Content, entangled}
use Rattle.case_model.specs.Validity.{IsValidContent}
use Rattle.case_model.specs.ClosedTest.{IsLegal}
use Rattle.case_model.specs.LegalOrder.{IsLegalOrder, IsComplete}
use Rattle.case_model.proofs.RejectionOrders.{order_distinct}
use Rattle.case_numbers.specs.Numbers.{Numbers, kind_of, CanRunIn, IsStoredIn}
use Rattle.case_numbers.proofs.LoadedNumbers.{exact_in}
use Rattle.removal.specs.StoredGraph.{StoredGraph}
use Rattle.entangled.specs.Bundled.{Bundled, size, states_size, opened, written_levels}
use Rattle.entangled.specs.BundleRun.{AreReady, by_value}
use Rattle.entangled.specs.States.{state_in, graph_in, IsProperIn, removal_in}
use Rattle.entangled.specs.Loading.{loaded_states}
use Rattle.entangled.specs.CaseRun.{opening_in}
use Rattle.entangled.proofs.CaseStates.{removal_exact}
use Rattle.entangled.proofs.CaseLevels.{ready, same, size_is}
use Rattle.entangled.proofs.SameEntangled.{AreSame}
use Rattle.evidence_check.specs.Evidence.{StepValues, KeepValues, at_place, listed, AreGoodSteps, IsGoodKeep, MeetsConditions, KeepsOthers}
use Rattle.evidence_check.specs.EvidenceParts.{FitsSize, step_values, keep_values}
use Rattle.evidence_check.specs.CheckStatements.{AreStoredSteps, evidence_values}
use Rattle.evidence_check.proofs.Places.{place_below, place_listed}
use Rattle.evidence.specs.FlowRun.{WrittenEvidence, at_step, evidence_run}
use Rattle.evidence.specs.FlowStatements.{IsOpened}
use Rattle.evidence.specs.CaseFlows.{flows_in}
use Rattle.evidence.proofs.RunEvidence.{at_step_ok}
use Rattle.evidence.proofs.NetEvidence.{net_evidence, net_steps, net_fits, net_stored}
use Rattle.evidence.proofs.SameGraphs.{turned, legal_same, order_same, step_same, keep_same}

-- ---- an opened bundle

opened_is : {S : Type 0} (K : Kind) (graph : S → StoredGraph) (states : List S) (shares : List Ratio) (b : Bundled S)
    → opened K graph states shares ≡ Ok b → (b.states ≡ states) × (b.shares ≡ shares)
unfolding opened
opened_is K graph states shares b h =
    let a = bind_ok (written_levels K graph states shares) _ b h in
    let e : record { states = states; shares = shares; levels = a.0 } ≡ b = ok_same (Ok b) _ b (sym a.1.1) refl in
    (ap (λ d. d.states) (sym e), ap (λ d. d.shares) (sym e))

-- ---- steps and keeps of graphs that are the same

listed_append : (js : List ℕ) (j i : ℕ) → set_of (js ++ j ∷ []) i ≡ true → (set_of js i ≡ true) ⊎ (i ≡ j)
listed_append [] j i h = inr (grind (arith, nat_tests))
listed_append (k ∷ js) j i h = elim (same_or_not i k) [
  | inl e ↦ inl (grind (arith, nat_tests))
  | inr n ↦ elim (listed_append js j i (grind (arith, nat_tests))) [ inl a ↦ inl (grind (arith, nat_tests)) | inr a ↦ inr a ]
]

steps_same : (D E : EntangledGraph) (S : AreSame D E) (p : ℕ → Number) (level : Number) (ss : List StepValues) (js : List ℕ)
    → ((i : ℕ) → set_of js i ≡ true → i < E.hypotheses) → AreGoodSteps D p level js ss → AreGoodSteps E p level js ss
steps_same D E S p level [] js below G = tt
steps_same D E S p level (s ∷ ss) js below G =
    let b = step_same D E S p level js (λ e q. below (at_place js e) (place_listed js e q)) s G.0 in (
      b,
      steps_same D E S p level ss (js ++ s.hypothesis ∷ [])
          (λ i h. elim (listed_append js s.hypothesis i h) [ inl a ↦ below i a | inr e ↦ subst (λ k. k < E.hypotheses) (sym e) b.below ]) G.1,
    )

keeps_same : (D E : EntangledGraph) (S : AreSame D E) (p : ℕ → Number) (level : Number) (js : List ℕ)
    → ((e : ℕ) → e < length js → at_place js e < E.hypotheses) → (xs : List KeepValues) → All (IsGoodKeep D p level js) xs
    → All (IsGoodKeep E p level js) xs
keeps_same D E S p level js below xs G = λ i d q. keep_same D E S p level js below _ (G i d q)

-- ---- the run of a case

-- nets of a case as they are opened, in these numbers
pub record IsCaseOpening (n : Numbers) (c : Content) (b : Bundled (state_in n)) : Type 0 where
  pub opened : IsOpened (kind_of n) (graph_in n) (IsProperIn n) b
  pub same : AreSame (by_value (kind_of n) (graph_in n) b.states b.shares) (entangled c)
  pub size : size (graph_in n) b ≡ length c.names

pub case_opening_is : (n : Numbers) (c : Content) (b : Bundled (state_in n)) → IsValidContent c → CanRunIn n c → opening_in n c ≡ Ok b
    → IsCaseOpening n c b
unfolding opening_in
case_opening_is n c b V P h =
    let a = bind_ok (loaded_states n (length c.names) c.components) _ b h in
    let e = opened_is (kind_of n) (graph_in n) a.0 (map (λ k. k.share) c.components) b a.1.1 in
    record {
      opened = record {
        ready = subst (λ ss. AreReady (kind_of n) (graph_in n) (IsProperIn n) ss b.shares) (sym e.0)
            (subst (λ xs. AreReady (kind_of n) (graph_in n) (IsProperIn n) a.0 xs) (sym e.1) (ready c V n P a.0 a.1.0));
        levels = subst (λ ss. opened (kind_of n) (graph_in n) ss b.shares ≡ Ok b) (sym e.0)
            (subst (λ xs. opened (kind_of n) (graph_in n) a.0 xs ≡ Ok b) (sym e.1) a.1.1);
      };
      same = subst (λ ss. AreSame (by_value (kind_of n) (graph_in n) ss b.shares) (entangled c)) (sym e.0)
          (subst (λ xs. AreSame (by_value (kind_of n) (graph_in n) a.0 xs) (entangled c)) (sym e.1) (same c V n P a.0 a.1.0));
      size = ap (states_size (graph_in n)) e.0 ∙ size_is c V n P a.0 a.1.0;
    }

module _ (c : Content) (V : IsValidContent c) (p : ℕ → Number) (level : Number) (js : List ℕ) (o : IsLegalOrder (entangled c) p level whole js) where
  in_case : (I : ℕ → Bool) (j : ℕ) → IsLegal (entangled c) p level I j → IsIn (length c.names) I j
  unfolding entangled
  in_case I j l = l.member

  pub case_order : IsOrder (length c.names) whole js
  case_order = order_distinct (IsLegal (entangled c) p level) (length c.names) in_case js whole o

  below_all : (e : ℕ) → e < length js → at_place js e < (entangled c).hypotheses
  unfolding entangled
  below_all e q = place_below (length c.names) js whole case_order e q

  module _ (n : Numbers) (P : CanRunIn n c) (b : Bundled (state_in n)) (B : IsCaseOpening n c b) where
    order_there : IsLegalOrder (by_value (kind_of n) (graph_in n) b.states b.shares) p level whole js
    order_there = order_same (entangled c) _ (turned _ (entangled c) B.same) p level js o

    complete_there : IsComplete (entangled c) p level whole js → IsComplete (by_value (kind_of n) (graph_in n) b.states b.shares) p level whole js
    complete_there complete k l = complete k (legal_same _ (entangled c) B.same p level (left_after whole js) k l)

    carried : (v : WrittenEvidence) → listed (map (step_values (kind_of n)) v.steps) ≡ js
        → MeetsConditions (by_value (kind_of n) (graph_in n) b.states b.shares) p level (evidence_values (kind_of n) v.steps v.keeps)
        → MeetsConditions (entangled c) p level (evidence_values (kind_of n) v.steps v.keeps)
    carried v lists M = record {
      steps = steps_same _ (entangled c) B.same p level (map (step_values (kind_of n)) v.steps) [] (λ i h. absurd (cc)) M.steps;
      keeps = subst (λ is. All (IsGoodKeep (entangled c) p level is) (map (keep_values (kind_of n)) v.keeps)) (sym lists)
          (keeps_same _ (entangled c) B.same p level js below_all (map (keep_values (kind_of n)) v.keeps)
          (subst (λ is. All (IsGoodKeep (by_value (kind_of n) (graph_in n) b.states b.shares) p level is) (map (keep_values (kind_of n)) v.keeps)) lists
          M.keeps));
    }

    lists_order : (v : WrittenEvidence) → evidence_run (kind_of n) (graph_in n) (removal_in n) b js ≡ Ok v
        → listed (map (step_values (kind_of n)) v.steps) ≡ js
    lists_order v h = (net_steps (kind_of n) (IsStoredIn n) (exact_in n) (graph_in n) (IsProperIn n) (removal_in n)
        (removal_exact n) b B.opened p level js order_there v h).0

    evidence_meets : IsComplete (entangled c) p level whole js → (v : WrittenEvidence) → evidence_run (kind_of n) (graph_in n) (removal_in n) b js ≡ Ok v
        → MeetsConditions (entangled c) p level (evidence_values (kind_of n) v.steps v.keeps)
        × KeepsOthers (length c.names) (evidence_values (kind_of n) v.steps v.keeps)
    evidence_meets complete v h =
        let G = net_evidence (kind_of n) (IsStoredIn n) (exact_in n) (graph_in n) (IsProperIn n) (removal_in n)
        (removal_exact n) b B.opened p level js order_there (complete_there complete) v h in
        (carried v (lists_order v h) G.0, subst (λ m. KeepsOthers m (evidence_values (kind_of n) v.steps v.keeps)) B.size G.1)

    pub evidence_fits : (v : WrittenEvidence) → evidence_run (kind_of n) (graph_in n) (removal_in n) b js ≡ Ok v
        → FitsSize (length c.names) (length c.components) v.steps v.keeps
    unfolding entangled by_value
    evidence_fits v h =
        subst (λ m. FitsSize m (length c.components) v.steps v.keeps) B.size (subst (λ k. FitsSize (size (graph_in n) b) k v.steps v.keeps) B.same.components
        (net_fits (kind_of n) (IsStoredIn n) (exact_in n) (graph_in n) (IsProperIn n) (removal_in n) (removal_exact n) b B.opened p level js order_there v h))

    evidence_stored : (v : WrittenEvidence) → evidence_run (kind_of n) (graph_in n) (removal_in n) b js ≡ Ok v
        → AreStoredSteps (kind_of n) (IsStoredIn n) (length c.names) v.steps v.keeps
    evidence_stored v h =
        subst (λ m. AreStoredSteps (kind_of n) (IsStoredIn n) m v.steps v.keeps) B.size
        (net_stored (kind_of n) (IsStoredIn n) (exact_in n) (graph_in n) (IsProperIn n) (removal_in n)
        (removal_exact n) b B.opened p level js order_there v h)

  pub flows_fit : (n : Numbers) → CanRunIn n c → (v : WrittenEvidence) → flows_in n c js ≡ Ok v
      → FitsSize (length c.names) (length c.components) v.steps v.keeps
  unfolding flows_in
  flows_fit n P v h =
      let a = bind_ok (at_step 0 (opening_in n c)) _ v h in
      evidence_fits n P a.0 (case_opening_is n c a.0 V P (at_step_ok 0 (opening_in n c) a.0 a.1.0)) v a.1.1

  pub flows_list : (n : Numbers) → CanRunIn n c → (v : WrittenEvidence) → flows_in n c js ≡ Ok v
      → listed (map (step_values (kind_of n)) v.steps) ≡ js
  unfolding flows_in
  flows_list n P v h =
      let a = bind_ok (at_step 0 (opening_in n c)) _ v h in
      lists_order n P a.0 (case_opening_is n c a.0 V P (at_step_ok 0 (opening_in n c) a.0 a.1.0)) v a.1.1

  pub flows_meet : (n : Numbers) → CanRunIn n c → IsComplete (entangled c) p level whole js → (v : WrittenEvidence) → flows_in n c js ≡ Ok v
      → MeetsConditions (entangled c) p level (evidence_values (kind_of n) v.steps v.keeps)
      × KeepsOthers (length c.names) (evidence_values (kind_of n) v.steps v.keeps)
  unfolding flows_in
  flows_meet n P complete v h =
      let a = bind_ok (at_step 0 (opening_in n c)) _ v h in
      evidence_meets n P a.0 (case_opening_is n c a.0 V P (at_step_ok 0 (opening_in n c) a.0 a.1.0)) complete v a.1.1

  pub flows_stored : (n : Numbers) → CanRunIn n c → (v : WrittenEvidence) → flows_in n c js ≡ Ok v
      → AreStoredSteps (kind_of n) (IsStoredIn n) (length c.names) v.steps v.keeps
  unfolding flows_in
  flows_stored n P v h =
      let a = bind_ok (at_step 0 (opening_in n c)) _ v h in
      evidence_stored n P a.0 (case_opening_is n c a.0 V P (at_step_ok 0 (opening_in n c) a.0 a.1.0)) v a.1.1
