-- The nets of a run before the step at a place.
use Rattle.std.proofs.Common.{◌≡◌, refl, sym, ap, ◌∙◌, ℕ, ◌+◌, ◌<◌, ◌==◌, Bool, true, false, not, List, [], ◌∷◌, ◌++◌}
use Rattle.std.proofs.Common.{length, map, take, get_or, Result, Ok, arith}
use Rattle.std.proofs.lemmas.List.{take_more}
use Rattle.std.proofs.lemmas.Bool.Decides.{nat_tests}
use Rattle.field_core.specs.declared.place.Wide.{Wide}
use Rattle.field_core.specs.Kind.{Parts, Kind}
use Rattle.field_core.specs.Exact.{IsExact}
use Rattle.field_core.specs.Sets.{whole}
use Rattle.field_core.specs.Runs.{IsOrder}
use Rattle.field_core.specs.Steps.{◌>>=◌}
use Rattle.field_core.specs.Laws.Prefixes.{bind_ok, ok_same, each_length}
use Rattle.removal.specs.StoredGraph.{StoredGraph}
use Rattle.removal.specs.Exactness.{RemovesExactly}
use Rattle.removal.specs.InTurn.{removed_in_turn}
use Rattle.removal.proofs.WeightsLeft.{turn_end}
use Rattle.entangled.specs.Bundled.{Bundled, size, is_live, opened, removed}
use Rattle.entangled.specs.BundleRun.{opened_after}
use Rattle.entangled.proofs.BundleLevels.{live_are_left}
use Rattle.entangled.proofs.EachNet.{run_says}
use Rattle.evidence.specs.FlowTables.{if_wanted}
use Rattle.evidence.specs.FlowRun.{RunState, at_step, all_tables, flow_step}
use Rattle.evidence.specs.FlowStatements.{IsOpened}
use Rattle.evidence.proofs.RunEvidence.{at_step_ok, turn_next}
use Rattle.removal.proofs.Orders.{order_take, order_at}

-- what a step did
pub record StepDid {S : Type 0} (K : Kind) (graph : S → StoredGraph) (removal : S → ℕ → Result S Wide) (is_kept : Bool) (earlier : List ℕ) (j : ℕ)
    (is_last : Bool) (s t : RunState S) : Type 0 where
  pub tables : all_tables K (map graph s.bundle.states) s.tables earlier j is_last is_kept ≡ Ok t.tables
  pub bundle : if_wanted (not is_last) s.bundle (removed K graph removal s.bundle j) ≡ Ok t.bundle

pub step_did : {S : Type 0} (K : Kind) (graph : S → StoredGraph) (removal : S → ℕ → Result S Wide) (is_kept : Bool) (earlier : List ℕ) (j : ℕ)
    (is_last : Bool) (s t : RunState S) → flow_step K graph removal is_kept earlier j is_last s ≡ Ok t
    → StepDid K graph removal is_kept earlier j is_last s t
unfolding flow_step
step_did K graph removal is_kept earlier j is_last s t h =
    let b = bind_ok (at_step (length earlier + 1) (all_tables K (map graph s.bundle.states) s.tables earlier j is_last is_kept)) _ t h in
    let c = bind_ok (at_step (length earlier + 1) (if_wanted (not is_last) s.bundle (removed K graph removal s.bundle j))) _ t b.1.1 in
    let e : record { bundle = c.0; tables = b.0 } ≡ t = ok_same (Ok t) _ t (sym c.1.1) refl in
    record { tables = at_step_ok _ _ b.0 b.1.0 ∙ ap (λ u. Ok u.tables) e; bundle = at_step_ok _ _ c.0 c.1.0 ∙ ap (λ u. Ok u.bundle) e }

module _ {S : Type 0} (K : Kind) (IsStored : Parts → Type 0) (X : IsExact K IsStored) (graph : S → StoredGraph) (IsProper : S → Type 0)
    (removal : S → ℕ → Result S Wide) (E : RemovesExactly K IsStored graph IsProper removal)
    (b0 : Bundled S) (O : IsOpened K graph IsProper b0) (js : List ℕ) where
  pub reached_first : opened_after K graph removal b0.states b0.shares (take 0 js) ≡ Ok b0
  unfolding opened_after
  reached_first = ap (λ r. r >>= (λ v. removed_in_turn (removed K graph removal) v [])) O.levels ∙ turn_end (removed K graph removal) b0

  module _ (o : IsOrder (size graph b0) whole js) (n : ℕ) (p : n < length js) (b : Bundled S)
      (reached : opened_after K graph removal b0.states b0.shares (take n js) ≡ Ok b) where
    pub live_there : is_live graph b (get_or js n 0) ≡ true
    live_there =
        let i = order_at (size graph b0) js whole n o p in
        live_are_left K IsStored X graph IsProper removal E b0.states b0.shares (take n js) b (get_or js n 0) O.ready
        (order_take (size graph b0) js whole n o) reached i.below ∙ i.member

    pub as_many : length b.states ≡ length b0.states
    as_many = (run_says K graph removal b0.states b0.shares (take n js) b reached).as_many

    module _ (is_kept is_last : Bool) (l : is_last ≡ (n + 1 == length js)) (s t : RunState S) (e : s.bundle ≡ b)
        (h : flow_step K graph removal is_kept (take n js) (get_or js n 0) is_last s ≡ Ok t) where
      pub reached_next : n + 1 < length js → opened_after K graph removal b0.states b0.shares (take (n + 1) js) ≡ Ok t.bundle
      unfolding opened_after
      reached_next q =
          let f : is_last ≡ false = l ∙ differ (n + 1) (length js) q in
          let d = step_did K graph removal is_kept (take n js) (get_or js n 0) is_last s t h in
          let r : removed K graph removal b (get_or js n 0) ≡ Ok t.bundle = ap (λ b. removed K graph removal b (get_or js n 0)) (sym e)
          ∙ ap (λ w. if_wanted (not w) s.bundle (removed K graph removal s.bundle (get_or js n 0))) (sym f) ∙ d.bundle in
          let a = bind_ok (opened K graph b0.states b0.shares) _ b reached in
          ap (λ ks. opened K graph b0.states b0.shares >>= (λ v. removed_in_turn (removed K graph removal) v ks)) (take_more js n 0 p)
          ∙ ap (λ r. r >>= (λ v. removed_in_turn (removed K graph removal) v (take n js ++ get_or js n 0 ∷ []))) a.1.0
          ∙ turn_next (removed K graph removal) (take n js) (get_or js n 0) a.0 b t.bundle a.1.1 r
        where
          differ : (i k : ℕ) → i < k → (i == k) ≡ false
          differ i k h = grind (arith, nat_tests)

  pub tables_stay : (is_kept is_last : Bool) (earlier : List ℕ) (j : ℕ) (s t : RunState S)
      → flow_step K graph removal is_kept earlier j is_last s ≡ Ok t → length t.tables ≡ length s.tables
  unfolding all_tables
  tables_stay is_kept is_last earlier j s t h = each_length (length s.tables) _ t.tables (step_did K graph removal is_kept earlier j is_last s t h).tables
