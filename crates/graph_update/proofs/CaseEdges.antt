-- The edges of a case after removals, by value.
use Rattle.std.proofs.Common.{◌≡◌, ◌≢◌, refl, sym, ap, subst, ◌∙◌, ℕ, ◌<◌, Bool, List, length, map, get_or, Ok}
use Rattle.std.proofs.lemmas.List.{get_or-map}
use Rattle.field_core.specs.Exact.{value_of}
use Rattle.field_core.specs.Graph.{Graph, IsValid}
use Rattle.field_core.specs.Number.{Number}
use Rattle.field_core.specs.NumberField.{number_field}
use Rattle.field_core.specs.Runs.{IsOrder, left_after, after}
use Rattle.field_core.specs.Sets.{IsIn, whole}
use Rattle.field_core.specs.Laws.Prefixes.{ok_same}
use Rattle.case_model.specs.Content.{Content, component_at}
use Rattle.case_model.specs.Validity.{IsValidContent}
use Rattle.case_numbers.specs.Numbers.{Numbers, numbers_of, kind_of, IsStoredIn}
use Rattle.case_numbers.proofs.Components.{can_run}
use Rattle.removal.specs.StoredGraph.{edge, no_graph}
use Rattle.removal.specs.ByValue.{graph_of}
use Rattle.removal.specs.Laws.Seen.{edge_in}
use Rattle.removal.proofs.WeightsLeft.{Stands, in_turn}
use Rattle.entangled.specs.States.{state_in, graph_in, IsProperIn, removal_in}
use Rattle.entangled.specs.CaseRun.{CaseState, state_of}
use Rattle.entangled.specs.CaseAfter.{case_after}
use Rattle.entangled.proofs.CaseStates.{no_state, IsStateOf, AreStatesOf, states_are, removal_exact}
use Rattle.entangled.proofs.CaseSteps.{IsRunOf, is_run}
use Rattle.entangled.proofs.EachNet.{IsLater, run_says}
use Rattle.graph_update.specs.UpdateLaws.{edge_value, EdgesAgreeInEveryOrder}
use Rattle.graph_update.proofs.AnyEdges.{edges_same}

module _ (c : Content) (V : IsValidContent c) (i : ℕ) (p : i < length c.components) where
  abbrev pub n : Numbers
  n = numbers_of c

  abbrev pub m : ℕ
  m = length c.names

  -- the graph of a component as it is opened, by value
  abbrev pub opened_value : List (state_in n) → Graph Number
  opened_value states = graph_of (kind_of n) (graph_in n (get_or states i (no_state n)))

  module _ (js : List ℕ) (s : CaseState) (o : IsOrder m whole js) (h : case_after c js ≡ Ok s) where
    abbrev pub R : IsRunOf c js s
    R = is_run c js s h

    A : AreStatesOf n c R.states
    A = states_are n c V (can_run c) R.states R.loaded

    abbrev first : state_in n
    first = get_or R.states i (no_state n)

    abbrev last : state_in n
    last = get_or R.last.states i (no_state n)

    T : IsStateOf n m (component_at c.components i) first
    T = A.each i p

    L : IsLater (kind_of n) (graph_in n) (removal_in n) R.states (map (λ k. k.share) c.components) js R.last
    L = run_says (kind_of n) (graph_in n) (removal_in n) R.states (map (λ k. k.share) c.components) js R.last R.run

    within : i < length R.states
    within = subst (λ k. i < k) (sym A.as_many) p

    abbrev IsAt : (ℕ → Bool) → Graph Number → state_in n → Type 0
    IsAt = Stands (kind_of n) (IsStoredIn n) (graph_in n) (IsProperIn n) (removal_in n) (removal_exact n) m

    at_end : IsAt (left_after whole js) (after number_field (opened_value R.states) js) last
    at_end = in_turn (kind_of n) (IsStoredIn n) (graph_in n) (IsProperIn n) (removal_in n) (removal_exact n) m js whole (opened_value R.states) first last
        (record { proper = T.proper; same_size = T.graph.size; live = λ k b. T.graph.live k (subst (λ x. k < x) (sym T.graph.size) b); value = refl })
        o (L.each i (no_state n) within)

    last_value : (l k : ℕ) → edge_value (state_of n R.last) i l k ≡ value_of (edge (kind_of n) (graph_in n last) l k)
    unfolding edge_value
    last_value l k = ap (λ G. value_of (edge (kind_of n) G l k))
        (get_or-map (graph_in n) R.last.states i (no_state n) no_graph (subst (λ x. i < x) (sym L.as_many) within))

    -- the edge is that of the graph after the removals
    pub edge_after : (l k : ℕ) → IsIn m (left_after whole js) l → IsIn m (left_after whole js) k → l ≢ k
        → edge_value s i l k ≡ (after number_field (opened_value R.states) js).edge l k
    edge_after l k a b d =
        ap (λ t. edge_value t i l k) (sym R.is) ∙ last_value l k
        ∙ sym (edge_in (kind_of n) (graph_in n last) l k (at_end.live l a.below ∙ a.member) (at_end.live k b.below ∙ b.member) d)
        ∙ ap (λ B. B.edge l k) at_end.value

    pub opened_valid : IsValid number_field m (opened_value R.states)
    opened_valid = subst (λ x. IsValid number_field x (graph_of (kind_of n) (graph_in n first))) T.graph.size T.graph.sound

  same_opened : (js ks : List ℕ) (s t : CaseState) (h : case_after c js ≡ Ok s) (g : case_after c ks ≡ Ok t)
      → opened_value (is_run c ks t g).states ≡ opened_value (is_run c js s h).states
  same_opened js ks s t h g = ap opened_value (ok_same _ _ _ (is_run c ks t g).loaded (is_run c js s h).loaded)

pub edges_agree : EdgesAgreeInEveryOrder
edges_agree = λ c js ks s t i l k V o u same h g p a b d.
    let m = length c.names in
    let a' : IsIn m (left_after whole ks) l = record { below = a.below; member = sym (same l a.below) ∙ a.member } in
    let b' : IsIn m (left_after whole ks) k = record { below = b.below; member = sym (same k b.below) ∙ b.member } in
    let G = opened_value c V i p (is_run c js s h).states in
    edge_after c V i p js s o h l k a b d
    ∙ edges_same number_field m G (opened_valid c V i p js s o h) js ks o u same l k a b d
    ∙ ap (λ B. (after number_field B ks).edge l k) (sym (same_opened c V i p js ks s t h g))
    ∙ sym (edge_after c V i p ks t u g l k a' b' d)
