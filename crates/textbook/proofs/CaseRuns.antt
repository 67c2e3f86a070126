-- The written run of a plain case of one component is that of its net.
use Rattle.std.proofs.Common.{◌≡◌, refl, sym, ap, ◌∙◌, subst, ℕ, ◌*◌, ◌<◌, arith, true, List, [], ◌∷◌, length, map, get_or, pos}
use Rattle.std.proofs.Common.{◌*ℤ◌, Result, Ok}
use Rattle.field_core.specs.Number.{Number}
use Rattle.field_core.specs.Arithmetic.{number_one}
use Rattle.field_core.specs.Graph.{Graph}
use Rattle.field_core.specs.Kind.{ok_map}
use Rattle.field_core.specs.Sets.{whole}
use Rattle.field_core.specs.Runs.{IsOrder}
use Rattle.field_core.specs.Steps.{in_component, each_below, ◌>>=◌}
use Rattle.field_core.specs.Laws.Prefixes.{bind_ok, each_suc}
use Rattle.field_core.specs.Laws.Effective.{fraction-cross, positive_nonzero}
use Rattle.field_core.specs.View.{terms}
use Rattle.field_core.specs.declared.ratio.Ratio.{Ratio}
use Rattle.field_core.specs.declared.place.WideAt.{WideAt}
use Rattle.field_core.proofs.UnitLimits.{one_is, suc_not_zero}
use Rattle.fraction.specs.Plain.{plain}
use Rattle.fraction.specs.View.{number_of}
use Rattle.numerals.specs.Laws.Unique.{reduced_unique}
use Rattle.fraction.proofs.SameRatios.{same_ratio}
use Rattle.case_model.specs.declared.component.Component.{Component}
use Rattle.case_model.specs.Content.{Content, component_at, empty_component, entangled, is_plain}
use Rattle.case_model.specs.TextbookGraphs.{IsAlone}
use Rattle.case_model.specs.Validity.{IsValidContent}
use Rattle.case_model.specs.Sums.{one_ratio}
use Rattle.case_numbers.specs.Numbers.{in_fractions}
use Rattle.case_numbers.proofs.Components.{is_component, can_load}
use Rattle.removal.specs.StoredGraph.{StoredGraph, size}
use Rattle.removal.specs.WrittenRemoval.{written_removal}
use Rattle.removal.specs.InTurn.{removed_in_turn}
use Rattle.removal.specs.Laws.Seen.{weight_in, edge_in}
use Rattle.removal.proofs.WeightsLeft.{turn_none, turn_on, turn_first}
use Rattle.entangled.specs.Bundled.{Bundled, opened, removed}
use Rattle.entangled.specs.BundleRun.{opened_after}
use Rattle.entangled.specs.Loading.{edge_at, loaded_edges, loaded_graph, loaded_state, loaded_states, state_at}
use Rattle.entangled.specs.States.{gathered_in}
use Rattle.entangled.specs.CaseRun.{state_of, opening_in, case_opening, case_removal}
use Rattle.entangled.specs.CaseAfter.{case_after}
use Rattle.entangled.proofs.CaseGraphs.{IsGraphOf, graph_loaded}
use Rattle.entangled.proofs.CaseNumbers.{plain_opening}
use Rattle.entangled.proofs.LoadSteps.{no_states, all_states}
use Rattle.textbook.specs.TextbookRuns.{Stores, IsNeverRefusedAlone}
use Rattle.textbook.proofs.ShortRemovals.{IsDefined, each_defined, then_made}

-- ---- lists of one

one_item : {A : Type 0} (xs : List A) (d : A) → length xs ≡ 1 → xs ≡ get_or xs 0 d ∷ []
one_item [] d h = absurd (omega arith)
one_item (x ∷ []) d h = refl
one_item (x ∷ y ∷ xs) d h = absurd (omega arith)

-- ---- loading

edge_loads : (m : ℕ) (table : List (List Ratio)) (i : ℕ) → IsDefined (edge_at in_fractions m table i)
unfolding edge_at
edge_loads m table i = (_, refl)

graph_loads : (m : ℕ) (k : Component) → IsDefined (loaded_graph in_fractions m k)
unfolding loaded_graph loaded_edges
graph_loads m k =
    let es = each_defined (m * m) (edge_at in_fractions m k.edges) (λ i h. edge_loads m k.edges i) in
    (_, then_made (each_below (m * m) (edge_at in_fractions m k.edges)) _ es.0 es.1)

state_loads : (m : ℕ) (ks : List Component) (G : StoredGraph) → loaded_graph in_fractions m (component_at ks 0) ≡ Ok G
    → state_at in_fractions m ks 0 ≡ Ok G
unfolding state_at loaded_state
state_loads m ks G h = ap (λ r. in_component 0 (r >>= gathered_in in_fractions)) h

states_load : (m : ℕ) (ks : List Component) (G : StoredGraph) → length ks ≡ 1 → loaded_graph in_fractions m (component_at ks 0) ≡ Ok G
    → loaded_states in_fractions m ks ≡ Ok (G ∷ [])
states_load m ks G h e =
    let first : each_below 1 (state_at in_fractions m ks) ≡ Ok (G ∷ []) = each_suc 0 (state_at in_fractions m ks)
    ∙ then_made (each_below 0 (state_at in_fractions m ks)) _ [] (no_states in_fractions m ks)
    ∙ then_made (state_at in_fractions m ks 0) _ G (state_loads m ks G e) in
    all_states in_fractions m ks 1 (G ∷ []) (sym h) first

-- a fraction of the value 1 is 1/1
one_share : (x : Ratio) → number_of x ≡ number_one → x ≡ one_ratio
one_share x e =
    let same : x.num *ℤ pos 1 ≡ pos 1 *ℤ x.den = fraction-cross x.num x.den (pos 1) (pos 1) (positive_nonzero x.den x.valid.positive) (suc_not_zero 0)
    (e ∙ one_is) in
    same_ratio x one_ratio (reduced_unique (terms x) (terms one_ratio) x.valid one_ratio.valid same)

-- ---- runs

abbrev bundle_removal : Bundled StoredGraph → ℕ → Result (Bundled StoredGraph) WideAt
bundle_removal = removed plain (λ G. G) (written_removal plain)

case_step : (b d : Bundled StoredGraph) (j : ℕ) → bundle_removal b j ≡ Ok d → case_removal (state_of in_fractions b) j ≡ Ok (state_of in_fractions d)
unfolding case_removal
case_step b d j h = ap (λ r. ok_map (state_of in_fractions) r) h

same_state : (b d : Bundled StoredGraph) → b ≡ d → removed_in_turn case_removal (state_of in_fractions b) [] ≡ Ok (state_of in_fractions d)
unfolding removed_in_turn
same_state b d e = ap (λ x. Ok (state_of in_fractions x)) e

case_turns : (js : List ℕ) (b d : Bundled StoredGraph) → removed_in_turn bundle_removal b js ≡ Ok d
    → removed_in_turn case_removal (state_of in_fractions b) js ≡ Ok (state_of in_fractions d)
case_turns [] b d h = same_state b d (turn_none bundle_removal b d h)
case_turns (j ∷ js) b d h =
    let r = turn_first bundle_removal b d j js h in
    turn_on case_removal (state_of in_fractions b) (state_of in_fractions r.0) (state_of in_fractions d) j js (case_step b r.0 j r.1.0)
    (case_turns js r.0 d r.1.1)

module _ (c : Content) (V : IsValidContent c) (P : is_plain c ≡ true) (G : Graph Number) (A : IsAlone G (entangled c)) where
  one_component : length c.components ≡ 1
  unfolding entangled
  one_component = A.one

  share_value : number_of (component_at c.components 0).share ≡ number_one
  unfolding entangled
  share_value = A.share

  shares_are : map (λ (k : Component). k.share) c.components ≡ one_ratio ∷ []
  shares_are = ap (map (λ (k : Component). k.share)) (one_item c.components empty_component one_component)
      ∙ ap (λ x. x ∷ []) (one_share (component_at c.components 0).share share_value)

  pub net : IsDefined (loaded_graph in_fractions (length c.names) (component_at c.components 0))
  net = graph_loads (length c.names) (component_at c.components 0)

  is_net : IsGraphOf in_fractions (length c.names) (component_at c.components 0) net.0
  is_net =
      let b : 0 < length c.components = omega (arith, one_component) in
      graph_loaded in_fractions (length c.names) (component_at c.components 0) net.0 (is_component c V 0 b) (can_load in_fractions c P 0 b) net.1

  pub net_stores : Stores G net.0
  unfolding entangled
  net_stores =
      let N = is_net in
      let at : (l : ℕ) → l < size net.0 → l < length c.names = λ l b. subst (λ n. l < n) N.size b in
      record {
        stored = N.stored;
        live = N.live;
        weight_is = λ l b. sym (weight_in plain net.0 l (N.live l b)) ∙ N.same.weight l (at l b) ∙ A.weight l (at l b);
        edge_is = λ l k b g n. sym (edge_in plain net.0 l k (N.live l b) (N.live k g) n) ∙ N.same.edge l k (at l b) (at k g)
            ∙ A.edge l k (at l b) (at k g);
      }

  pub net_size : size net.0 ≡ length c.names
  net_size = is_net.size

  opening_is : opening_in in_fractions c ≡ opened plain (λ G. G) (net.0 ∷ []) (one_ratio ∷ [])
  unfolding opening_in
  opening_is = then_made (loaded_states in_fractions (length c.names) c.components) _ (net.0 ∷ [])
      (states_load (length c.names) c.components net.0 one_component net.1) ∙ ap (opened plain (λ G. G) (net.0 ∷ [])) shares_are

  -- the run of the case is defined where that of its net is
  pub case_defined : IsNeverRefusedAlone net.0 → (js : List ℕ) → IsOrder (length c.names) whole js → IsDefined (case_after c js)
  unfolding opened_after case_after
  case_defined D js o =
      let d = D js (subst (λ n. IsOrder n whole js) (sym net_size) o) in
      let b = bind_ok (opened plain (λ G. G) (net.0 ∷ []) (one_ratio ∷ [])) _ d.0 d.1 in
      let start : case_opening c ≡ Ok (state_of in_fractions b.0) = plain_opening c P
      ∙ ap (λ r. ok_map (state_of in_fractions) r) (opening_is ∙ b.1.0) in
      (state_of in_fractions d.0, then_made (case_opening c) _ (state_of in_fractions b.0) start ∙ case_turns js b.0 d.0 b.1.1)
