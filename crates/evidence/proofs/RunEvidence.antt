-- A flow run along a legal order gives good steps, and one along a complete order good keeps.
use Rattle.std.proofs.Common.{◌≡◌, inl, inr, refl, sym, ap, ap₂, subst, ◌∙◌, ℕ, ◌+◌, ◌<◌, Bool, true, false, not, List, [], ◌∷◌}
use Rattle.std.proofs.Common.{◌++◌, Result, Ok, Err, length, get_or, map, replicate, arith}
use Rattle.std.specs.List.{All}
use Rattle.std.proofs.lemmas.List.{get_or-map, get_or_past, get_or-replicate, length-map, length-replicate}
use Rattle.std.proofs.lemmas.List.Elements.{All-nil, All-cons}
use Rattle.field_core.specs.declared.place.Wide.{Wide}
use Rattle.field_core.specs.declared.place.WideAt.{WideAt}
use Rattle.field_core.specs.declared.ratio.Ratio.{Ratio}
use Rattle.field_core.specs.Number.{Number}
use Rattle.field_core.specs.Arithmetic.{number_zero, ◌+ε◌, ◌*ε◌}
use Rattle.field_core.specs.Order.{◌≤ε◌}
use Rattle.field_core.specs.NumberField.{number_field}
use Rattle.field_core.specs.Limit.{limit}
use Rattle.field_core.specs.Graph.{Graph, IsValid}
use Rattle.field_core.specs.Removal.{without}
use Rattle.field_core.specs.Sums.{dot}
use Rattle.field_core.specs.Sets.{IsIn, dropping, whole, set_of}
use Rattle.field_core.specs.Flows.{into}
use Rattle.field_core.specs.Runs.{IsOrder, left_after, after, through}
use Rattle.field_core.specs.Laws.AtMostLaws.{at_most_trans, at_most_equal}
use Rattle.field_core.proofs.Live.{true_or_false}
use Rattle.field_core.proofs.Positions.{below_or_above}
use Rattle.field_core.proofs.SumLaws.{sum_congr}
use Rattle.field_core.proofs.WeightLaws.{order_reached, order_weight}
use Rattle.field_core.proofs.NumberWeights.{weight_unit}
use Rattle.field_core.specs.Kind.{Parts, Kind}
use Rattle.field_core.specs.Exact.{IsExact, value_of}
use Rattle.case_model.specs.IntersectionWeight.{IsIntersectionWeight}
use Rattle.case_model.specs.ClosedTest.{Passes, IsLegal}
use Rattle.case_model.specs.LegalOrder.{IsLegalOrder, IsComplete}
use Rattle.case_model.proofs.LegalSteps.{after_append}
use Rattle.case_model.proofs.ClosedTestLaws.{legal_passes, passes_legal}
use Rattle.case_model.proofs.RejectionOrders.{left_append, left_not_listed, not_listed_left, order_distinct}
use Rattle.field_core.specs.Steps.{◌>>=◌}
use Rattle.removal.specs.StoredGraph.{StoredGraph, no_graph}
use Rattle.removal.specs.Exactness.{RemovesExactly}
use Rattle.removal.specs.InTurn.{removed_in_turn}
use Rattle.field_core.specs.Laws.Prefixes.{bind_ok, ok_same, each_get, each_length}
use Rattle.removal.proofs.WeightsLeft.{in_turn, turn_end, turn_first, turn_on, turn_none}
use Rattle.entangled.specs.Bundled.{Bundled, states_size, opened, removed}
use Rattle.entangled.specs.BundleRun.{opened_after, AreReady, by_value}
use Rattle.entangled.proofs.Steps.{in_component_ok}
use Rattle.entangled.proofs.EachNet.{IsLater, run_says}
use Rattle.entangled.proofs.FirstNets.{some_net, net_before, graph_before, first_nets}
use Rattle.evidence_check.specs.Evidence.{at_place, brought, leaving, allowed, shared, listed, AreFlows, AreExits, IsGoodStep, AreGoodSteps, IsGoodKeep}
use Rattle.evidence_check.proofs.Hypotheses.{one_longer}
use Rattle.evidence_check.proofs.Places.{place_below, place_listed, order_in}
use Rattle.evidence_check.proofs.Vectors.{back_dot, dot_back}
use Rattle.evidence.specs.FlowTables.{Tables, row, if_wanted, first_tables}
use Rattle.evidence.specs.FlowRun.{at_step, RunState, FlowRun, has_some, flow_step, no_tables, graph_at, tables_at, recorded, kept_exits, all_tables}
use Rattle.evidence.specs.FlowRun.{flow_run}
use Rattle.evidence_check.specs.EvidenceParts.{numbers_at, AreFull, FlowsFit, part_at, step_values, keep_values}
use Rattle.evidence.proofs.Lists.{all_mapped}
use Rattle.evidence.proofs.TableSteps.{Shows}
use Rattle.evidence.proofs.RunStates.{HoldFlows, HoldExits, first_flows, first_exits, StepsTo, steps_to, flows_go_on, exits_go_on}

-- the number of a component at a place, by value
abbrev value_at : Kind → List (List Parts) → ℕ → ℕ → Number
value_at K xs c e = value_of (part_at K xs c e)

-- ---- runs with one more

pub order_more : (m : ℕ) (js : List ℕ) (j : ℕ) (I : ℕ → Bool) → IsOrder m I js → IsIn m (left_after I js) j → IsOrder m I (js ++ j ∷ [])
order_more m [] j I o p = (p, tt)
order_more m (i ∷ js) j I o p = (o.0, order_more m js j (dropping i I) o.1 p)

pub turn_next : {S E : Type 0} (removal : S → ℕ → Result S E) (js : List ℕ) (j : ℕ) (s t u : S) → removed_in_turn removal s js ≡ Ok t
    → removal t j ≡ Ok u → removed_in_turn removal s (js ++ j ∷ []) ≡ Ok u
turn_next removal [] j s t u h e = turn_on removal s u u j [] (ap (λ v. removal v j) (turn_none removal s t h) ∙ e) (turn_end removal u)
turn_next removal (i ∷ js) j s t u h e = let a = turn_first removal s t i js h in turn_on removal s a.0 u i (js ++ j ∷ []) a.1.0
    (turn_next removal js j a.0 t u a.1.1 e)

recorded_full : (K : Kind) (n : ℕ) (ts : List Tables) (earlier : List ℕ) (j : ℕ) → length ts ≡ n
    → AreFull n (length earlier) (recorded K ts earlier j).flows
unfolding recorded
recorded_full K n ts earlier j e = record {
  lists = length-map ts _ ∙ e;
  each = all_mapped _ (λ ys. length ys ≡ length earlier) ts (λ i d q. length-map earlier _);
}

-- what is picked of each table at some places is stored, as 0 is past the last one
pub picked_stored : (K : Kind) (IsStored : Parts → Type 0) → IsExact K IsStored → (pick : Tables → List Parts) (ts : List Tables) (places : List ℕ)
    → ((c r : ℕ) → c < length ts → IsStored (numbers_at K (pick (tables_at ts c)) r))
    → (c e : ℕ) → IsStored (part_at K (map (λ t. map (numbers_at K (pick t)) places) ts) c e)
unfolding numbers_at
picked_stored K IsStored X pick ts places each c e = elim (below_or_above c (length ts)) [
  | inr past ↦ subst (λ xs. IsStored (get_or xs e K.zero))
      (sym (get_or_past (map (λ t. map (λ r. get_or (pick t) r K.zero) places) ts) c []
      (let l = length-map ts (λ t. map (λ r. get_or (pick t) r K.zero) places) in omega (arith, l, past))))
      (subst IsStored (sym (get_or_past [] e K.zero (omega arith))) X.zero_stored)
  | inl q ↦ subst (λ xs. IsStored (get_or xs e K.zero))
      (sym (get_or-map (λ t. map (λ r. get_or (pick t) r K.zero) places) ts c no_tables [] q))
      (elim (below_or_above e (length places)) [
        | inr past ↦ subst IsStored
            (sym (get_or_past (map (λ r. get_or (pick (tables_at ts c)) r K.zero) places) e K.zero
            (let l = length-map places (λ r. get_or (pick (tables_at ts c)) r K.zero) in omega (arith, l, past)))) X.zero_stored
        | inl p ↦ subst IsStored (sym (get_or-map (λ r. get_or (pick (tables_at ts c)) r K.zero) places e 0 K.zero p)) (each c (get_or places e 0) q)
      ])
]

recorded_for_is : (K : Kind) (ts : List Tables) (earlier : List ℕ) (j : ℕ) → (recorded K ts earlier j).hypothesis ≡ j
unfolding recorded
recorded_for_is K ts earlier j = refl

pub at_step_ok : {A : Type 0} (n : ℕ) (r : Result A WideAt) (x : A) → at_step n r ≡ Ok x → r ≡ Ok x
at_step_ok n (Ok y) x h = cc
at_step_ok n (Err e) x h = absurd (cc)

module _ {S : Type 0} (K : Kind) (IsStored : Parts → Type 0) (X : IsExact K IsStored) (graph : S → StoredGraph) (IsProper : S → Type 0)
    (removal : S → ℕ → Result S Wide) (E : RemovesExactly K IsStored graph IsProper removal)
    (states : List S) (shares : List Ratio) (R : AreReady K graph IsProper states shares) where
  abbrev pub m : ℕ
  m = states_size graph states

  abbrev pub d : S
  d = some_net K graph IsProper states shares R

  abbrev pub before : ℕ → S
  before = net_before K graph IsProper states shares R

  abbrev pub first_graph : ℕ → Graph Number
  first_graph = graph_before K graph IsProper states shares R

  open first_nets K graph IsProper states shares R IsStored removal E use {graph_is, valid, stands}

  -- ---- orders of removals

  module _ (earlier : List ℕ) (o : IsOrder m whole earlier) where
    below : (r : ℕ) → set_of earlier r ≡ true → r < m
    below r h = (order_in m earlier whole o r h).below

    gone : (r : ℕ) → set_of earlier r ≡ true → left_after whole earlier r ≡ false
    gone r h = elim (true_or_false (left_after whole earlier r)) [ inl l ↦ absurd (cc (left_not_listed earlier whole r l)) | inr f ↦ f ]

    rest_in : (r : ℕ) → set_of earlier r ≡ false → left_after whole earlier r ≡ true
    rest_in r h = not_listed_left earlier whole r refl h

    -- the weight that is left, in an intersection
    weight_is : (k : ℕ) → IsIn m (left_after whole earlier) k
        → IsIntersectionWeight (by_value K graph states shares) (left_after whole earlier) k
        (shared (by_value K graph states shares) (λ c. (after number_field ((by_value K graph states shares).graph c) earlier).weight k))
    unfolding by_value
    weight_is k i = record {
      weight = λ c. (after number_field ((by_value K graph states shares).graph c) earlier).weight k;
      is_weight = λ c p. order_weight number_field m _ (subst (IsValid number_field m) (sym (graph_is c p)) (valid c p))
          (left_after whole earlier) earlier k o (λ _ _. refl) i;
      sum = refl;
    }

    -- ---- the keeps after a run

    module _ (ts : List Tables) (count : length ts ≡ length states)
        (holds : (c : ℕ) → c < length states → HoldExits K IsStored X m (first_graph c) (left_after whole earlier)
        (after number_field (first_graph c) earlier) (tables_at ts c)) where
      module _ (k : ℕ) (W : IsIn m (left_after whole earlier) k) where
        exit_at : (c e : ℕ) → c < length states → e < length earlier
            → value_at K (kept_exits K ts earlier k).exits c e ≡ value_of (numbers_at K (row (tables_at ts c).exits k) (at_place earlier e))
        unfolding kept_exits numbers_at at_place
        exit_at c e q r =
            ap (λ xs. value_of (get_or xs e K.zero))
            (get_or-map (λ t. map (λ i. get_or (row t.exits k) i K.zero) earlier) ts c no_tables [] (subst (λ n. c < n) (sym count) q))
            ∙ ap value_of (get_or-map (λ i. get_or (row (tables_at ts c).exits k) i K.zero) earlier e 0 K.zero r)

        module _ (c : ℕ) (q : c < length states) where
          hold : HoldExits K IsStored X m (first_graph c) (left_after whole earlier) (after number_field (first_graph c) earlier) (tables_at ts c)
          hold = holds c q

          exit_is : (e : ℕ) → e < length earlier → value_at K (kept_exits K ts earlier k).exits c e ≡ hold.H k (at_place earlier e)
          exit_is e r = exit_at c e q r ∙ (hold.into k W).value (at_place earlier e)

          leaving_is : (r : ℕ) → leaving (first_graph c) earlier
              (value_at K (kept_exits K ts earlier k).exits c) k r ≡ (first_graph c).edge r k +ε dot number_field m ((first_graph c).edge r) (hold.H k)
          unfolding leaving number_field
          leaving_is r = ap (λ s. (first_graph c).edge r k +ε s) (
              sum_congr number_field (length earlier) _ _ (λ e h. ap (λ v. (first_graph c).edge r (at_place earlier e) *ε v) (exit_is e h))
              ∙ sym (dot_back number_field m earlier whole o ((first_graph c).edge r) (hold.H k) (λ i _ n. hold.exits.elsewhere k i (rest_in i n))))

          allowed_now : allowed (first_graph c) earlier (value_at K (kept_exits K ts earlier k).exits c)
              k ≡ (after number_field (first_graph c) earlier).weight k
          unfolding allowed number_field
          allowed_now =
              ap (λ s. (first_graph c).weight k +ε s) (
              sum_congr number_field (length earlier) _ _ (λ e h. ap (λ v. (first_graph c).weight (at_place earlier e) *ε v) (exit_is e h))
              ∙ sym (dot_back number_field m earlier whole o (first_graph c).weight (hold.H k) (λ i _ n. hold.exits.elsewhere k i (rest_in i n))))
              ∙ sym (hold.exits.weight k W)

          are_exits : AreExits (first_graph c) earlier k (value_at K (kept_exits K ts earlier k).exits c)
          unfolding number_field through
          are_exits = record {
            nonneg = λ r h. subst (λ x. number_zero ≤ε x) (sym (exit_is r h)) (hold.exits.nonneg k (at_place earlier r) W);
            above = λ r h. at_most_equal _ _
                (leaving_is (at_place earlier r) ∙ sym (hold.exits.solves k (at_place earlier r) W (gone (at_place earlier r) (gone_place r h)))
                ∙ sym (exit_is r h));
            bounded = at_most_trans _ _ _ (at_most_equal _ _ allowed_now)
                (weight_unit m (first_graph c) (left_after whole earlier) k _ (valid c q) W
                (order_weight number_field m (first_graph c) (valid c q) (left_after whole earlier) earlier k o (λ _ _. refl) W)).high;
          }
            where
              gone_place : (r : ℕ) → r < length earlier → set_of earlier (at_place earlier r) ≡ true
              gone_place r h = place_listed earlier r h

        pub good_keep : (p : ℕ → Number) (level : Number) → IsComplete (by_value K graph states shares) p level whole earlier
            → IsGoodKeep (by_value K graph states shares) p level earlier (keep_values K (kept_exits K ts earlier k))
        unfolding by_value kept_exits
        good_keep p level complete = record {
          below = W.below;
          exits = λ c q. subst (λ A. AreExits A earlier k (value_at K (kept_exits K ts earlier k).exits c)) (sym (graph_is c q)) (are_exits c q);
          fails = λ h. complete k (passes_legal (by_value K graph states shares) p level (left_after whole earlier) k _ W (weight_is k W)
              (subst (λ u. Passes (p k) u level) (sym (sum_congr number_field (length states) _ _ each)) h));
        }
          where
            each : (c : ℕ) → c < length states → (by_value K graph states shares).share c *ε limit
                ((after number_field ((by_value K graph states shares).graph c) earlier).weight k) ≡ (by_value K graph states shares).share c *ε limit
                (allowed ((by_value K graph states shares).graph c) earlier (value_at K (kept_exits K ts earlier k).exits c) k)
            each c q = ap (λ x. (by_value K graph states shares).share c *ε limit x) (
                subst (λ A. (after number_field A earlier).weight k ≡ allowed A earlier (value_at K (kept_exits K ts earlier k).exits c) k)
                (sym (graph_is c q)) (sym (allowed_now c q)))

  module _ (is_kept : Bool) where
    -- the state of a run after the steps of `earlier`
    pub record IsAt (earlier : List ℕ) (b : Bundled S) (ts : List Tables) : Type 0 where
      pub order : IsOrder m whole earlier
      pub reached : opened_after K graph removal states shares earlier ≡ Ok b
      pub count : length ts ≡ length states
      pub flows : (c : ℕ) → c < length states → HoldFlows K IsStored X m (first_graph c) (left_after whole earlier)
          (after number_field (first_graph c) earlier) (tables_at ts c)
      pub exits : is_kept ≡ true → (c : ℕ) → c < length states
          → HoldExits K IsStored X m (first_graph c) (left_after whole earlier) (after number_field (first_graph c) earlier) (tables_at ts c)

    module _ (earlier : List ℕ) (b : Bundled S) (ts : List Tables) (T : IsAt earlier b ts) where
      later : IsLater K graph removal states shares earlier b
      later = run_says K graph removal states shares earlier b T.reached

      shows : (c : ℕ) → c < length states → Shows K IsStored X m (left_after whole earlier) (after number_field (first_graph c) earlier)
          (graph_at (map graph b.states) c)
      unfolding net_before
      shows c p =
          let D = in_turn K IsStored graph IsProper removal E m earlier whole (first_graph c) (before c) (get_or b.states c d) (stands c p) T.order
          (later.each c d p) in
          let e = get_or-map graph b.states c d no_graph (subst (λ n. c < n) (sym later.as_many) p) in
          subst (Shows K IsStored X m (left_after whole earlier) (after number_field (first_graph c) earlier)) (sym e)
          (record { same_size = D.same_size; live = D.live; value = D.value; stored = E.stored (get_or b.states c d) D.proper })

      valid_now : (c : ℕ) → c < length states → IsValid number_field m (after number_field (first_graph c) earlier)
      valid_now c p = (order_reached number_field m (first_graph c) (valid c p) earlier T.order).valid

      module _ (p : ℕ → Number) (level : Number) (j : ℕ) (legal : IsLegal (by_value K graph states shares) p level (left_after whole earlier) j) where
        J : IsIn m (left_after whole earlier) j
        unfolding by_value
        J = legal.member

        -- ---- the step that is recorded

        flow_at : (c e : ℕ) → c < length states → e < length earlier
            → value_at K (recorded K ts earlier j).flows c e ≡ value_of (numbers_at K (tables_at ts c).flows (at_place earlier e))
        unfolding recorded numbers_at at_place
        flow_at c e q r =
            ap (λ xs. value_of (get_or xs e K.zero))
            (get_or-map (λ t. map (λ i. get_or t.flows i K.zero) earlier) ts c no_tables [] (subst (λ n. c < n) (sym T.count) q))
            ∙ ap value_of (get_or-map (λ i. get_or (tables_at ts c).flows i K.zero) earlier e 0 K.zero r)

        module _ (c : ℕ) (q : c < length states) where
          now : Graph Number
          now = after number_field (first_graph c) earlier

          holds : HoldFlows K IsStored X m (first_graph c) (left_after whole earlier) (after number_field (first_graph c) earlier) (tables_at ts c)
          holds = T.flows c q

          flow_is : (e : ℕ) → e < length earlier → value_at K (recorded K ts earlier j).flows c e ≡ holds.y (at_place earlier e)
          flow_is e r = flow_at c e q r ∙ holds.through.value (at_place earlier e)

          brought_is : (k : ℕ) → brought (first_graph c) earlier
              (value_at K (recorded K ts earlier j).flows c) k ≡ (first_graph c).weight k +ε dot number_field m holds.y (into number_field (first_graph c) k)
          unfolding brought number_field
          brought_is k = ap (λ s. (first_graph c).weight k +ε s) (
              sum_congr number_field (length earlier) _ _ (λ e r. ap (λ v. v *ε (first_graph c).edge (at_place earlier e) k) (flow_is e r))
              ∙ sym (back_dot number_field m earlier whole T.order holds.y (into number_field (first_graph c) k)
              (λ i _ n. holds.flows.elsewhere i (rest_in earlier T.order i n))))

          are_flows : AreFlows (first_graph c) earlier (value_at K (recorded K ts earlier j).flows c)
          unfolding number_field
          are_flows = record {
            nonneg = λ r h. subst (λ x. number_zero ≤ε x) (sym (flow_is r h))
                (holds.flows.flow.nonneg (at_place earlier r) (place_below m earlier whole T.order r h));
            within = λ r h. at_most_trans _ _ _ (at_most_equal _ _ (flow_is r h))
                (at_most_trans _ _ _ (holds.flows.flow.within (at_place earlier r) (place_below m earlier whole T.order r h))
                (at_most_equal _ _ (sym (brought_is (at_place earlier r)))));
          }

          brought_now : brought (first_graph c) earlier (value_at K (recorded K ts earlier j).flows c) j ≡ (after number_field (first_graph c) earlier).weight
              j
          unfolding number_field
          brought_now = brought_is j ∙ sym (holds.flows.weight j J)

        pub good_step : IsGoodStep (by_value K graph states shares) p level earlier (step_values K (recorded K ts earlier j))
        unfolding by_value recorded
        good_step = record {
          below = J.below;
          new = left_not_listed earlier whole j J.member;
          flows = λ c q. subst (λ A. AreFlows A earlier (value_at K (recorded K ts earlier j).flows c)) (sym (graph_is c q)) (are_flows c q);
          passes = subst (λ u. Passes (p j) u level) (sum_congr number_field (length states) _ _ each)
              (legal_passes (by_value K graph states shares) p level (left_after whole earlier) j _ legal (weight_is earlier T.order j J));
        }
          where
            each : (c : ℕ) → c < length states → (by_value K graph states shares).share c *ε limit
                ((after number_field ((by_value K graph states shares).graph c) earlier).weight j) ≡ (by_value K graph states shares).share c *ε limit
                (brought ((by_value K graph states shares).graph c) earlier (value_at K (recorded K ts earlier j).flows c) j)
            each c q = ap (λ x. (by_value K graph states shares).share c *ε limit x) (
                subst (λ A. (after number_field A earlier).weight j ≡ brought A earlier (value_at K (recorded K ts earlier j).flows c) j)
                (sym (graph_is c q)) (sym (brought_now c q)))

    -- ---- the run

    -- what the rest of a run gives
    pub record Gives (p : ℕ → Number) (level : Number) (earlier js : List ℕ) (r : FlowRun) : Type 0 where
      pub lists : listed (map (step_values K) r.steps) ≡ js
      pub good : AreGoodSteps (by_value K graph states shares) p level earlier (map (step_values K) r.steps)
      pub count : length r.tables ≡ length states
      pub fit : FlowsFit (length states) (length earlier) r.steps
      pub stored : All (λ s. (c e : ℕ) → IsStored (part_at K s.flows c e)) r.steps
      pub exits : is_kept ≡ true → (c : ℕ) → c < length states
          → HoldExits K IsStored X m (first_graph c) (left_after (left_after whole earlier) js)
          (after number_field (after number_field (first_graph c) earlier) js) (tables_at r.tables c)

    -- the numbers of a step that is recorded are stored
    recorded_stored : (earlier : List ℕ) (b : Bundled S) (ts : List Tables) → IsAt earlier b ts → (j c e : ℕ)
        → IsStored (part_at K (recorded K ts earlier j).flows c e)
    unfolding recorded
    recorded_stored earlier b ts T j = picked_stored K IsStored X (λ t. t.flows) ts earlier
        (λ c r q. (T.flows c (subst (λ n. c < n) T.count q)).through.stored r)

    module _ (earlier : List ℕ) (b : Bundled S) (ts us : List Tables) (T : IsAt earlier b ts) (j : ℕ) (i : IsIn m (left_after whole earlier) j)
        (is_last : Bool) (h : all_tables K (map graph b.states) ts earlier j is_last is_kept ≡ Ok us) where
      us_count : length us ≡ length states
      unfolding all_tables
      us_count = each_length (length ts) _ us h ∙ T.count

      tables_step : (c : ℕ) → c < length states → StepsTo K IsStored X m (graph_at (map graph b.states) c) (tables_at ts c) (tables_at us c) earlier j
          is_last is_kept
      unfolding all_tables
      tables_step c q =
          steps_to K IsStored X m (graph_at (map graph b.states) c) (tables_at ts c) (tables_at us c) earlier j is_last is_kept
          (in_component_ok c _ _ (each_get (length ts) _ us h no_tables c (subst (λ n. c < n) (sym T.count) q)))

      exits_then : is_kept ≡ true → (c : ℕ) → c < length states
          → HoldExits K IsStored X m (first_graph c) (dropping j (left_after whole earlier))
          (without number_field (after number_field (first_graph c) earlier) j) (tables_at us c)
      exits_then k c q =
          exits_go_on K IsStored X m (graph_at (map graph b.states) c) (tables_at ts c) (tables_at us c) earlier j (first_graph c) (left_after whole earlier)
          (after number_field (first_graph c) earlier) (shows earlier b ts T c q) (valid_now earlier b ts T c q) i (below earlier T.order)
          (gone earlier T.order) (rest_in earlier T.order) is_last
          (subst (λ w. StepsTo K IsStored X m (graph_at (map graph b.states) c) (tables_at ts c) (tables_at us c) earlier j is_last w) k (tables_step c q))
          (T.exits k c q)

    module _ (earlier : List ℕ) (b e : Bundled S) (ts us : List Tables) (T : IsAt earlier b ts) (j : ℕ) (i : IsIn m (left_after whole earlier) j)
        (h : all_tables K (map graph b.states) ts earlier j false is_kept ≡ Ok us) (g : removed K graph removal b j ≡ Ok e) where
      left_is : left_after whole (earlier ++ j ∷ []) ≡ dropping j (left_after whole earlier)
      left_is = left_append earlier (j ∷ []) whole

      after_is : (c : ℕ) → after number_field (first_graph c) (earlier ++ j ∷ []) ≡ without number_field (after number_field (first_graph c) earlier) j
      after_is c = after_append number_field earlier (j ∷ []) (first_graph c)

      reached_next : opened_after K graph removal states shares (earlier ++ j ∷ []) ≡ Ok e
      unfolding opened_after
      reached_next =
          let a = bind_ok (opened K graph states shares) _ b T.reached in
          ap (λ r. r >>= (λ v. removed_in_turn (removed K graph removal) v (earlier ++ j ∷ []))) a.1.0
          ∙ turn_next (removed K graph removal) earlier j a.0 b e a.1.1 g

      pub goes_on : IsAt (earlier ++ j ∷ []) e us
      goes_on = record {
        order = order_more m earlier j whole T.order i;
        reached = reached_next;
        count = us_count earlier b ts us T j i false h;
        flows = λ c q. subst (λ I. HoldFlows K IsStored X m (first_graph c) I (after number_field (first_graph c) (earlier ++ j ∷ [])) (tables_at us c))
            (sym left_is) (subst (λ A. HoldFlows K IsStored X m (first_graph c) (dropping j (left_after whole earlier)) A (tables_at us c)) (sym (after_is c))
            (flows_go_on K IsStored X m (graph_at (map graph b.states) c) (tables_at ts c) (tables_at us c) earlier j (first_graph c) (left_after whole earlier)
            (after number_field (first_graph c) earlier) (shows earlier b ts T c q) (valid_now earlier b ts T c q) i (below earlier T.order)
            (gone earlier T.order) (rest_in earlier T.order) is_kept (tables_step earlier b ts us T j i false h c q) (T.flows c q)));
        exits = λ k c q. subst (λ I. HoldExits K IsStored X m (first_graph c) I (after number_field (first_graph c) (earlier ++ j ∷ [])) (tables_at us c))
            (sym left_is) (subst (λ A. HoldExits K IsStored X m (first_graph c) (dropping j (left_after whole earlier)) A (tables_at us c)) (sym (after_is c))
            (exits_then earlier b ts us T j i false h k c q));
      }

    module _ (p : ℕ → Number) (level : Number) where
      in_set : (I : ℕ → Bool) (j : ℕ) → IsLegal (by_value K graph states shares) p level I j → IsIn m I j
      unfolding by_value
      in_set I j l = l.member

      run_end : (earlier : List ℕ) (s : RunState S) (r : FlowRun) → flow_run K graph removal is_kept earlier [] s ≡ Ok r
          → r ≡ record { steps = []; tables = s.tables }
      unfolding flow_run
      run_end earlier s r h = ok_same (Ok r) r _ refl (sym h)

      -- a run that continues to a good end, and its first step
      record Goes (earlier : List ℕ) (j : ℕ) (js : List ℕ) (s : RunState S) (r : FlowRun) : Type 0 where
        t : RunState S
        rest : FlowRun
        tables : all_tables K (map graph s.bundle.states) s.tables earlier j (not (has_some js)) is_kept ≡ Ok t.tables
        net : if_wanted (not (not (has_some js))) s.bundle (removed K graph removal s.bundle j) ≡ Ok t.bundle
        on : flow_run K graph removal is_kept (earlier ++ j ∷ []) js t ≡ Ok rest
        is : r ≡ record { steps = recorded K s.tables earlier j ∷ rest.steps; tables = rest.tables }

      run_more : (earlier : List ℕ) (j : ℕ) (js : List ℕ) (s : RunState S) (r : FlowRun)
          → flow_run K graph removal is_kept earlier (j ∷ js) s ≡ Ok r → Goes earlier j js s r
      unfolding flow_run flow_step
      run_more earlier j js s r h =
          let a = bind_ok (flow_step K graph removal is_kept earlier j (not (has_some js)) s) _ r h in
          let b = bind_ok (at_step (length earlier + 1) (all_tables K (map graph s.bundle.states) s.tables earlier j (not (has_some js)) is_kept)) _ a.0
          a.1.0 in
          let c = bind_ok (at_step (length earlier + 1) (if_wanted (not (not (has_some js))) s.bundle (removed K graph removal s.bundle j))) _ a.0 b.1.1 in
          let e : record { bundle = c.0; tables = b.0 } ≡ a.0 = ok_same (Ok a.0) _ a.0 (sym c.1.1) refl in
          let f = bind_ok (flow_run K graph removal is_kept (earlier ++ j ∷ []) js a.0) _ r a.1.1 in
          record {
            t = a.0;
            rest = f.0;
            tables = at_step_ok _ _ b.0 b.1.0 ∙ ap (λ u. Ok u.tables) e;
            net = at_step_ok _ _ c.0 c.1.0 ∙ ap (λ u. Ok u.bundle) e;
            on = f.1.0;
            is = ok_same (Ok r) r _ refl (sym f.1.1);
          }

      pub run_gives : (js earlier : List ℕ) (s : RunState S) (r : FlowRun) → IsAt earlier s.bundle s.tables
          → IsLegalOrder (by_value K graph states shares) p level (left_after whole earlier) js → flow_run K graph removal is_kept earlier js s ≡ Ok r
          → Gives p level earlier js r
      run_gives [] earlier s r T o h = subst (Gives p level earlier []) (sym (run_end earlier s r h))
          (record {
            lists = refl;
            good = tt;
            count = T.count;
            fit = tt;
            stored = All-nil (λ s. (c e : ℕ) → IsStored (part_at K s.flows c e));
            exits = T.exits;
          })
      run_gives (j ∷ []) earlier s r T o h =
          let a = run_more earlier j [] s r h in
          let e = run_end (earlier ++ j ∷ []) a.t a.rest a.on in
          subst (Gives p level earlier (j ∷ [])) (sym (a.is ∙ ap (λ q. record { steps = recorded K s.tables earlier j ∷ q.steps; tables = q.tables }) e))
          (record {
            lists = ap (λ x. x ∷ []) (recorded_for_is K s.tables earlier j);
            good = (good_step earlier s.bundle s.tables T p level j o.0, tt);
            count = us_count earlier s.bundle s.tables a.t.tables T j (in_set _ j o.0) true a.tables;
            fit = (recorded_full K (length states) s.tables earlier j T.count, tt);
            stored = All-cons (λ s. (c e : ℕ) → IsStored (part_at K s.flows c e)) (recorded K s.tables earlier j) []
                (recorded_stored earlier s.bundle s.tables T j) (All-nil (λ s. (c e : ℕ) → IsStored (part_at K s.flows c e)));
            exits = λ k c q. exits_then earlier s.bundle s.tables a.t.tables T j (in_set _ j o.0) true a.tables k c q;
          })
      run_gives (j ∷ k ∷ js) earlier s r T o h =
          let a = run_more earlier j (k ∷ js) s r h in
          let on = goes_on earlier s.bundle a.t.bundle s.tables a.t.tables T j (in_set _ j o.0) a.tables a.net in
          let left = left_append earlier (j ∷ []) whole in
          let G = run_gives (k ∷ js) (earlier ++ j ∷ []) a.t a.rest on
          (subst (λ I. IsLegalOrder (by_value K graph states shares) p level I (k ∷ js)) (sym left) o.1) a.on in
          subst (Gives p level earlier (j ∷ k ∷ js)) (sym a.is) (record {
            lists = ap₂ (λ x xs. x ∷ xs) (recorded_for_is K s.tables earlier j) G.lists;
            good = (
              good_step earlier s.bundle s.tables T p level j o.0,
              subst (λ x. AreGoodSteps (by_value K graph states shares) p level (earlier ++ x ∷ []) (map (step_values K) a.rest.steps))
                  (sym (recorded_for_is K s.tables earlier j)) G.good,
            );
            count = G.count;
            fit = (
              recorded_full K (length states) s.tables earlier j T.count,
              subst (λ n. FlowsFit (length states) n a.rest.steps) (one_longer earlier j) G.fit,
            );
            stored = All-cons (λ s. (c e : ℕ) → IsStored (part_at K s.flows c e)) (recorded K s.tables earlier j) a.rest.steps
                (recorded_stored earlier s.bundle s.tables T j) G.stored;
            exits = λ w c q. subst (λ I. HoldExits K IsStored X m (first_graph c) (left_after I (k ∷ js))
                (after number_field (without number_field (after number_field (first_graph c) earlier) j) (k ∷ js)) (tables_at a.rest.tables c)) left
                (subst (λ A. HoldExits K IsStored X m (first_graph c) (left_after (left_after whole (earlier ++ j ∷ [])) (k ∷ js))
                (after number_field A (k ∷ js)) (tables_at a.rest.tables c)) (after_append number_field earlier (j ∷ []) (first_graph c)) (G.exits w c q));
          })

      -- ---- from the opening on

      tables_first : (c : ℕ) → c < length states → tables_at (replicate (length states) (first_tables K m)) c ≡ first_tables K m
      tables_first c q = get_or-replicate (length states) c (first_tables K m) no_tables q

      opens : (b : Bundled S) → opened K graph states shares ≡ Ok b → IsAt [] b (replicate (length states) (first_tables K m))
      unfolding opened_after
      opens b h = record {
        order = tt;
        reached = ap (λ r. r >>= (λ v. removed_in_turn (removed K graph removal) v [])) h ∙ turn_end (removed K graph removal) b;
        count = length-replicate (length states) (first_tables K m);
        flows = λ c q. subst (HoldFlows K IsStored X m (first_graph c) whole (first_graph c)) (sym (tables_first c q))
            (first_flows K IsStored X m (first_graph c) (valid c q));
        exits = λ _ c q. subst (HoldExits K IsStored X m (first_graph c) whole (first_graph c)) (sym (tables_first c q))
            (first_exits K IsStored X m (first_graph c) (valid c q));
      }

      pub whole_run : (js : List ℕ) (b : Bundled S) (r : FlowRun) → IsLegalOrder (by_value K graph states shares) p level whole js
          → opened K graph states shares ≡ Ok b
          → flow_run K graph removal is_kept [] js (record { bundle = b; tables = replicate (length states) (first_tables K m) }) ≡ Ok r
          → Gives p level [] js r
      whole_run js b r o e h = run_gives js [] _ r (opens b e) o h

      pub order_of : (js : List ℕ) → IsLegalOrder (by_value K graph states shares) p level whole js → IsOrder m whole js
      order_of js o = order_distinct (IsLegal (by_value K graph states shares) p level) m in_set js whole o
