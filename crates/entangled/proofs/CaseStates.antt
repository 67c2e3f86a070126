-- The states of the nets of a case at its opening.
use Rattle.std.proofs.Common.{◌≡◌, sym, subst, ◌∙◌, ℕ, ◌<◌, List, [], length, get_or, Ok}
use Rattle.field_core.specs.Laws.Prefixes.{bind_ok, each_get, each_length}
use Rattle.fraction.specs.Plain.{plain, IsFraction}
use Rattle.fraction.specs.Laws.PlainLaws.{plain_is_exact}
use Rattle.field_core.proofs.SameBelow.{SameBelow}
use Rattle.case_model.specs.declared.component.Component.{Component}
use Rattle.case_model.specs.Content.{Content, component_at, graph_of as graph_of_component}
use Rattle.case_model.specs.Validity.{IsValidContent}
use Rattle.case_numbers.specs.Numbers.{Numbers, in_fractions, in_quotients, CanRunIn, kind_of, IsStoredIn}
use Rattle.case_numbers.proofs.Components.{IsComponent, is_component, CanLoadEach, can_load}
use Rattle.removal.specs.StoredGraph.{StoredGraph}
use Rattle.removal.specs.Exactness.{RemovesExactly}
use Rattle.removal.specs.Laws.Exact.{removal_is_exact}
use Rattle.row_removal.specs.StoredRows.{StoredRows, zero_rows}
use Rattle.row_removal.specs.Gathering.{HasConstants}
use Rattle.row_removal.specs.Laws.GatheringLaws.{AreGathered, are_gathered}
use Rattle.row_removal.specs.Laws.OpenedRows.{graph_size, live_same, opened_value, opened_sound}
use Rattle.row_removal.specs.Laws.RowGraphs.{rows_stored}
use Rattle.row_removal.specs.Laws.RowsExact.{rows_remove_exactly}
use Rattle.entangled.specs.States.{state_in, graph_in, IsProperIn, removal_in, gathered_in, CanGather}
use Rattle.entangled.specs.Loading.{loaded_graph, loaded_state, loaded_states, state_at}
use Rattle.entangled.proofs.CaseGraphs.{IsGraphOf, graph_loaded, graph_gathers}
use Rattle.entangled.proofs.Steps.{in_component_ok}

-- no hypothesis
pub no_state : (n : Numbers) → state_in n
no_state in_fractions = record { live = []; weights = []; edges = [] }
no_state in_quotients = zero_rows 0

-- the state of a net of a component
pub record IsStateOf (n : Numbers) (m : ℕ) (k : Component) (s : state_in n) : Type 0 where
  pub graph : IsGraphOf n m k (graph_in n s)
  pub proper : IsProperIn n s

rows_are : (m : ℕ) (k : Component) (G : StoredGraph) (s : StoredRows) → (I : IsGraphOf in_quotients m k G) → (C : HasConstants G)
    → AreGathered G I.stored C s → IsStateOf in_quotients m k s
rows_are m k G s I C A = record {
  graph = record {
    size = graph_size G I.stored C s A ∙ I.size;
    live = λ i p. live_same G I.stored C s A i ∙ I.live i (rw (← graph_size G I.stored C s A) p);
    same = subst (λ B. SameBelow m B (graph_of_component m k)) (sym (opened_value G I.stored C s A)) I.same;
    sound = opened_sound G I.stored C s A I.sound;
    stored = rows_stored s A.proper;
  };
  proper = A.proper;
}

gathered_is : (n : Numbers) (m : ℕ) (k : Component) (G : StoredGraph) (s : state_in n) → IsGraphOf n m k G → CanGather n G → gathered_in n G ≡ Ok s
    → IsStateOf n m k s
gathered_is in_fractions m k G s I C h = subst (IsStateOf in_fractions m k) (cc) (record { graph = I; proper = I.stored })
gathered_is in_quotients m k G s I C h = rows_are m k G s I C (are_gathered G I.stored C s h)

state_is : (n : Numbers) (m : ℕ) (k : Component) (s : state_in n) → IsComponent m k → CanLoadEach n k → loaded_state n m k ≡ Ok s
    → IsStateOf n m k s
unfolding loaded_state
state_is n m k s C P h =
    let G = bind_ok (loaded_graph n m k) _ s h in
    gathered_is n m k G.0 s (graph_loaded n m k G.0 C P G.1.0) (graph_gathers n m k G.0 C P G.1.0) G.1.1

-- removals from the nets are exact
pub removal_exact : (n : Numbers) → RemovesExactly (kind_of n) (IsStoredIn n) (graph_in n) (IsProperIn n) (removal_in n)
removal_exact in_fractions = removal_is_exact plain IsFraction plain_is_exact
removal_exact in_quotients = rows_remove_exactly

-- a state for each component of a case
pub record AreStatesOf (n : Numbers) (c : Content) (states : List (state_in n)) : Type 0 where
  pub as_many : length states ≡ length c.components
  pub each : (i : ℕ) → i < length c.components → IsStateOf n (length c.names) (component_at c.components i) (get_or states i (no_state n))

pub states_are : (n : Numbers) (c : Content) → IsValidContent c → CanRunIn n c → (states : List (state_in n))
    → loaded_states n (length c.names) c.components ≡ Ok states → AreStatesOf n c states
unfolding loaded_states state_at
states_are n c V P states h = record {
  as_many = each_length (length c.components) (state_at n (length c.names) c.components) states h;
  each = λ i p. state_is n (length c.names) (component_at c.components i) _ (is_component c V i p) (can_load n c P i p)
      (in_component_ok i _ _ (each_get (length c.components) (state_at n (length c.names) c.components) states h (no_state n) i p));
}
