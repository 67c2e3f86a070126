-- The loading of a case: the state of a net for each component, in the numbers that the case is run in (this project's own).
use Rattle.std.specs.Prelude.{ℕ, ◌*◌, ◌/◌, ◌%◌, List, map, length, get_or, Result, Ok}
use Rattle.field_core.specs.Kind.{Parts}
use Rattle.field_core.specs.Steps.{◌>>=◌, placed, in_component, each_below}
use Rattle.field_core.specs.declared.place.Place.TheVariants.{Edge}
use Rattle.field_core.specs.declared.place.Wide.{Wide}
use Rattle.field_core.specs.declared.place.WideAt.{WideAt}
use Rattle.field_core.specs.declared.ratio.Ratio.{Ratio}
use Rattle.case_model.specs.declared.component.Component.{Component}
use Rattle.case_model.specs.Entries.{no_edge}
use Rattle.case_model.specs.Content.{component_at}
use Rattle.case_numbers.specs.Numbers.{Numbers, loaded_weight, loaded_edge}
use Rattle.removal.specs.StoredGraph.{StoredGraph, all_live}
use Rattle.entangled.specs.States.{state_in, gathered_in}

module _ (n : Numbers) (m : ℕ) where
  -- the edge at place `i` of a table of `m` rows and columns
  unfoldable pub edge_at : List (List Ratio) → ℕ → Result Parts Wide
  edge_at table i = placed (Edge (i / m) (i % m)) (loaded_edge n (get_or table i no_edge))

  -- the edges of a table, row by row, or the first that is undefined
  unfoldable pub loaded_edges : List (List Ratio) → Result (List Parts) Wide
  loaded_edges table = each_below (m * m) (edge_at table)

  -- the graph of a component of `m` hypotheses, all of which remain, with its weights and its edges
  unfoldable pub loaded_graph : Component → Result StoredGraph Wide
  loaded_graph k = do
    edges ← loaded_edges k.edges
    Ok (all_live (map (loaded_weight n) k.weights) edges)

  -- the state of the net of a component
  unfoldable pub loaded_state : Component → Result (state_in n) Wide
  loaded_state k = do
    graph ← loaded_graph k
    gathered_in n graph

  -- the state of the net of component `c`
  unfoldable pub state_at : List Component → ℕ → Result (state_in n) WideAt
  state_at components c = in_component c (loaded_state (component_at components c))

  -- the states of all components, one after another, or the first operation that is undefined, with its component
  unfoldable pub loaded_states : List Component → Result (List (state_in n)) WideAt
  loaded_states components = each_below (length components) (state_at components)
