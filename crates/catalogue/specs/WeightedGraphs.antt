-- Graphs by their weights and edges, and their drafts.
use Rattle.std.specs.Prelude.{ℕ, ◌+◌, List, [], ◌∷◌, Option, Some, None, map}
use Rattle.std.specs.Fmt.{decimal}
use Rattle.std.specs.List.{flat_map, range_with_len}
use Rattle.field_core.specs.declared.ratio.Ratio.{Ratio}
use Rattle.case_model.specs.declared.draft.Draft.{Draft}
use Rattle.case_model.specs.declared.draft_component.DraftComponent.{DraftComponent}
use Rattle.case_model.specs.declared.draft_edge.DraftEdge.{DraftEdge}
use Rattle.case_model.specs.Sums.{one_ratio}

-- how many hypotheses there are, the weight of each, and the edge from each to each, if there is one
pub record WeightedGraph : Type 0 where
  pub size : ℕ
  pub weight : ℕ → Ratio
  pub edge : ℕ → ℕ → Option (List Ratio)

-- `H` and the number of the hypothesis, from 1
abbrev pub name_of : ℕ → List ℕ
name_of i = 72 ∷ decimal (i + 1)

-- the names of a number of hypotheses
abbrev pub names_of : ℕ → List (List ℕ)
names_of n = map name_of (range_with_len 0 n)

-- an edge of a draft, if there is one
abbrev pub edge_with : ℕ → ℕ → Option (List Ratio) → List DraftEdge
edge_with i j None = []
edge_with i j (Some e) = record { from = i; to = j; entry = e } ∷ []

abbrev pub edge_in : WeightedGraph → ℕ → ℕ → List DraftEdge
edge_in G i j = edge_with i j (G.edge i j)

-- the edges from a hypothesis, by ascending end
unfoldable pub edges_from : WeightedGraph → ℕ → List DraftEdge
edges_from G i = flat_map (edge_in G i) (range_with_len 0 G.size)

-- the edges, row by row
unfoldable pub edges_of : WeightedGraph → List DraftEdge
edges_of G = flat_map (edges_from G) (range_with_len 0 G.size)

-- the only component, of share 1
abbrev pub component_of : WeightedGraph → DraftComponent
component_of G = record { share = one_ratio; weights = map G.weight (range_with_len 0 G.size); edges = edges_of G }

-- the draft of a graph over the hypotheses H1, H2 and so on, at a level, with these p-values
unfoldable pub draft_of : WeightedGraph → Ratio → List Ratio → Draft
draft_of G alpha ps = record {
  names = names_of G.size;
  alpha = alpha;
  p = map Some ps;
  components = component_of G ∷ [];
  stages = None;
}
