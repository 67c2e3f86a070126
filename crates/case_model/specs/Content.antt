-- What a case holds, the content that a draft denotes, and the entangled graph, the p-values and the level of a content.
use Rattle.std.specs.Prelude.{◌≡◌, ◌≤◌, ◌==◌, ◌&&◌, true, ℕ, ◌*◌, ◌/◌, ◌%◌, Bool, List, [], Option, Some, None, map, length, get_or}
use Rattle.std.specs.Prelude.{if◌then◌else◌, is_some}
use Rattle.std.specs.Option.{option_map_or}
use Rattle.std.specs.List.{list_any, list_all, find, filter_map, range_with_len}
use Rattle.field_core.specs.Number.{Number}
use Rattle.field_core.specs.Graph.{Graph}
use Rattle.field_core.specs.declared.ratio.Ratio.{Ratio}
use Rattle.field_core.specs.View.{terms}
use Rattle.fraction.specs.Tests.{is_one}
use Rattle.fraction.specs.View.{number_of}
use Rattle.case_model.specs.declared.draft.Draft.{Draft}
use Rattle.case_model.specs.declared.draft_component.DraftComponent.{DraftComponent}
use Rattle.case_model.specs.declared.draft_edge.DraftEdge.{DraftEdge}
use Rattle.case_model.specs.declared.component.Component.{Component}
use Rattle.case_model.specs.declared.draft_stages.DraftStages.{DraftStages}
use Rattle.case_model.specs.declared.draft_stages.Arrival.{Arrival}
use Rattle.case_model.specs.declared.inputs.Stages.{Stages}
use Rattle.case_model.specs.declared.inputs.Inputs.{Inputs}
use Rattle.case_model.specs.declared.inputs.Inputs.TheVariants.{Bare, Single, Staged}
use Rattle.case_model.specs.Sums.{number_at, zero_ratio}
use Rattle.case_model.specs.Entries.{entry_value, entry_at, no_edge, is_whole_entry, is_plain_entry}
use Rattle.case_model.specs.Draft.{has_ends, arrives_among, is_stage, is_p_value}
use Rattle.case_model.specs.EntangledGraph.{EntangledGraph}
use Rattle.case_model.specs.ClosedTest.{IsRejected}

-- the names of the hypotheses, the level, the components and the p-values
pub record Content : Type 0 where
  pub names : List (List ℕ)
  pub alpha : Ratio
  pub components : List Component
  pub inputs : Inputs

-- the content of these parts
abbrev pub content_from : List (List ℕ) → Ratio → List Component → Inputs → Content
content_from names alpha components inputs = record { names = names; alpha = alpha; components = components; inputs = inputs }

-- ---- the content of a draft

-- the entry of the first edge in a list that goes from `i` to `j`, and 0 if none does
unfoldable pub edge_between : List DraftEdge → ℕ → ℕ → List Ratio
edge_between es i j = option_map_or (λ e. e.entry) (find (has_ends i j) es) no_edge

-- the table of the edges between `m` hypotheses, row by row: place `i * m + j` has the edge from `i` to `j`
unfoldable pub table_of : ℕ → List DraftEdge → List (List Ratio)
table_of m es = map (λ k. edge_between es (k / m) (k % m)) (range_with_len 0 (m * m))

-- a component with its edges in a table
abbrev pub tabled : ℕ → DraftComponent → Component
tabled m k = record { share = k.share; weights = k.weights; edges = table_of m k.edges }

-- the p-values that are given
unfoldable pub given : List (Option Ratio) → List Ratio
given ps = filter_map (λ p. p) ps

-- the p-values that are given, or none if no p-value is
abbrev pub inputs_given : List (Option Ratio) → Inputs
inputs_given ps = if list_any is_some ps then Single (given ps) else Bare

-- the stages of a draft, as a case holds them
abbrev pub stages_of : DraftStages → Stages
stages_of s = record { count = s.count; spend = s.spend; arrivals = s.arrivals }

-- the stages, if there are some, and else the p-values that are given
abbrev pub inputs_of : Option DraftStages → List (Option Ratio) → Inputs
inputs_of None ps = inputs_given ps
inputs_of (Some s) ps = Staged (stages_of s)

-- the content of a draft
unfoldable pub content_of : Draft → Content
content_of d = record {
  names = d.names;
  alpha = d.alpha;
  components = map (tabled (length d.names)) d.components;
  inputs = inputs_of d.stages d.p;
}

-- ---- the closed test of a content

-- a component without weights and edges, of share 0
abbrev pub empty_component : Component
empty_component = record { share = zero_ratio; weights = []; edges = [] }

-- the component at a place of a list, and an empty one past its end
abbrev pub component_at : List Component → ℕ → Component
component_at ks c = get_or ks c empty_component

-- the weights of a component and the values of the entries of its table of `m` rows and columns
abbrev pub graph_of : ℕ → Component → Graph Number
graph_of m k = record { weight = number_at k.weights; edge = λ i j. entry_value (entry_at m k.edges i j) }

-- the shares and the graphs of the components
unfoldable pub entangled : Content → EntangledGraph
entangled c = record {
  hypotheses = length c.names;
  components = length c.components;
  share = λ k. number_of (component_at c.components k).share;
  graph = λ k. graph_of (length c.names) (component_at c.components k);
}

-- the single p-values satisfy `P`, if there are some
abbrev pub IfSingle : Inputs → (List Ratio → Type 0) → Type 0
IfSingle (Single ps) P = P ps
IfSingle Bare P = Unit {0}
IfSingle (Staged s) P = Unit {0}

-- whether an arrival is of one of `m` hypotheses, at one of `count` stages, counted from 1, with a p-value from 0 to 1 whose denominator is at most
-- 10^30
abbrev pub is_arrival : ℕ → ℕ → Arrival → Bool
is_arrival m count a = arrives_among m a && is_stage count a.stage && is_p_value a.p

-- the stages of a case of `m` hypotheses
pub record AreStages (m : ℕ) (s : Stages) : Type 0 where
  pub some : 1 ≤ s.count
  pub few : s.count ≤ 12
  pub spends : length s.spend ≡ m
  pub arrivals : list_all (is_arrival m s.count) s.arrivals ≡ true

-- the stages satisfy `P`, if there are some
abbrev pub IfStaged : Inputs → (Stages → Type 0) → Type 0
IfStaged (Staged s) P = P s
IfStaged Bare P = Unit {0}
IfStaged (Single ps) P = Unit {0}

-- there are single p-values, and they satisfy `P`
abbrev pub ForSingle : Inputs → (List Ratio → Type 0) → Type 0
ForSingle (Single ps) P = P ps
ForSingle Bare P = ⊥
ForSingle (Staged s) P = ⊥

-- the closed test at the level of the case rejects the hypothesis at this position
abbrev pub IsRejectedIn : Content → ℕ → Type 0
IsRejectedIn c j = ForSingle c.inputs (λ ps. IsRejected (entangled c) (number_at ps) (number_of c.alpha) j)

-- whether each entry of each table has a coefficient for each power of epsilon from 0 to 4
unfoldable pub has_coefficients : List Component → Bool
has_coefficients ks = list_all (λ k. list_all is_whole_entry k.edges) ks

-- whether there is one component, and its share is 1
unfoldable pub is_alone : List Component → Bool
is_alone ks = length ks == 1 && list_all (λ k. is_one (terms k.share)) ks

-- whether no edge has a coefficient other than 0 above power 0
unfoldable pub is_plain : Content → Bool
is_plain c = list_all (λ k. list_all is_plain_entry k.edges) c.components
