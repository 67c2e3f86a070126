-- What is printed of a case after removals: the weights and edges of each component, and the weights over all components.
use Rattle.std.specs.Prelude.{ℕ, ◌+◌, ◌&&◌, not, Bool, List, [], ◌∷◌, ◌++◌, map, length, get_or, codes, if◌then◌else◌}
use Rattle.std.specs.Fmt.{decimal}
use Rattle.std.specs.List.{flat_map, range_with_len}
use Rattle.text_lines.specs.Spelling.{line_spelt, text_of}
use Rattle.field_core.specs.Kind.{Parts, Kind, is_zero}
use Rattle.field_core.specs.Terms.{Terms}
use Rattle.fraction.specs.Spelling.{spelling}
use Rattle.case_numbers.specs.Numbers.{kind_of}
use Rattle.removal.specs.StoredGraph.{StoredGraph, is_live, weight, edge, no_graph}
use Rattle.entangled.specs.States.{graph_in}
use Rattle.entangled.specs.CaseRun.{CaseState, state_of, is_live_in_case, case_level}
use Rattle.evidence_check.specs.NumberTexts.{number_text}

-- the words of a line
abbrev pub Words : Type 0
Words = List (List ℕ)

-- a line of these words, with its line feed
abbrev pub line_text : Words → List ℕ
line_text words = line_spelt words ++ 10 ∷ []

-- the name of the hypothesis at a position
abbrev pub name_at : List (List ℕ) → ℕ → List ℕ
name_at names k = get_or names k []

-- the line of a component, by its number from 1 on
abbrev pub component_words : ℕ → Words
component_words n = codes "component" ∷ decimal n ∷ []

-- the lines of a weight, of an edge and of a level, each with its number
abbrev pub weight_words : List (List ℕ) → ℕ → List ℕ → Words
weight_words names k number = codes "weight" ∷ name_at names k ∷ number ∷ []

abbrev pub edge_words : List (List ℕ) → ℕ → ℕ → List ℕ → Words
edge_words names l k number = codes "edge" ∷ name_at names l ∷ name_at names k ∷ number ∷ []

abbrev pub level_words : List (List ℕ) → ℕ → List ℕ → Words
level_words names k number = codes "level" ∷ name_at names k ∷ number ∷ []

-- the last line
abbrev pub end_words : Words
end_words = codes "end" ∷ []

-- (`names` are those of the hypotheses, and `text` is that of a stored number)
module _ (names : List (List ℕ)) (K : Kind) (text : Parts → List ℕ) where
  module _ (G : StoredGraph) where
    -- the line of the edge from `l` to `k`, if `k` remains and the edge isn't 0
    unfoldable pub edge_lines : ℕ → ℕ → List Words
    edge_lines l k = if is_live G k && not (is_zero (edge K G l k)) then edge_words names l k (text (edge K G l k)) ∷ [] else []

    -- the lines of `l`, if it remains: its weight, and its edges by ascending position
    unfoldable pub hypothesis_lines : ℕ → List Words
    hypothesis_lines l =
        if is_live G l
        then weight_words names l (text (weight K G l)) ∷ flat_map (edge_lines l) (range_with_len 0 (length names))
        else []

    -- the lines of the graph, hypothesis by hypothesis
    unfoldable pub graph_lines : List Words
    graph_lines = flat_map hypothesis_lines (range_with_len 0 (length names))

  -- the lines of the graph at a place, as a component
  unfoldable pub component_lines : List StoredGraph → ℕ → List Words
  component_lines Gs c = component_words (c + 1) ∷ graph_lines (get_or Gs c no_graph)

  -- the lines of all graphs, in their order
  unfoldable pub graphs_lines : List StoredGraph → List Words
  graphs_lines Gs = flat_map (component_lines Gs) (range_with_len 0 (length Gs))

module _ (names : List (List ℕ)) where
  -- the lines of the components of a case: its numbers are fractions or quotients, printed as evidence prints them
  unfoldable pub components_lines : CaseState → List Words
  components_lines (state_of n b) = graphs_lines names (kind_of n) (number_text n) (map (graph_in n) b.states)

  -- the line of the level of `k`, if it is a member of a set
  unfoldable pub level_lines : (ℕ → Bool) → (ℕ → Terms) → ℕ → List Words
  level_lines I level k = if I k then level_words names k (spelling (level k)) ∷ [] else []

  -- the lines of the levels of the members of a set, by ascending position
  unfoldable pub levels_lines : (ℕ → Bool) → (ℕ → Terms) → List Words
  levels_lines I level = flat_map (level_lines I level) (range_with_len 0 (length names))

  -- the lines of a case: its components, the levels of the hypotheses that remain, and the end
  unfoldable pub update_lines : CaseState → List Words
  update_lines s = components_lines s ++ levels_lines (is_live_in_case s) (case_level s) ++ end_words ∷ []

  -- what is printed of a case
  unfoldable pub update_text : CaseState → List ℕ
  update_text s = text_of (update_lines s)
