-- What the texts of graphs after removals say, as laws.
use Rattle.std.specs.Prelude.{◌≡◌, ◌≢◌, ◌<◌, ℕ, Bool, List, ◌∷◌, [], ◌++◌, map, length, get_or, Ok}
use Rattle.field_core.specs.Exact.{value_of}
use Rattle.field_core.specs.Number.{Number}
use Rattle.field_core.specs.Runs.{left_after}
use Rattle.field_core.specs.Sets.{IsIn, HaveSameMembers, whole}
use Rattle.field_core.specs.Terms.{Terms, IsReduced}
use Rattle.text_lines.specs.Spelling.{text_of}
use Rattle.case_model.specs.Content.{Content, entangled}
use Rattle.case_model.specs.IntersectionWeight.{IsIntersectionWeight}
use Rattle.case_model.specs.Sums.{number}
use Rattle.case_model.specs.Validity.{IsValidContent}
use Rattle.case_numbers.specs.Numbers.{kind_of}
use Rattle.removal.specs.StoredGraph.{edge, no_graph}
use Rattle.entangled.specs.States.{graph_in}
use Rattle.entangled.specs.CaseRun.{CaseState, state_of}
use Rattle.entangled.specs.CaseAfter.{case_after}
use Rattle.graph_update.specs.UpdateText.{Words, levels_lines, end_words}
use Rattle.graph_update.specs.Updates.{ArePositions, IsUpdate}

-- The text ends with a line for each member of a set, by ascending position. It has the weight in the intersection of the set, in lowest terms.
pub record SaysWeights (c : Content) (I : ℕ → Bool) (text : List ℕ) : Type 0 where
  pub components : List Words
  pub level : ℕ → Terms
  pub text_is : text ≡ text_of (components ++ levels_lines c.names I level ++ end_words ∷ [])
  pub lowest : (k : ℕ) → IsIn (length c.names) I k → IsReduced (level k)
  pub weights : (k : ℕ) → IsIn (length c.names) I k → IsIntersectionWeight (entangled c) I k (number (level k))

-- Two texts end with the same levels.
pub record HaveSameLevels (c : Content) (text other : List ℕ) : Type 0 where
  pub components : List Words
  pub others : List Words
  pub set : ℕ → Bool
  pub level : ℕ → Terms
  pub text_is : text ≡ text_of (components ++ levels_lines c.names set level ++ end_words ∷ [])
  pub other_is : other ≡ text_of (others ++ levels_lines c.names set level ++ end_words ∷ [])

-- The text of the graph after removals says the weights of the hypotheses that aren't removed.
abbrev pub UpdatesSayWeights : Type 0
UpdatesSayWeights = (c : Content) (js text : List ℕ) → IsValidContent c → IsUpdate c js text → SaysWeights c (left_after whole js) text

-- The levels in the text are the same whatever the order of the removals.
abbrev pub LevelsAgreeInEveryOrder : Type 0
LevelsAgreeInEveryOrder = (c : Content) (js ks text other : List ℕ) → IsValidContent c → IsUpdate c js text → IsUpdate c ks other
    → HaveSameMembers (length c.names) (left_after whole js) (left_after whole ks) → HaveSameLevels c text other

-- the edge from `l` to `k` in a component, by value
unfoldable pub edge_value : CaseState → ℕ → ℕ → ℕ → Number
edge_value (state_of n b) i l k = value_of (edge (kind_of n) (get_or (map (graph_in n) b.states) i no_graph) l k)

-- The edges between hypotheses that aren't removed are the same by value whatever the order of the removals.
abbrev pub EdgesAgreeInEveryOrder : Type 0
EdgesAgreeInEveryOrder = (c : Content) (js ks : List ℕ) (s t : CaseState) (i l k : ℕ) → IsValidContent c → ArePositions c js → ArePositions c ks
    → HaveSameMembers (length c.names) (left_after whole js) (left_after whole ks) → case_after c js ≡ Ok s → case_after c ks ≡ Ok t
    → i < length c.components → IsIn (length c.names) (left_after whole js) l → IsIn (length c.names) (left_after whole js) k → l ≢ k
    → edge_value s i l k ≡ edge_value t i l k
