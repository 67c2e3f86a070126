-- The graphs of textbook rules (Bretz, Maurer, Brannath and Posch 2009).
use Rattle.std.specs.Prelude.{◌≡◌, ◌<◌, ◌==◌, ℕ, zero, suc, if◌then◌else◌, pos, ◌-ℤ◌}
use Rattle.field_core.specs.Number.{Number}
use Rattle.field_core.specs.Arithmetic.{number_zero, number_one}
use Rattle.field_core.specs.Fractions.{fraction, one_over}
use Rattle.field_core.specs.Graph.{Graph}
use Rattle.case_model.specs.EntangledGraph.{EntangledGraph}

-- `G` is the only component of `E`, with share 1; only its weights and edges at positions below the number of hypotheses count
pub record IsAlone (G : Graph Number) (E : EntangledGraph) : Type 0 where
  pub one : E.components ≡ 1
  pub share : E.share 0 ≡ number_one
  pub weight : (i : ℕ) → i < E.hypotheses → (E.graph 0).weight i ≡ G.weight i
  pub edge : (i k : ℕ) → i < E.hypotheses → k < E.hypotheses → (E.graph 0).edge i k ≡ G.edge i k

-- each hypothesis passes all its weight to the next one
abbrev pub chain_graph : (ℕ → Number) → Graph Number
chain_graph w = record { weight = w; edge = λ i k. if k == suc i then number_one else number_zero }

-- the weight 1 for the first hypothesis, and 0 for the others
abbrev pub first_alone : ℕ → Number
first_alone zero = number_one
first_alone (suc i) = number_zero

-- `n` hypotheses of equal weight, each of which passes its weight to the others in equal parts
abbrev pub equal_graph : ℕ → Graph Number
equal_graph n = record {
  weight = λ _. one_over n;
  edge = λ i k. if i == k then number_zero else fraction (pos 1) (pos n -ℤ pos 1);
}

-- the fallback graph with the weights `w`
abbrev pub IsFallbackGraph : (ℕ → Number) → EntangledGraph → Type 0
IsFallbackGraph w = IsAlone (chain_graph w)

-- the graph of the fixed sequence
abbrev pub IsSequenceGraph : EntangledGraph → Type 0
IsSequenceGraph = IsAlone (chain_graph first_alone)

-- Holm's graph
abbrev pub IsHolmGraph : EntangledGraph → Type 0
IsHolmGraph E = IsAlone (equal_graph E.hypotheses) E
