-- The graphs that have names. Hypotheses are named by their positions, from 0.
use Rattle.std.specs.Prelude.{ℕ, suc, ◌+◌, ◌-◌, ◌%◌, ◌==◌, List, [], ◌∷◌, Option, Some, None, length, replicate, pos, negsuc, nat_lt}
use Rattle.std.specs.Prelude.{if◌then◌else◌}
use Rattle.field_core.specs.declared.ratio.Ratio.{Ratio}
use Rattle.case_model.specs.Sums.{zero_ratio, ratio_at, one_ratio}
use Rattle.catalogue.specs.Quotients.{quotient}
use Rattle.catalogue.specs.WeightedGraphs.{WeightedGraph}

-- a + b * epsilon, as the weight of an edge
abbrev pub linear : Ratio → Ratio → List Ratio
linear a b = a ∷ b ∷ zero_ratio ∷ zero_ratio ∷ zero_ratio ∷ []

-- a fraction, as the weight of an edge
abbrev pub constant : Ratio → List Ratio
constant a = linear a zero_ratio

-- 1/n
abbrev pub part : ℕ → Ratio
part n = quotient (pos 1) n

-- Holm's graph: equal weights, and each hypothesis passes its weight to the others in equal parts
unfoldable pub holm_graph : ℕ → WeightedGraph
holm_graph n = record {
  size = n;
  weight = λ i. part n;
  edge = λ i j. if i == j then None else Some (constant (part (n - 1)));
}

-- an edge of weight 1 from each hypothesis to the next one
abbrev pub next_edge : ℕ → ℕ → Option (List Ratio)
next_edge i j = if j == suc i then Some (constant one_ratio) else None

-- the fixed sequence: all weight for the first hypothesis
unfoldable pub sequence_graph : ℕ → WeightedGraph
sequence_graph n = record { size = n; weight = λ i. if i == 0 then one_ratio else zero_ratio; edge = next_edge }

-- fallback, with these weights
unfoldable pub fallback_graph : List Ratio → WeightedGraph
fallback_graph ws = record { size = length ws; weight = ratio_at ws; edge = next_edge }

-- the weight 1/n for each of `n` hypotheses
unfoldable pub equal_weights : ℕ → List Ratio
equal_weights n = replicate n (part n)

-- Gatekeeping: `a` primary hypotheses share the weight, and each passes it to the `b` secondary ones in equal parts. A secondary one passes `back`
-- to a primary one, and `on` to another secondary one.
abbrev pub gate_edge : ℕ → ℕ → (ℕ → ℕ → Option (List Ratio)) → List Ratio → ℕ → ℕ → Option (List Ratio)
gate_edge a b back on i j =
    if nat_lt i a then (if nat_lt j a then None else Some (constant (part b)))
    else (if nat_lt j a then back i j else (if i == j then None else Some on))

abbrev pub gate_graph : ℕ → ℕ → (ℕ → ℕ → Option (List Ratio)) → List Ratio → WeightedGraph
gate_graph a b back on = record {
  size = a + b;
  weight = λ i. if nat_lt i a then part a else zero_ratio;
  edge = gate_edge a b back on;
}

-- parallel gatekeeping: secondary hypotheses pass their weight to each other, in equal parts
unfoldable pub parallel_graph : ℕ → ℕ → WeightedGraph
parallel_graph a b = gate_graph a b (λ i j. None) (constant (part (b - 1)))

-- a secondary hypothesis passes epsilon to one primary one, by turns
abbrev pub back_edge : ℕ → ℕ → ℕ → Option (List Ratio)
back_edge a i j = if j == (i - a) % a then Some (linear zero_ratio one_ratio) else None

-- improved parallel gatekeeping: a secondary hypothesis passes epsilon back to a primary one, and 1 - epsilon to the other secondary ones
unfoldable pub improved_graph : ℕ → ℕ → WeightedGraph
improved_graph a b = gate_graph a b (back_edge a) (linear (part (b - 1)) (quotient (negsuc 0) (b - 1)))
