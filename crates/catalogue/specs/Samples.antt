-- Samples: the graph and the p-values that are made from a seed.
use Rattle.std.specs.Prelude.{ℕ, zero, suc, ◌+◌, ◌-◌, ◌*◌, ◌/◌, ◌%◌, ◌^◌, ◌==◌, ◌||◌, List, Option, Some, None, pos, map}
use Rattle.std.specs.Prelude.{slice_get, if◌then◌else◌}
use Rattle.std.specs.List.{range_with_len}
use Rattle.field_core.specs.declared.ratio.Ratio.{Ratio}
use Rattle.catalogue.specs.Quotients.{quotient}
use Rattle.catalogue.specs.WeightedGraphs.{WeightedGraph}
use Rattle.catalogue.specs.NamedGraphs.{constant, part}

-- ---- the generator

-- the generator's number after one more draw
unfoldable pub next_number : ℕ → ℕ
next_number x = (x * 25214903917 + 11) % 2 ^ 48

-- what a draw gives, by the number after it
unfoldable pub drawn_from : ℕ → ℕ
drawn_from x = x / 2 ^ 20

-- the number after this number of draws
unfoldable pub number_after : ℕ → ℕ → ℕ
number_after seed zero = seed
number_after seed (suc k) = next_number (number_after seed k)

-- draw `k`, counted from 0
abbrev pub draw : ℕ → ℕ → ℕ
draw seed k = drawn_from (number_after seed (suc k))

-- ---- the sample

-- the p-value of a hypothesis: one draw for each, in order
abbrev pub p_value_of : ℕ → ℕ → Ratio
p_value_of seed i = quotient (pos (draw seed i % 1000000)) (10 ^ 8)

unfoldable pub sample_p_values : ℕ → ℕ → List Ratio
sample_p_values n seed = map (p_value_of seed) (range_with_len 0 n)

-- the later hypothesis, of `n`, that a draw names for the hypothesis `i`
abbrev pub named_by : ℕ → ℕ → ℕ → ℕ
named_by n i d = i + 1 + d % (n - 1 - i)

-- the ends of the edges from `i`: two draws for each hypothesis but the last, after those of the p-values
abbrev pub ends_of : ℕ → ℕ → ℕ → ℕ × ℕ
ends_of n seed i = (named_by n i (draw seed (n + 2 * i)), named_by n i (draw seed (n + 2 * i + 1)))

unfoldable pub sample_ends : ℕ → ℕ → List (ℕ × ℕ)
sample_ends n seed = map (ends_of n seed) (range_with_len 0 (n - 1))

-- an edge of 1/2 to each end; one edge if both are the same
abbrev pub half_to : Option (ℕ × ℕ) → ℕ → Option (List Ratio)
half_to None j = None
half_to (Some ends) j = if ends.0 == j || ends.1 == j then Some (constant (part 2)) else None

-- equal weights, and edges of 1/2 to these ends
unfoldable pub half_graph : ℕ → List (ℕ × ℕ) → WeightedGraph
half_graph n ends = record { size = n; weight = λ i. part n; edge = λ i j. half_to (slice_get ends i) j }

-- the graph of a sample
abbrev pub sample_graph : ℕ → ℕ → WeightedGraph
sample_graph n seed = half_graph n (sample_ends n seed)
