-- The closed test on the graphs of textbook rules, as contracts name it: it rejects exactly what the rule rejects.
use Rattle.std.specs.Prelude.{◌≡◌, ◌<◌, ◌↔◌, ℕ, length}
use Rattle.field_core.specs.Number.{Number}
use Rattle.field_core.specs.Arithmetic.{number_zero, number_one}
use Rattle.field_core.specs.Order.{◌≤ε◌}
use Rattle.field_core.specs.NumberField.{number_field}
use Rattle.field_core.specs.Sums.{sum_below}
use Rattle.field_core.specs.Limit.{limit}
use Rattle.field_core.specs.LimitParts.{IsUnit}
use Rattle.case_model.specs.EntangledGraph.{EntangledGraph, IsValidEntangled}
use Rattle.case_model.specs.ClosedTest.{IsRejected}
use Rattle.case_model.specs.LegalOrder.{IsListed}
use Rattle.case_model.specs.TextbookRules.{by_p_value, IsByPValue, IsHolmNumber, IsFallbackRejected, IsSequenceRejected, IsHolmRejected}
use Rattle.case_model.specs.TextbookGraphs.{IsFallbackGraph, IsSequenceGraph, IsHolmGraph}

-- The list by ascending p-value has exactly the positions below `n`, and is in the order of the p-values, ties by position.
abbrev pub PositionsAreAscending : Type 0
PositionsAreAscending =
    (p : ℕ → Number) (n : ℕ) → ((j : ℕ) → IsListed (by_p_value p n) j ↔ j < n) × (length (by_p_value p n) ≡ n) × IsByPValue p (by_p_value p n)

-- There is exactly one Holm number.
abbrev pub HasOneHolmNumber : Type 0
HasOneHolmNumber =
    (p : ℕ → Number) (level : Number) (n : ℕ) → (r : ℕ) × IsHolmNumber p level n r × ((s : ℕ) → IsHolmNumber p level n s → s ≡ r)

-- On the fallback graph of weights without epsilon, the closed test rejects exactly what the fallback rule rejects, at each level from 0 to 1.
abbrev pub FallbackGraphsDecideAsFallback : Type 0
FallbackGraphsDecideAsFallback =
    (E : EntangledGraph) (w p : ℕ → Number) (level : Number) (j : ℕ) → IsValidEntangled E → IsUnit level
    → IsFallbackGraph w E → ((i : ℕ) → i < E.hypotheses → limit (w i) ≡ w i)
    → IsRejected E p level j ↔ IsFallbackRejected p level E.hypotheses w j

-- On the graph of the fixed sequence, the closed test rejects exactly what this rule rejects, at each level from 0 to 1.
abbrev pub SequenceGraphsDecideAsSequence : Type 0
SequenceGraphsDecideAsSequence =
    (E : EntangledGraph) (p : ℕ → Number) (level : Number) (j : ℕ) → IsValidEntangled E → IsUnit level
    → IsSequenceGraph E → IsRejected E p level j ↔ IsSequenceRejected p level E.hypotheses j

-- On Holm's graph, the closed test rejects exactly what Holm's rule rejects, at each level from 0 to 1.
abbrev pub HolmGraphsDecideAsHolm : Type 0
HolmGraphsDecideAsHolm =
    (E : EntangledGraph) (p : ℕ → Number) (level : Number) (j : ℕ) → IsValidEntangled E → IsUnit level
    → IsHolmGraph E → IsRejected E p level j ↔ IsHolmRejected p level E.hypotheses j

-- Fallback graphs whose weights aren't below 0 and sum to at most 1 are valid.
abbrev pub FallbackGraphsAreValid : Type 0
FallbackGraphsAreValid =
    (E : EntangledGraph) (w : ℕ → Number) → IsFallbackGraph w E → ((i : ℕ) → i < E.hypotheses → number_zero ≤ε w i)
    → sum_below number_field E.hypotheses w ≤ε number_one → IsValidEntangled E

-- The graph of the fixed sequence is valid.
abbrev pub SequenceGraphsAreValid : Type 0
SequenceGraphsAreValid = (E : EntangledGraph) → IsSequenceGraph E → IsValidEntangled E

-- Holm's graph of at least one hypothesis is valid.
abbrev pub HolmGraphsAreValid : Type 0
HolmGraphsAreValid = (E : EntangledGraph) → 0 < E.hypotheses → IsHolmGraph E → IsValidEntangled E
