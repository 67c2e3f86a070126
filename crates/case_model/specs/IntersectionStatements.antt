-- The laws of intersection weights, as contracts name them.
use Rattle.std.specs.Prelude.{◌≡◌, ◌<◌, ℕ, Bool, false, List}
use Rattle.field_core.specs.Number.{Number}
use Rattle.field_core.specs.Arithmetic.{number_zero, number_one, ◌*ε◌}
use Rattle.field_core.specs.Order.{◌≤ε◌}
use Rattle.field_core.specs.NumberField.{number_field}
use Rattle.field_core.specs.Limit.{limit}
use Rattle.field_core.specs.LimitParts.{IsUnit}
use Rattle.field_core.specs.Sums.{sum_below}
use Rattle.field_core.specs.Sets.{IsIn, IsSubset, HaveSameMembers, whole}
use Rattle.field_core.specs.Runs.{IsOrder, left_after, after}
use Rattle.case_model.specs.EntangledGraph.{EntangledGraph, IsValidEntangled}
use Rattle.case_model.specs.IntersectionWeight.{IsIntersectionWeight}

-- Each member of each set has an intersection weight.
abbrev pub IntersectionWeightsExist : Type 0
IntersectionWeightsExist = (E : EntangledGraph) (I : ℕ → Bool) (k : ℕ) → IsValidEntangled E → IsIn E.hypotheses I k → (u : Number)
    × IsIntersectionWeight E I k u

-- A hypothesis has one weight at most in each set.
abbrev pub IntersectionWeightsAreUnique : Type 0
IntersectionWeightsAreUnique = (E : EntangledGraph) (I : ℕ → Bool) (k : ℕ) (u v : Number) → IsIntersectionWeight E I k u
    → IsIntersectionWeight E I k v → u ≡ v

-- Intersection weights are from 0 to 1.
abbrev pub IntersectionWeightsAreUnit : Type 0
IntersectionWeightsAreUnit = (E : EntangledGraph) (I : ℕ → Bool) (k : ℕ) (u : Number) → IsValidEntangled E → IsIn E.hypotheses I k
    → IsIntersectionWeight E I k u → IsUnit u

-- The intersection weights of the members of a set sum to at most 1.
abbrev pub IntersectionWeightsSumToOne : Type 0
IntersectionWeightsSumToOne =
    (E : EntangledGraph) (I : ℕ → Bool) (w : ℕ → Number) → IsValidEntangled E
    → ((k : ℕ) → IsIn E.hypotheses I k → IsIntersectionWeight E I k (w k))
    → ((k : ℕ) → k < E.hypotheses → I k ≡ false → w k ≡ number_zero)
    → sum_below number_field E.hypotheses w ≤ε number_one

-- The weight that removals of a list leave to `k`: the sum, over the components, of the share times the limit of the weight that they leave there.
abbrev pub weight_left : EntangledGraph → List ℕ → ℕ → Number
weight_left E js k = sum_below number_field E.components (λ c. E.share c *ε limit ((after number_field (E.graph c) js).weight k))

-- The intersection weight is what is left to a hypothesis once all hypotheses outside the set are removed from each component, in any order.
abbrev pub IntersectionWeightsAreLeftByRemovals : Type 0
IntersectionWeightsAreLeftByRemovals =
    (E : EntangledGraph) (I : ℕ → Bool) (js : List ℕ) (k : ℕ) → IsValidEntangled E
    → IsOrder E.hypotheses whole js → HaveSameMembers E.hypotheses (left_after whole js) I → IsIn E.hypotheses I k
    → IsIntersectionWeight E I k (weight_left E js k)

-- The intersection weight of a hypothesis doesn't fall when the set shrinks.
abbrev pub IntersectionWeightsAreMonotone : Type 0
IntersectionWeightsAreMonotone =
    (E : EntangledGraph) (I J : ℕ → Bool) (k : ℕ) (u v : Number) → IsValidEntangled E → IsSubset E.hypotheses J I → IsIn E.hypotheses J k
    → IsIntersectionWeight E I k u → IsIntersectionWeight E J k v → u ≤ε v
