-- The weight of a hypothesis in an intersection (Maurer and Bretz 2013 for the shares; that limits are taken in each component is this project's own).
use Rattle.std.specs.Prelude.{◌≡◌, ◌<◌, ℕ, Bool}
use Rattle.field_core.specs.Number.{Number}
use Rattle.field_core.specs.Arithmetic.{◌*ε◌}
use Rattle.field_core.specs.Limit.{limit}
use Rattle.field_core.specs.NumberField.{number_field}
use Rattle.field_core.specs.Sums.{sum_below}
use Rattle.field_core.specs.Walks.{IsComponentWeight}
use Rattle.case_model.specs.EntangledGraph.{EntangledGraph}

-- `u` is the weight of `k` in the intersection of the set `I`. It is the sum, over the components, of the share times the limit of the weight of `k`
-- in `I` in that component
pub record IsIntersectionWeight (E : EntangledGraph) (I : ℕ → Bool) (k : ℕ) (u : Number) : Type 0 where
  pub weight : ℕ → Number
  pub is_weight : (c : ℕ) → c < E.components → IsComponentWeight number_field E.hypotheses (E.graph c) I k (weight c)
  pub sum : u ≡ sum_below number_field E.components (λ c. E.share c *ε limit (weight c))
