-- Entangled graphs: several weighted graphs over one set of hypotheses, each with its share of the level (Maurer and Bretz 2013).
use Rattle.std.specs.Prelude.{ℕ, ◌<◌}
use Rattle.field_core.specs.Number.{Number}
use Rattle.field_core.specs.Arithmetic.{number_zero, number_one}
use Rattle.field_core.specs.Order.{◌≤ε◌}
use Rattle.field_core.specs.NumberField.{number_field}
use Rattle.field_core.specs.Sums.{sum_below}
use Rattle.field_core.specs.Graph.{Graph, IsValid}

-- how many hypotheses and components there are, and the share and the graph of each component
pub record EntangledGraph : Type 0 where
  pub hypotheses : ℕ
  pub components : ℕ
  pub share : ℕ → Number
  pub graph : ℕ → Graph Number

-- each graph is valid, no share is below 0, and the shares sum to at most 1
pub record IsValidEntangled (E : EntangledGraph) : Type 0 where
  pub graph : (c : ℕ) → c < E.components → IsValid number_field E.hypotheses (E.graph c)
  pub share_nonneg : (c : ℕ) → c < E.components → number_zero ≤ε E.share c
  pub share_total : sum_below number_field E.components E.share ≤ε number_one
