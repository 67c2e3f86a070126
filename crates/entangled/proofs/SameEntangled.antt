-- Entangled graphs that are the same below their number of hypotheses.
use Rattle.std.proofs.Common.{◌≡◌, sym, ap, subst, ◌∙◌, ℕ, ◌<◌, Bool}
use Rattle.field_core.specs.Number.{Number}
use Rattle.field_core.specs.Arithmetic.{◌*ε◌}
use Rattle.field_core.specs.NumberField.{number_field}
use Rattle.field_core.specs.Limit.{limit}
use Rattle.field_core.specs.Sums.{sum_below}
use Rattle.field_core.specs.Walks.{IsComponentWeight}
use Rattle.field_core.proofs.SumLaws.{sum_congr}
use Rattle.field_core.proofs.SameBelow.{SameBelow, component_weight_same}
use Rattle.case_model.specs.EntangledGraph.{EntangledGraph}
use Rattle.case_model.specs.IntersectionWeight.{IsIntersectionWeight}

pub record AreSame (D E : EntangledGraph) : Type 0 where
  pub hypotheses : D.hypotheses ≡ E.hypotheses
  pub components : D.components ≡ E.components
  pub share : (c : ℕ) → c < E.components → D.share c ≡ E.share c
  pub graph : (c : ℕ) → c < E.components → SameBelow E.hypotheses (D.graph c) (E.graph c)

pub weight_of_same : (D E : EntangledGraph) → AreSame D E → (I : ℕ → Bool) (k : ℕ) (u : Number) → k < E.hypotheses → IsIntersectionWeight D I k u
    → IsIntersectionWeight E I k u
weight_of_same D E S I k u b U = record {
  weight = U.weight;
  is_weight = λ c p. component_weight_same number_field E.hypotheses (D.graph c) (E.graph c) (S.graph c p) I k b (U.weight c)
      (subst (λ n. IsComponentWeight number_field n (D.graph c) I k (U.weight c)) S.hypotheses (U.is_weight c (subst (λ n. c < n) (sym S.components) p)));
  sum = U.sum ∙ ap (λ n. sum_below number_field n (λ c. D.share c *ε limit (U.weight c))) S.components
      ∙ sum_congr number_field E.components (λ c. D.share c *ε limit (U.weight c)) (λ c. E.share c *ε limit (U.weight c))
      (λ c p. ap (λ z. z *ε limit (U.weight c)) (S.share c p));
}
