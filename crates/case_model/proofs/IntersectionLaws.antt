-- Intersection weights of valid entangled graphs.
use Rattle.std.proofs.Common.{◌≡◌, refl, sym, ap, ◌∙◌, subst, ℕ, ◌<◌, Bool, List}
use Rattle.field_core.specs.Number.{Number}
use Rattle.field_core.specs.Arithmetic.{number_zero, number_one, ◌*ε◌}
use Rattle.field_core.specs.Order.{◌≤ε◌}
use Rattle.field_core.specs.NumberField.{number_field}
use Rattle.field_core.specs.Limit.{limit}
use Rattle.field_core.specs.LimitParts.{IsUnit}
use Rattle.field_core.specs.Sums.{sum_below}
use Rattle.field_core.specs.Sets.{IsIn, IsSubset, HaveSameMembers, whole}
use Rattle.field_core.specs.Runs.{IsOrder, left_after, after}
use Rattle.field_core.proofs.Settled.{weight_in}
use Rattle.field_core.specs.Laws.AtMostLaws.{at_most_equal, at_most_trans, at_most_multiply_left, at_least_zero_product}
use Rattle.field_core.specs.Laws.NumberFieldLaws.{field_zero}
use Rattle.field_core.specs.Laws.NumberLaws.{number_multiply_one}
use Rattle.field_core.proofs.SumLaws.{sum_congr, sum_le, sum_nonneg}
use Rattle.field_core.proofs.UnitLimits.{limit_unit}
use Rattle.field_core.proofs.Weights.{weight_unique, weight_same, weight_in_is}
use Rattle.field_core.proofs.WeightLaws.{order_weight}
use Rattle.field_core.proofs.NumberWeights.{weight_unit, limit_monotone}
use Rattle.case_model.specs.EntangledGraph.{EntangledGraph, IsValidEntangled}
use Rattle.case_model.specs.IntersectionWeight.{IsIntersectionWeight}

-- ---- sums of products with shares

pub total_at_least_zero : (n : ℕ) (f : ℕ → Number) → ((i : ℕ) → i < n → number_zero ≤ε f i) → number_zero ≤ε sum_below number_field n f
total_at_least_zero n f h = subst (λ z. z ≤ε sum_below number_field n f) field_zero
    (sum_nonneg number_field n f (λ i p. subst (λ z. z ≤ε f i) (sym field_zero) (h i p)))

-- shares that sum to at most 1, of what is at most 1
pub shared_at_most_one : (n : ℕ) (share f : ℕ → Number) → ((i : ℕ) → i < n → number_zero ≤ε share i)
    → sum_below number_field n share ≤ε number_one → ((i : ℕ) → i < n → f i ≤ε number_one)
    → sum_below number_field n (λ i. share i *ε f i) ≤ε number_one
shared_at_most_one n share f low total h =
    at_most_trans _ (sum_below number_field n share) _
    (sum_le number_field n (λ i. share i *ε f i) share
    (λ i p. subst (λ z. (share i *ε f i) ≤ε z) (number_multiply_one (share i)) (at_most_multiply_left (f i) number_one (share i) (low i p) (h i p))))
    total

-- ---- the weight of a hypothesis in a set

-- the weight of `k` in `I`, by the removals of the others in their order
unfoldable pub intersection_weight : EntangledGraph → (ℕ → Bool) → ℕ → Number
intersection_weight E I k = sum_below number_field E.components (λ c. E.share c *ε limit (weight_in number_field E.hypotheses (E.graph c) I k))

pub intersection_unique : (E : EntangledGraph) (I : ℕ → Bool) (k : ℕ) (u v : Number) → IsIntersectionWeight E I k u → IsIntersectionWeight E I k v
    → u ≡ v
intersection_unique E I k u v U W =
    U.sum ∙ sum_congr number_field E.components (λ c. E.share c *ε limit (U.weight c)) (λ c. E.share c *ε limit (W.weight c))
    (λ c p. ap (λ z. E.share c *ε limit z)
    (weight_unique number_field E.hypotheses (E.graph c) I k (U.weight c) (W.weight c) (U.is_weight c p) (W.is_weight c p)))
    ∙ sym W.sum

-- only the members of a set count
pub intersection_same : (E : EntangledGraph) (I J : ℕ → Bool) (k : ℕ) (u : Number) → HaveSameMembers E.hypotheses I J → IsIntersectionWeight E I k u
    → IsIntersectionWeight E J k u
intersection_same E I J k u same U = record {
  weight = U.weight;
  is_weight = λ c p. weight_same number_field E.hypotheses (E.graph c) I J same k (U.weight c) (U.is_weight c p);
  sum = U.sum;
}

module _ (E : EntangledGraph) (V : IsValidEntangled E) where
  pub intersection_weight_is : (I : ℕ → Bool) (k : ℕ) → IsIn E.hypotheses I k → IsIntersectionWeight E I k (intersection_weight E I k)
  unfolding intersection_weight
  intersection_weight_is I k p = record {
    weight = λ c. weight_in number_field E.hypotheses (E.graph c) I k;
    is_weight = λ c q. weight_in_is number_field E.hypotheses (E.graph c) (V.graph c q) I k p;
    sum = refl;
  }

  pub intersection_exists : (I : ℕ → Bool) (k : ℕ) → IsIn E.hypotheses I k → (u : Number) × IsIntersectionWeight E I k u
  intersection_exists I k p = (intersection_weight E I k, intersection_weight_is I k p)

  pub intersection_is : (I : ℕ → Bool) (k : ℕ) (u : Number) → IsIn E.hypotheses I k → IsIntersectionWeight E I k u → u ≡ intersection_weight E I k
  intersection_is I k u p U = intersection_unique E I k u _ U (intersection_weight_is I k p)

  limits_unit : (I : ℕ → Bool) (k : ℕ) (u : Number) → IsIn E.hypotheses I k → (U : IsIntersectionWeight E I k u) → (c : ℕ) → c < E.components
      → IsUnit (limit (U.weight c))
  limits_unit I k u p U c q = limit_unit (U.weight c) (weight_unit E.hypotheses (E.graph c) I k (U.weight c) (V.graph c q) p (U.is_weight c q))

  pub intersection_unit : (I : ℕ → Bool) (k : ℕ) (u : Number) → IsIn E.hypotheses I k → IsIntersectionWeight E I k u → IsUnit u
  intersection_unit I k u p U = record {
    low = subst (λ z. number_zero ≤ε z) (sym U.sum)
        (total_at_least_zero E.components (λ c. E.share c *ε limit (U.weight c))
        (λ c q. at_least_zero_product (E.share c) (limit (U.weight c)) (V.share_nonneg c q) (limits_unit I k u p U c q).low));
    high = subst (λ z. z ≤ε number_one) (sym U.sum)
        (shared_at_most_one E.components E.share (λ c. limit (U.weight c)) V.share_nonneg V.share_total (λ c q. (limits_unit I k u p U c q).high));
  }

  pub intersection_monotone : (I J : ℕ → Bool) (k : ℕ) (u v : Number) → IsSubset E.hypotheses J I → IsIn E.hypotheses J k
      → IsIntersectionWeight E I k u → IsIntersectionWeight E J k v → u ≤ε v
  intersection_monotone I J k u v sub p U W =
      at_most_trans u _ v (at_most_equal _ _ U.sum)
      (at_most_trans _ _ v (sum_le number_field E.components (λ c. E.share c *ε limit (U.weight c)) (λ c. E.share c *ε limit (W.weight c)) each)
      (at_most_equal _ _ (sym W.sum)))
    where
      each : (c : ℕ) → c < E.components → (E.share c *ε limit (U.weight c)) ≤ε (E.share c *ε limit (W.weight c))
      each c q = at_most_multiply_left _ _ (E.share c) (V.share_nonneg c q)
          (limit_monotone E.hypotheses (E.graph c) I J k (U.weight c) (W.weight c) (V.graph c q) sub p (U.is_weight c q) (W.is_weight c q))

  -- what the removals of all others leave, in each component in an order of its own
  pub intersection_left : (I : ℕ → Bool) (js : ℕ → List ℕ) (k : ℕ)
      → ((c : ℕ) → c < E.components → IsOrder E.hypotheses whole (js c) × HaveSameMembers E.hypotheses (left_after whole (js c)) I)
      → IsIn E.hypotheses I k
      → IsIntersectionWeight E I k (sum_below number_field E.components (λ c. E.share c *ε limit ((after number_field (E.graph c) (js c)).weight k)))
  intersection_left I js k o p = record {
    weight = λ c. (after number_field (E.graph c) (js c)).weight k;
    is_weight = λ c q. order_weight number_field E.hypotheses (E.graph c) (V.graph c q) I (js c) k (o c q).0 (o c q).1 p;
    sum = refl;
  }
