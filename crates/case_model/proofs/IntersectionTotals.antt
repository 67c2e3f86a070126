-- The intersection weights of a set sum to at most 1.
use Rattle.std.proofs.Common.{◌≡◌, inl, inr, sym, ap, ◌∙◌, subst, ℕ, zero, suc, ◌<◌, arith, Bool, true, false, cond}
use mathlib.Core.Path.{fun_ext}
use Rattle.field_core.specs.Number.{Number}
use Rattle.field_core.specs.Arithmetic.{number_zero, number_one, ◌+ε◌, ◌*ε◌}
use Rattle.field_core.specs.Order.{◌≤ε◌}
use Rattle.field_core.specs.NumberField.{number_field}
use Rattle.field_core.specs.Limit.{limit}
use Rattle.field_core.specs.LimitParts.{IsUnit}
use Rattle.field_core.specs.Sums.{sum_below}
use Rattle.field_core.specs.Graph.{Graph, IsValid}
use Rattle.field_core.specs.Sets.{IsIn}
use Rattle.field_core.specs.Walks.{IsComponentWeight}
use Rattle.field_core.proofs.Settled.{weight_in}
use Rattle.field_core.specs.Laws.AtMostLaws.{at_most_refl, zero_at_most_one}
use Rattle.field_core.specs.Laws.LimitLaws.{IsFinite, IsFinite-add, limit_add, finite_between}
use Rattle.field_core.specs.Laws.NumberFieldLaws.{field_zero, sum_nothing, sum_last, at_most_out}
use Rattle.field_core.specs.Laws.Order.{number_multiply_zero}
use Rattle.field_core.proofs.SumLaws.{sum_congr, sum_zero, sum_scale, sum_swap}
use Rattle.field_core.proofs.Live.{true_or_false}
use Rattle.field_core.proofs.UnitLimits.{limit_unit, limit_zero, finite}
use Rattle.field_core.proofs.Weights.{weight_in_is}
use Rattle.field_core.proofs.WeightLaws.{weights_total}
use Rattle.field_core.proofs.NumberWeights.{weight_unit}
use Rattle.case_model.specs.EntangledGraph.{EntangledGraph, IsValidEntangled}
use Rattle.case_model.specs.IntersectionWeight.{IsIntersectionWeight}
use Rattle.case_model.proofs.IntersectionLaws.{total_at_least_zero, shared_at_most_one, intersection_weight, intersection_is}

-- ---- limits of sums

pub finite_sum : (n : ℕ) (f : ℕ → Number) → ((i : ℕ) → i < n → IsFinite (f i)) → IsFinite (sum_below number_field n f)
finite_sum zero f h = rw (sum_nothing f)
    (finite_between number_zero (at_most_out number_zero number_zero (at_most_refl number_zero)) (at_most_out number_zero number_one zero_at_most_one))
finite_sum (suc n) f h = rw (sum_last n f) (IsFinite-add _ _ (finite_sum n f (λ i p. h i (omega arith))) (h n (omega arith)))

pub limit_of_sum : (n : ℕ) (f : ℕ → Number) → ((i : ℕ) → i < n → IsFinite (f i))
    → limit (sum_below number_field n f) ≡ sum_below number_field n (λ i. limit (f i))
limit_of_sum zero f h = ap limit (sum_nothing f) ∙ limit_zero ∙ sym (sum_nothing (λ i. limit (f i)))
limit_of_sum (suc n) f h =
    ap limit (sum_last n f) ∙ limit_add _ _ (finite_sum n f (λ i p. h i (omega arith))) (h n (omega arith))
    ∙ ap (λ z. z +ε limit (f n)) (limit_of_sum n f (λ i p. h i (omega arith))) ∙ sym (sum_last n (λ i. limit (f i)))

-- ---- the weights of a set

component_total : (m : ℕ) (G : Graph Number) (I : ℕ → Bool) (w : ℕ → Number) → IsValid number_field m G
    → ((k : ℕ) → IsIn m I k → IsComponentWeight number_field m G I k (w k)) → ((k : ℕ) → k < m → I k ≡ false → w k ≡ number_zero)
    → sum_below number_field m w ≤ε number_one
unfolding number_field
component_total m G I w V = weights_total number_field m G V I w

-- the weight of a member, and 0 outside the set
member_weight : (m : ℕ) (G : Graph Number) (I : ℕ → Bool) (k : ℕ) → Number
member_weight m G I k = cond (I k) (weight_in number_field m G I k) number_zero

member_inside : (m : ℕ) (G : Graph Number) (I : ℕ → Bool) (k : ℕ) → I k ≡ true → member_weight m G I k ≡ weight_in number_field m G I k
unfolding member_weight
member_inside m G I k t = rw t

member_outside : (m : ℕ) (G : Graph Number) (I : ℕ → Bool) (k : ℕ) → I k ≡ false → member_weight m G I k ≡ number_zero
unfolding member_weight
member_outside m G I k f = rw f

zero_unit : IsUnit number_zero
zero_unit = record { low = at_most_refl number_zero; high = zero_at_most_one }

member_unit : (m : ℕ) (G : Graph Number) (I : ℕ → Bool) (k : ℕ) → IsValid number_field m G → k < m → IsUnit (member_weight m G I k)
member_unit m G I k V q = elim (true_or_false (I k)) [
  | inl t ↦ subst IsUnit (sym (member_inside m G I k t))
      (weight_unit m G I k _ V (record { below = q; member = t }) (weight_in_is number_field m G V I k (record { below = q; member = t })))
  | inr f ↦ subst IsUnit (sym (member_outside m G I k f)) zero_unit
]

-- the limits of the weights of a component sum to at most 1
limit_total : (m : ℕ) (G : Graph Number) (I : ℕ → Bool) → IsValid number_field m G
    → sum_below number_field m (λ k. limit (member_weight m G I k)) ≤ε number_one
limit_total m G I V = subst (λ z. z ≤ε number_one) (limit_of_sum m (member_weight m G I) (λ k q. finite _ (member_unit m G I k V q)))
    (limit_unit _ total).high
  where
    total : IsUnit (sum_below number_field m (member_weight m G I))
    total = record {
      low = total_at_least_zero m (member_weight m G I) (λ k q. (member_unit m G I k V q).low);
      high = component_total m G I (member_weight m G I) V
          (λ k p. subst (IsComponentWeight number_field m G I k) (sym (member_inside m G I k p.member)) (weight_in_is number_field m G V I k p))
          (λ k q f. member_outside m G I k f);
    }

module _ (E : EntangledGraph) (V : IsValidEntangled E) (I : ℕ → Bool) where
  -- what a component adds to the weight of a hypothesis
  part_of : ℕ → ℕ → Number
  part_of k c = E.share c *ε limit (member_weight E.hypotheses (E.graph c) I k)

  inside_is : (k : ℕ) → IsIn E.hypotheses I k → intersection_weight E I k ≡ sum_below number_field E.components (part_of k)
  unfolding intersection_weight part_of
  inside_is k p = sum_congr number_field E.components _ _ (λ c q. ap (λ z. E.share c *ε limit z) (sym (member_inside E.hypotheses (E.graph c) I k p.member)))

  outside_is : (k : ℕ) → I k ≡ false → sum_below number_field E.components (part_of k) ≡ number_zero
  unfolding part_of
  outside_is k f = sum_congr number_field E.components _ (λ _. number_field.𝟘)
      (λ c q. ap (λ z. E.share c *ε limit z) (member_outside E.hypotheses (E.graph c) I k f) ∙ ap (λ z. E.share c *ε z) limit_zero
      ∙ number_multiply_zero (E.share c) ∙ sym field_zero) ∙ sum_zero number_field E.components ∙ field_zero

  scaled : (c : ℕ) → sum_below number_field E.hypotheses (λ k. part_of k c) ≡ E.share c *ε sum_below number_field E.hypotheses
      (λ k. limit (member_weight E.hypotheses (E.graph c) I k))
  unfolding number_field part_of
  scaled c = sum_scale number_field E.hypotheses (E.share c) (λ k. limit (member_weight E.hypotheses (E.graph c) I k))

  pub intersection_total : (w : ℕ → Number) → ((k : ℕ) → IsIn E.hypotheses I k → IsIntersectionWeight E I k (w k))
      → ((k : ℕ) → k < E.hypotheses → I k ≡ false → w k ≡ number_zero) → sum_below number_field E.hypotheses w ≤ε number_one
  intersection_total w W zeros =
      subst (λ z. z ≤ε number_one) (sym whole_is)
      (shared_at_most_one E.components E.share (λ c. sum_below number_field E.hypotheses (λ k. limit (member_weight E.hypotheses (E.graph c) I k)))
      V.share_nonneg V.share_total (λ c q. limit_total E.hypotheses (E.graph c) I (V.graph c q)))
    where
      each : (k : ℕ) → k < E.hypotheses → w k ≡ sum_below number_field E.components (part_of k)
      each k q = elim (true_or_false (I k)) [
        | inl t ↦ let p : IsIn E.hypotheses I k = record { below = q; member = t } in intersection_is E V I k (w k) p (W k p) ∙ inside_is k p
        | inr f ↦ zeros k q f ∙ sym (outside_is k f)
      ]

      whole_is : sum_below number_field E.hypotheses w ≡ sum_below number_field E.components
          (λ c. E.share c *ε sum_below number_field E.hypotheses (λ k. limit (member_weight E.hypotheses (E.graph c) I k)))
      whole_is = sum_congr number_field E.hypotheses w (λ k. sum_below number_field E.components (part_of k)) each
          ∙ sum_swap number_field E.hypotheses E.components part_of ∙ ap (sum_below number_field E.components) (fun_ext scaled)
