-- Intersection weights of a graph that is the only component.
use Rattle.std.proofs.Common.{◌≡◌, sym, ap, ◌∙◌, subst, ℕ, ◌<◌, arith, Bool}
use Rattle.field_core.specs.Number.{Number}
use Rattle.field_core.specs.Arithmetic.{◌*ε◌}
use Rattle.field_core.specs.Limit.{limit}
use Rattle.field_core.specs.NumberField.{number_field}
use Rattle.field_core.specs.Sums.{sum_below}
use Rattle.field_core.specs.Graph.{Graph}
use Rattle.field_core.specs.Sets.{IsIn, whole}
use Rattle.field_core.specs.Walks.{IsComponentWeight}
use Rattle.field_core.specs.Laws.Order.{number_zero_add, number_one_multiply}
use Rattle.field_core.proofs.Agreement.{Agrees}
use Rattle.case_model.specs.EntangledGraph.{EntangledGraph, IsValidEntangled}
use Rattle.case_model.specs.IntersectionWeight.{IsIntersectionWeight}
use Rattle.case_model.specs.TextbookGraphs.{IsAlone}
use Rattle.field_core.proofs.ClosedForms.{IsClosedForm, agrees_on, closed_weight}

pub one_term : (f : ℕ → Number) → sum_below number_field 1 f ≡ f 0
unfolding sum_below number_field
one_term f = number_zero_add (f 0)

pub only_first : (n c : ℕ) → n ≡ 1 → c < n → 0 ≡ c
only_first n c e h = omega arith

module _ (E : EntangledGraph) (V : IsValidEntangled E) (G : Graph Number) (A : IsAlone G E) where
  pub first_counts : 0 < E.components
  first_counts = omega (arith, A.one)

  pub alone_agrees : Agrees E.hypotheses whole (E.graph 0) G
  alone_agrees = record { weight = λ l p. A.weight l p.below; edge = λ l k p q _. A.edge l k p.below q.below }

  pub only_weight : (I : ℕ → Bool) (k : ℕ) (x : Number) → IsComponentWeight number_field E.hypotheses (E.graph 0) I k x
      → IsIntersectionWeight E I k (limit x)
  only_weight I k x W = record {
    weight = λ _. x;
    is_weight = λ c h. subst (λ d. IsComponentWeight number_field E.hypotheses (E.graph d) I k x) (only_first E.components c A.one h) W;
    sum = sym (ap (λ n. sum_below number_field n (λ c. E.share c *ε limit x)) A.one ∙ one_term (λ c. E.share c *ε limit x)
        ∙ ap (λ s. s *ε limit x) A.share ∙ number_one_multiply (limit x));
  }

  module _ (left : (ℕ → Bool) → Graph Number) (C : IsClosedForm number_field E.hypotheses left) (S : Agrees E.hypotheses whole G (left whole)) where
    left_weight : (I : ℕ → Bool) (k : ℕ) → IsIn E.hypotheses I k → IsComponentWeight number_field E.hypotheses (E.graph 0) I k ((left I).weight k)
    left_weight = closed_weight number_field E.hypotheses left C (E.graph 0) (V.graph 0 first_counts)
        (agrees_on E.hypotheses whole (E.graph 0) G (left whole) alone_agrees S)

    pub left_intersection : (I : ℕ → Bool) (k : ℕ) → IsIn E.hypotheses I k → IsIntersectionWeight E I k (limit ((left I).weight k))
    left_intersection I k q = only_weight I k ((left I).weight k) (left_weight I k q)
