-- What Holm's rule rejects, by ascending p-value, is a complete legal order on Holm's graph.
use Rattle.std.proofs.Common.{◌≡◌, ◌↔◌, inl, inr, refl, sym, ap, ◌∙◌, subst, ℕ, suc, arith, Bool, true, false, cond, if◌then◌else◌}
use Rattle.std.proofs.Common.{List, [], ◌∷◌, length, pos, ◌-ℤ◌}
use Rattle.std.proofs.lemmas.Int.{ints}
use Rattle.field_core.specs.Number.{Number}
use Rattle.field_core.specs.Arithmetic.{number_zero, ◌*ε◌}
use Rattle.field_core.specs.Order.{◌≤ε◌, at_most}
use Rattle.field_core.specs.Fractions.{fraction, one_over}
use Rattle.field_core.specs.Limit.{limit}
use Rattle.field_core.specs.NumberField.{number_field}
use Rattle.field_core.specs.Sets.{IsIn, dropping, whole, size_of}
use Rattle.field_core.specs.Laws.AtMostLaws.{at_most_trans}
use Rattle.field_core.proofs.Live.{dropping_other, live_before, live_other, true_or_false, true_not_false}
use Rattle.field_core.proofs.Agreement.{Agrees}
use Rattle.case_model.specs.EntangledGraph.{EntangledGraph, IsValidEntangled}
use Rattle.case_model.specs.IntersectionWeight.{IsIntersectionWeight}
use Rattle.case_model.specs.ClosedTest.{Passes, IsLegal, IsRejected}
use Rattle.case_model.specs.LegalOrder.{IsListed, IsRunBy}
use Rattle.case_model.specs.TextbookRules.{IsByPValue, by_p_value}
use Rattle.case_model.specs.TextbookGraphs.{equal_graph, IsHolmGraph}
use Rattle.case_model.proofs.ClosedTestLaws.{legal_passes, passes_legal, complete_decides}
use Rattle.case_model.proofs.RejectionOrders.{listed_here, listed_later, here_or_later}
use Rattle.field_core.proofs.Positions.{test_other}
use Rattle.field_core.proofs.Sizes.{size_dropped, size_whole}
use Rattle.case_model.proofs.AloneGraphs.{left_intersection}
use Rattle.field_core.proofs.EqualShares.{equal_left, equal_closed}
use Rattle.field_core.proofs.UnitFractions.{one_over_parts, one_over_plain, one_over_positive}
use Rattle.case_model.proofs.ByPValue.{IsDistinct, by_p_value_length, by_p_value_below, by_p_value_all, by_p_value_distinct, by_p_value_ordered}

pub less_one : (m s : ℕ) → suc s ≡ m → pos m -ℤ pos 1 ≡ pos s
less_one m s e = omega (arith, ints, e)

pub equal_start : (m : ℕ) → Agrees m whole (equal_graph m) (equal_left number_field one_over one_over_parts m whole)
equal_start m = record {
  weight = λ l p. ap (λ n. fraction (pos 1) (pos n)) (sym (size_whole m));
  edge = λ l k p q n. ap (λ b. cond b number_zero (fraction (pos 1) (pos m -ℤ pos 1))) (test_other l k n)
      ∙ ap (λ d. fraction (pos 1) d) (less_one m (size_of m (dropping l whole)) (size_dropped m l whole p ∙ size_whole m));
}

module _ (p : ℕ → Number) (level : Number) where
  -- the first ones of a list, as long as the p-value is at most the level over the number of those that are left
  unfoldable pub stepped_down : List ℕ → List ℕ
  stepped_down [] = []
  stepped_down (j ∷ js) = if at_most (p j) (one_over (length (j ∷ js)) *ε level) then j ∷ stepped_down js else []

  pub down_none : stepped_down [] ≡ []
  unfolding stepped_down
  down_none = refl

  pub down_on : (j : ℕ) (js : List ℕ) → at_most (p j) (one_over (length (j ∷ js)) *ε level) ≡ true
      → stepped_down (j ∷ js) ≡ j ∷ stepped_down js
  unfolding stepped_down
  down_on j js t = ap (λ b. cond b (j ∷ stepped_down js) []) t

  pub down_stop : (j : ℕ) (js : List ℕ) → at_most (p j) (one_over (length (j ∷ js)) *ε level) ≡ false → stepped_down (j ∷ js) ≡ []
  unfolding stepped_down
  down_stop j js f = ap (λ b. cond b (j ∷ stepped_down js) []) f

  module _ (E : EntangledGraph) (V : IsValidEntangled E) (A : IsHolmGraph E) where
    -- each of the `r` members of a set has the weight 1/r
    pub equal_intersection : (I : ℕ → Bool) (k r : ℕ) → size_of E.hypotheses I ≡ suc r → IsIn E.hypotheses I k
        → IsIntersectionWeight E I k (one_over (suc r))
    equal_intersection I k r e q =
        subst (λ x. IsIntersectionWeight E I k x) (ap (λ n. limit (one_over n)) e ∙ one_over_plain r)
        (left_intersection E V (equal_graph E.hypotheses) A (equal_left number_field one_over one_over_parts E.hypotheses)
        (equal_closed number_field one_over one_over_parts E.hypotheses) (equal_start E.hypotheses) I k q)

    -- `I` has just the hypotheses of the list
    record Remain (js : List ℕ) (I : ℕ → Bool) : Type 0 where
      each : (i : ℕ) → IsListed js i → IsIn E.hypotheses I i
      all : (i : ℕ) → IsIn E.hypotheses I i → IsListed js i
      distinct : IsDistinct js
      ordered : IsByPValue p js
      size : size_of E.hypotheses I ≡ length js

    next_remain : (j : ℕ) (js : List ℕ) (I : ℕ → Bool) → Remain (j ∷ js) I → Remain js (dropping j I)
    next_remain j js I R = record {
      each = λ i l.
          let q : IsIn E.hypotheses I i = R.each i (listed_later j i js l) in
          record { below = q.below; member = dropping_other j I i (λ e. R.distinct.0 (subst (λ a. IsListed js a) e l)) ∙ q.member };
      all = λ i q. elim (here_or_later j i js (R.all i (live_before j I q))) [ inl e ↦ absurd (live_other j I q e) | inr l ↦ l ];
      distinct = R.distinct.1;
      ordered = R.ordered.1;
      size = let e = size_dropped E.hypotheses j I (R.each j (listed_here j js)) in let s : size_of E.hypotheses I ≡ suc (length js) =
          R.size in omega (arith, e, s);
    }

    step_run : (js : List ℕ) (I : ℕ → Bool) → Remain js I → IsRunBy (IsLegal E p level) I (stepped_down js)
    step_run [] I R = subst (IsRunBy (IsLegal E p level) I) (sym down_none) record { order = tt; complete = λ k h. absurd (nothing k (R.all k h.member)) }
      where
        nothing : (k : ℕ) → ¬ IsListed [] k
        nothing k l = cc
    step_run (j ∷ js) I R = elim (true_or_false (at_most (p j) (one_over (length (j ∷ js)) *ε level))) [
      | inl t ↦
          let rest = step_run js (dropping j I) (next_remain j js I R) in
          let q : IsIn E.hypotheses I j = R.each j (listed_here j js) in
          subst (IsRunBy (IsLegal E p level) I) (sym (down_on j js t))
          record {
            order = (
              passes_legal E p level I j (one_over (suc (length js))) q
                  (equal_intersection I j (length js) R.size q) record { positive = one_over_positive (length js); small = t },
              rest.order,
            );
            complete = rest.complete;
          }
      | inr f ↦ subst (IsRunBy (IsLegal E p level) I) (sym (down_stop j js f)) record { order = tt; complete = none f }
    ]
      where
        least : (k : ℕ) → IsListed (j ∷ js) k → p j ≤ε p k
        least k l = elim (here_or_later j k js l) [
          | inl e ↦ subst (λ a. p j ≤ε p a) (sym e) (number_field.le_refl (p j))
          | inr q ↦ (R.ordered.0 k q).not_above
        ]

        none : at_most (p j) (one_over (length (j ∷ js)) *ε level) ≡ false → (k : ℕ) → ¬ IsLegal E p level I k
        none f k h =
            let passes : Passes (p k) (one_over (suc (length js))) level =
            legal_passes E p level I k (one_over (suc (length js))) h (equal_intersection I k (length js) R.size h.member) in
            true_not_false (sym (at_most_trans (p j) (p k) (one_over (suc (length js)) *ε level) (least k (R.all k h.member)) passes.small) ∙ f)

    all_remain : Remain (by_p_value p E.hypotheses) whole
    all_remain = record {
      each = λ i l. record { below = by_p_value_below p E.hypotheses i l; member = refl };
      all = λ i q. by_p_value_all p E.hypotheses i q.below;
      distinct = by_p_value_distinct p E.hypotheses;
      ordered = by_p_value_ordered p E.hypotheses;
      size = size_whole E.hypotheses ∙ sym (by_p_value_length p E.hypotheses);
    }

    -- the closed test rejects exactly these
    pub stepped_decides : number_zero ≤ε level → (j : ℕ) → IsRejected E p level j ↔ IsListed (stepped_down (by_p_value p E.hypotheses)) j
    stepped_decides n j =
        let run = step_run (by_p_value p E.hypotheses) whole all_remain in
        let D = complete_decides E p level V n (stepped_down (by_p_value p E.hypotheses)) run.order run.complete j in
        (D.1, D.0)
