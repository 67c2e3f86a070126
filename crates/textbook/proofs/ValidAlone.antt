-- The entangled graphs of textbook rules are valid.
use Rattle.std.proofs.Common.{◌≡◌, inl, inr, refl, sym, ap, ◌∙◌, subst, ℕ, zero, suc, ◌<◌, arith, cond, pos, ◌-ℤ◌}
use Rattle.field_core.specs.Field.{AtMost}
use Rattle.field_core.specs.Number.{Number}
use Rattle.field_core.specs.Arithmetic.{number_zero, number_one, ◌+ε◌, ◌*ε◌}
use Rattle.field_core.specs.Order.{◌≤ε◌}
use Rattle.field_core.specs.Fractions.{fraction, one_over}
use Rattle.field_core.specs.NumberField.{number_field}
use Rattle.field_core.specs.Sums.{sum_below, unit}
use Rattle.field_core.specs.Graph.{IsValid}
use Rattle.field_core.specs.Laws.Order.{number_laws}
use Rattle.field_core.specs.Laws.AtMostLaws.{at_most_refl, at_most_equal, zero_at_most_one, positive-at_least_zero}
use Rattle.field_core.specs.Laws.NumberFieldLaws.{field_zero, field_one, field_sum, sum_nothing, sum_last}
use Rattle.field_core.proofs.UnitLimits.{zero_is}
use Rattle.field_core.proofs.RemovalLaws.{same_or_not}
use Rattle.field_core.proofs.SumLaws.{sum_congr, unit_same, unit_other}
use Rattle.case_model.specs.EntangledGraph.{EntangledGraph, IsValidEntangled}
use Rattle.case_model.specs.TextbookGraphs.{IsAlone, chain_graph, first_alone, equal_graph, IsFallbackGraph, IsSequenceGraph, IsHolmGraph}
use Rattle.case_model.proofs.AloneGraphs.{one_term, only_first}
use Rattle.field_core.proofs.Positions.{test_same, test_other}
use Rattle.case_model.proofs.HolmOrders.{less_one}
use Rattle.field_core.proofs.UnitFractions.{times_count, next_count, one_over_positive}
use Rattle.field_core.proofs.Chains.{chain_valid}
use Rattle.field_core.proofs.EqualShares.{equal_valid}
use Rattle.field_core.specs.Graph.{Graph}

pub low : (x : Number) → number_zero ≤ε x → AtMost number_field number_field.𝟘 x
low x h = subst (λ z. z ≤ε x) (sym field_zero) h

pub high : (x : Number) → x ≤ε number_one → AtMost number_field x number_field.𝟙
high x h = subst (λ z. x ≤ε z) (sym field_one) h

pub alone_is_valid : (E : EntangledGraph) (G : Graph Number) → IsAlone G E → IsValid number_field E.hypotheses (E.graph 0) → IsValidEntangled E
alone_is_valid E G A V = record {
  graph = λ c h. subst (λ d. IsValid number_field E.hypotheses (E.graph d)) (only_first E.components c A.one h) V;
  share_nonneg = λ c h. subst (λ d. number_zero ≤ε E.share d) (only_first E.components c A.one h)
      (subst (λ z. number_zero ≤ε z) (sym A.share) zero_at_most_one);
  share_total = at_most_equal _ _ (ap (λ n. sum_below number_field n E.share) A.one ∙ one_term E.share ∙ A.share);
}

pub fallback_valid : (E : EntangledGraph) (w : ℕ → Number) → IsFallbackGraph w E → ((i : ℕ) → i < E.hypotheses → number_zero ≤ε w i)
    → sum_below number_field E.hypotheses w ≤ε number_one → IsValidEntangled E
fallback_valid E w A nonneg total =
    alone_is_valid E (chain_graph w) A (chain_valid number_field E.hypotheses (E.graph 0)
    (λ i p. low _ (subst (λ z. number_zero ≤ε z) (sym (A.weight i p)) (nonneg i p)))
    (high _ (subst (λ z. z ≤ε number_one) (sym (sum_congr number_field E.hypotheses (E.graph 0).weight w A.weight)) total))
    (λ i k p q. A.edge i k p q ∙ next i k))
  where
    next : (i k : ℕ) → (chain_graph w).edge i k ≡ unit number_field (suc i) k
    next i k = elim (same_or_not k (suc i)) [
      | inl e ↦ rw (test_same k (suc i) e) (sym (ap (unit number_field (suc i)) e ∙ unit_same number_field (suc i) ∙ field_one))
      | inr n ↦ rw (test_other k (suc i) n) (sym (unit_other number_field (suc i) k (λ x. n (sym x)) ∙ field_zero))
    ]

-- ---- the fixed sequence

plus_nothing : (x : Number) → x +ε number_zero ≡ x
plus_nothing x = simp number_laws

all_first : (n : ℕ) → sum_below number_field (suc n) first_alone ≡ number_one
all_first zero = one_term first_alone
all_first (suc n) = sum_last (suc n) first_alone ∙ plus_nothing (sum_below number_field (suc n) first_alone) ∙ all_first n

first_total : (n : ℕ) → sum_below number_field n first_alone ≤ε number_one
first_total zero = subst (λ z. z ≤ε number_one) (sym (sum_nothing first_alone)) zero_at_most_one
first_total (suc n) = at_most_equal _ _ (all_first n)

first_nonneg : (i : ℕ) → number_zero ≤ε first_alone i
first_nonneg zero = zero_at_most_one
first_nonneg (suc i) = at_most_refl number_zero

pub sequence_valid : (E : EntangledGraph) → IsSequenceGraph E → IsValidEntangled E
sequence_valid E A = fallback_valid E first_alone A (λ i _. first_nonneg i) (first_total E.hypotheses)

-- ---- Holm's graph

nothing_times : (c : Number) → number_zero ≡ c *ε number_zero
nothing_times c = simp number_laws

once_more : (c x : Number) → c *ε x +ε c ≡ c *ε (x +ε number_one)
once_more c x = simp number_laws

as_often : (k : ℕ) (c : Number) → sum_below number_field k (λ _. c) ≡ c *ε fraction (pos k) (pos 1)
as_often zero c = sum_nothing (λ _. c) ∙ nothing_times c ∙ ap (λ z. c *ε z) zero_is
as_often (suc k) c = sum_last k (λ _. c) ∙ ap (λ z. z +ε c) (as_often k c) ∙ once_more c (fraction (pos k) (pos 1))
    ∙ ap (λ z. c *ε z) (sym (next_count k))

pub all_parts : (n : ℕ) → sum_below number_field (suc n) (λ _. one_over (suc n)) ≡ number_one
all_parts n = as_often (suc n) (one_over (suc n)) ∙ times_count n

split_row : (e x : Number) → e *ε x ≡ number_one → e *ε (x +ε number_one) ≡ number_one +ε e
split_row e x h = sym (once_more e x) ∙ ap (λ z. z +ε e) h

pub one_too_many : (n : ℕ) → sum_below number_field (suc (suc n)) (λ _. one_over (suc n)) ≡ number_one +ε one_over (suc n)
one_too_many n = as_often (suc (suc n)) (one_over (suc n)) ∙ ap (λ z. one_over (suc n) *ε z) (next_count (suc n))
    ∙ split_row (one_over (suc n)) (fraction (pos (suc n)) (pos 1)) (times_count n)

loop : (n i : ℕ) → (equal_graph n).edge i i ≡ number_zero
loop n i = ap (λ b. cond b number_zero (fraction (pos 1) (pos n -ℤ pos 1))) (test_same i i refl)

pub holm_valid : (E : EntangledGraph) → IsHolmGraph E → (m : ℕ) → m ≡ E.hypotheses → 0 < m → IsValidEntangled E
holm_valid E A zero e some = absurd (omega (arith, some))
holm_valid E A (suc zero) e some =
    alone_is_valid E (equal_graph E.hypotheses) A (subst (λ n. IsValid number_field n (E.graph 0)) e
    (equal_valid number_field 1 (one_over 1) number_zero (E.graph 0) (low _ (positive-at_least_zero _ (one_over_positive 0))) (low _ (at_most_refl number_zero))
    (all_parts 0 ∙ sym field_one) (λ h. absurd (omega (arith, h)))
    (λ i p. A.weight i (subst (λ n. i < n) e p) ∙ ap one_over (sym e))
    (λ i k p q n. absurd (omega (arith, p, q, n)))
    (λ i p. A.edge i i (subst (λ n. i < n) e p) (subst (λ n. i < n) e p) ∙ loop E.hypotheses i ∙ sym field_zero)))
holm_valid E A (suc (suc n)) e some =
    alone_is_valid E (equal_graph E.hypotheses) A (subst (λ n. IsValid number_field n (E.graph 0)) e
    (equal_valid number_field (suc (suc n)) (one_over (suc (suc n))) (one_over (suc n)) (E.graph 0)
    (low _ (positive-at_least_zero _ (one_over_positive (suc n)))) (low _ (positive-at_least_zero _ (one_over_positive n)))
    (all_parts (suc n) ∙ sym field_one)
    (λ _. one_too_many n ∙ sym (field_sum number_field.𝟙 (one_over (suc n)) ∙ ap (λ z. z +ε one_over (suc n)) field_one))
    (λ i p. A.weight i (subst (λ n. i < n) e p) ∙ ap one_over (sym e))
    (λ i k p q d. A.edge i k (subst (λ n. i < n) e p) (subst (λ n. k < n) e q)
    ∙ ap (λ b. cond b number_zero (fraction (pos 1) (pos E.hypotheses -ℤ pos 1))) (test_other i k d)
    ∙ ap (λ z. fraction (pos 1) z) (less_one E.hypotheses (suc n) e))
    (λ i p. A.edge i i (subst (λ n. i < n) e p) (subst (λ n. i < n) e p) ∙ loop E.hypotheses i ∙ sym field_zero)))
