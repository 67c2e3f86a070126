-- What the fallback rule rejects, by ascending position, is a complete legal order on the fallback graph.
use Rattle.std.proofs.Common.{◌≡◌, ◌↔◌, inl, inr, refl, sym, ap, ap₂, ◌∙◌, subst, ℕ, zero, suc, ◌<◌, ◌≤◌, ◌+◌, arith, Bool}
use Rattle.std.proofs.Common.{true, false, not, cond, List, [], ◌∷◌}
use Rattle.field_core.specs.Number.{Number}
use Rattle.field_core.specs.Arithmetic.{number_zero, number_one, ◌+ε◌}
use Rattle.field_core.specs.Order.{◌≤ε◌}
use Rattle.field_core.specs.Limit.{limit}
use Rattle.field_core.specs.NumberField.{number_field}
use Rattle.field_core.specs.Sums.{unit}
use Rattle.field_core.specs.Sets.{IsIn, dropping, whole, set_of}
use Rattle.field_core.specs.Laws.LimitLaws.{IsFinite, finite_between, limit_add, IsFinite-add}
use Rattle.field_core.specs.Laws.NumberFieldLaws.{field_zero, field_one, field_sum, at_most_out}
use Rattle.field_core.proofs.SumLaws.{unit_same, unit_other, term_le}
use Rattle.field_core.proofs.Positions.{test_same, test_other}
use Rattle.field_core.proofs.RemovalLaws.{same_or_not}
use Rattle.field_core.proofs.Live.{dropping_same, dropping_other, true_or_false, true_not_false}
use Rattle.field_core.proofs.Agreement.{Agrees}
use Rattle.case_model.specs.EntangledGraph.{EntangledGraph, IsValidEntangled}
use Rattle.case_model.specs.IntersectionWeight.{IsIntersectionWeight}
use Rattle.case_model.specs.ClosedTest.{IsLegal, IsRejected}
use Rattle.case_model.specs.LegalOrder.{IsListed, IsRunBy}
use Rattle.case_model.specs.TextbookRules.{does_pass, fallback_weight, IsFallbackRejected}
use Rattle.case_model.specs.TextbookGraphs.{chain_graph, IsFallbackGraph}
use Rattle.case_model.proofs.ClosedTestLaws.{legal_passes, passes_legal, complete_decides}
use Rattle.case_model.proofs.RejectionOrders.{listed_here, listed_later, here_or_later}
use Rattle.field_core.proofs.Chains.{chain_weight, chain_edge, chain_left, chain_closed, weight_first, weight_kept, weight_passed, edge_first, edge_kept}
use Rattle.case_model.proofs.AloneGraphs.{first_counts, left_intersection}
use Rattle.case_model.proofs.PassTests.{pass_tested, tested_pass}

-- ---- the graph

pub chain_start : (m : ℕ) (w : ℕ → Number) → Agrees m whole (chain_graph w) (chain_left number_field w whole)
chain_start m w = record { weight = λ l _. own l; edge = λ l k _ _ _. next l k }
  where
    own : (l : ℕ) → w l ≡ chain_weight number_field w whole l
    own zero = sym (weight_first number_field w whole)
    own (suc l) = sym (weight_kept number_field w whole l refl)

    next : (l k : ℕ) → (chain_graph w).edge l k ≡ chain_edge number_field whole l k
    next l zero = rw (test_other 0 (suc l) (omega arith)) (sym (edge_first number_field whole l ∙ field_zero))
    next l (suc k) = elim (same_or_not k l) [
      | inl e ↦ rw (test_same (suc k) (suc l) (ap suc e))
          (sym (edge_kept number_field whole l k refl ∙ ap (λ i. unit number_field l i) e ∙ unit_same number_field l ∙ field_one))
      | inr n ↦ rw (test_other (suc k) (suc l) (omega arith))
          (sym (edge_kept number_field whole l k refl ∙ unit_other number_field l k (λ x. n (sym x)) ∙ field_zero))
    ]

module _ (p : ℕ → Number) (level : Number) (w : ℕ → Number) where
  unfoldable pub test : ℕ → Bool
  test i = does_pass (p i) (fallback_weight p level w i) level

  pub spent_first : fallback_weight p level w zero ≡ w zero
  unfolding fallback_weight
  spent_first = refl

  pub spent_passed : (i : ℕ) → test i ≡ true → fallback_weight p level w (suc i) ≡ w (suc i) +ε fallback_weight p level w i
  unfolding fallback_weight test
  spent_passed i t = ap (λ b. cond b (w (suc i) +ε fallback_weight p level w i) (w (suc i))) t

  pub spent_kept : (i : ℕ) → test i ≡ false → fallback_weight p level w (suc i) ≡ w (suc i)
  unfolding fallback_weight test
  spent_kept i f = ap (λ b. cond b (w (suc i) +ε fallback_weight p level w i) (w (suc i))) f

  -- ---- what the rule rejects, by ascending position

  unfoldable pub taken : ℕ → ℕ → List ℕ
  taken i zero = []
  taken i (suc c) = cond (test i) (i ∷ taken (suc i) c) (taken (suc i) c)

  taken_none : (i : ℕ) → taken i zero ≡ []
  unfolding taken
  taken_none i = refl

  taken_in : (i c : ℕ) → test i ≡ true → taken i (suc c) ≡ i ∷ taken (suc i) c
  unfolding taken
  taken_in i c t = ap (λ b. cond b (i ∷ taken (suc i) c) (taken (suc i) c)) t

  taken_out : (i c : ℕ) → test i ≡ false → taken i (suc c) ≡ taken (suc i) c
  unfolding taken
  taken_out i c f = ap (λ b. cond b (i ∷ taken (suc i) c) (taken (suc i) c)) f

  listed_tested : (c i j : ℕ) → IsListed (taken i c) j → (j < i + c) × (test j ≡ true)
  listed_tested zero i j h = absurd (true_not_false (sym h ∙ ap (λ js. set_of js j) (taken_none i)))
  listed_tested (suc c) i j h = elim (true_or_false (test i)) [
    | inl t ↦ elim (here_or_later i j (taken (suc i) c) (ap (λ js. set_of js j) (sym (taken_in i c t)) ∙ h)) [
      | inl e ↦ (omega (arith, e), ap test e ∙ t)
      | inr l ↦ further (listed_tested c (suc i) j l)
    ]
    | inr f ↦ further (listed_tested c (suc i) j (ap (λ js. set_of js j) (sym (taken_out i c f)) ∙ h))
  ]
    where
      further : (j < suc i + c) × (test j ≡ true) → (j < i + suc c) × (test j ≡ true)
      further r = (omega (arith, r.0), r.1)

  tested_listed : (c i j : ℕ) → i ≤ j → j < i + c → test j ≡ true → IsListed (taken i c) j
  tested_listed zero i j l h t = absurd (omega arith)
  tested_listed (suc c) i j l h t = elim (same_or_not j i) [
    | inl e ↦ ap (λ js. set_of js j) (taken_in i c (ap test (sym e) ∙ t))
        ∙ subst (λ k. IsListed (i ∷ taken (suc i) c) k) (sym e) (listed_here i (taken (suc i) c))
    | inr n ↦ elim (true_or_false (test i)) [
      | inl s ↦ ap (λ js. set_of js j) (taken_in i c s) ∙ listed_later i j (taken (suc i) c) (tested_listed c (suc i) j (omega arith) (omega arith) t)
      | inr f ↦ ap (λ js. set_of js j) (taken_out i c f) ∙ tested_listed c (suc i) j (omega arith) (omega arith) t
    ]
  ]

  -- ---- it is a complete legal order

  module _ (E : EntangledGraph) (V : IsValidEntangled E) (A : IsFallbackGraph w E) (plain : (i : ℕ) → i < E.hypotheses → limit (w i) ≡ w i) where
    own_finite : (i : ℕ) → i < E.hypotheses → IsFinite (w i)
    own_finite i h =
        let G = V.graph 0 (first_counts E V (chain_graph w) A) in
        let low : number_zero ≤ε (E.graph 0).weight i = subst (λ z. z ≤ε (E.graph 0).weight i) field_zero (G.weight_nonneg i h) in
        let high : (E.graph 0).weight i ≤ε number_one = subst (λ z. (E.graph 0).weight i ≤ε z) field_one
        (number_field.le_trans _ _ _ (term_le number_field E.hypotheses (E.graph 0).weight i G.weight_nonneg h) G.weight_total) in
        subst IsFinite (A.weight i h) (finite_between ((E.graph 0).weight i) (at_most_out number_zero _ low) (at_most_out _ number_one high))

    -- the weights that are left have no epsilon
    left_plain : (I : ℕ → Bool) (k : ℕ) → k < E.hypotheses → IsFinite (chain_weight number_field w I k)
        × (limit (chain_weight number_field w I k) ≡ chain_weight number_field w I k)
    left_plain I zero h = subst (λ x. IsFinite x × (limit x ≡ x)) (sym (weight_first number_field w I)) (own_finite 0 h, plain 0 h)
    left_plain I (suc k) h = elim (true_or_false (I k)) [
      | inl t ↦ subst (λ x. IsFinite x × (limit x ≡ x)) (sym (weight_kept number_field w I k t)) (own_finite (suc k) h, plain (suc k) h)
      | inr f ↦
          let before = left_plain I k (omega arith) in
          subst (λ x. IsFinite x × (limit x ≡ x)) (sym (weight_passed number_field w I k f ∙ field_sum (w (suc k)) (chain_weight number_field w I k))) (
            IsFinite-add (w (suc k)) (chain_weight number_field w I k) (own_finite (suc k) h) before.0,
            limit_add (w (suc k)) (chain_weight number_field w I k) (own_finite (suc k) h) before.0 ∙ ap₂ (λ x y. x +ε y) (plain (suc k) h) before.1,
          )
    ]

    chain_intersection : (I : ℕ → Bool) (k : ℕ) → IsIn E.hypotheses I k → IsIntersectionWeight E I k (chain_weight number_field w I k)
    chain_intersection I k q =
        subst (λ x. IsIntersectionWeight E I k x) (left_plain I k q.below).1
        (left_intersection E V (chain_graph w) A (chain_left number_field w) (chain_closed number_field E.hypotheses w) (chain_start E.hypotheses w) I k q)

    -- where exactly those that the rule rejects are removed before `k`, it has what the rule gives it
    spent_left : (I : ℕ → Bool) (k : ℕ) → ((i : ℕ) → i < k → I i ≡ not (test i))
        → chain_weight number_field w I k ≡ fallback_weight p level w k
    spent_left I zero before = weight_first number_field w I ∙ sym spent_first
    spent_left I (suc k) before = elim (true_or_false (test k)) [
      | inl t ↦ weight_passed number_field w I k (before k (omega arith) ∙ ap not t) ∙ field_sum (w (suc k)) (chain_weight number_field w I k)
          ∙ ap (λ z. w (suc k) +ε z) (spent_left I k (λ i h. before i (omega arith))) ∙ sym (spent_passed k t)
      | inr f ↦ weight_kept number_field w I k (before k (omega arith) ∙ ap not f) ∙ sym (spent_kept k f)
    ]

    spent_intersection : (I : ℕ → Bool) (k : ℕ) → IsIn E.hypotheses I k → ((i : ℕ) → i < k → I i ≡ not (test i))
        → IsIntersectionWeight E I k (fallback_weight p level w k)
    spent_intersection I k q before = subst (λ x. IsIntersectionWeight E I k x) (spent_left I k before) (chain_intersection I k q)

    legal_tested : (I : ℕ → Bool) (k : ℕ) → ((i : ℕ) → i < k → I i ≡ not (test i)) → IsLegal E p level I k → test k ≡ true
    unfolding test
    legal_tested I k before h = pass_tested (p k) (fallback_weight p level w k) level (legal_passes E p level I k _ h (spent_intersection I k h.member before))

    tested_legal : (I : ℕ → Bool) (k : ℕ) → IsIn E.hypotheses I k → ((i : ℕ) → i < k → I i ≡ not (test i)) → test k ≡ true
        → IsLegal E p level I k
    unfolding test
    tested_legal I k q before t = passes_legal E p level I k _ q (spent_intersection I k q before) (tested_pass (p k) (fallback_weight p level w k) level t)

    run_from : (c i : ℕ) (I : ℕ → Bool) → i + c ≡ E.hypotheses → ((k : ℕ) → k < i → I k ≡ not (test k))
        → ((k : ℕ) → i ≤ k → I k ≡ true) → IsRunBy (IsLegal E p level) I (taken i c)
    run_from zero i I e before behind = subst (IsRunBy (IsLegal E p level) I) (sym (taken_none i)) record { order = tt; complete = none }
      where
        none : (k : ℕ) → ¬ IsLegal E p level I k
        none k h =
            let below : k < i = omega (arith, e, h.member.below) in
            true_not_false (sym h.member.member ∙ before k below ∙ ap not (legal_tested I k (λ j l. before j (omega (arith, below, l))) h))
    run_from (suc c) i I e before behind = elim (true_or_false (test i)) [
      | inl t ↦
          let rest = run_from c (suc i) (dropping i I) (omega (arith, e)) (rejected t)
          (λ k l. dropping_other i I k (omega (arith, l)) ∙ behind k (omega (arith, l))) in
          subst (IsRunBy (IsLegal E p level) I) (sym (taken_in i c t))
          record {
            order = (tested_legal I i (record { below = omega (arith, e); member = behind i (omega arith) }) before t, rest.order);
            complete = rest.complete;
          }
      | inr f ↦ subst (IsRunBy (IsLegal E p level) I) (sym (taken_out i c f))
          (run_from c (suc i) I (omega (arith, e)) (kept f) (λ k l. behind k (omega (arith, l))))
    ]
      where
        rejected : test i ≡ true → (k : ℕ) → k < suc i → dropping i I k ≡ not (test k)
        rejected t k l = elim (same_or_not k i) [
          | inl q ↦ ap (dropping i I) q ∙ dropping_same i I ∙ sym (ap not (ap test q ∙ t))
          | inr n ↦ dropping_other i I k n ∙ before k (omega (arith, l, n))
        ]

        kept : test i ≡ false → (k : ℕ) → k < suc i → I k ≡ not (test k)
        kept f k l = elim (same_or_not k i) [
          | inl q ↦ behind k (omega (arith, q)) ∙ sym (ap not (ap test q ∙ f))
          | inr n ↦ before k (omega (arith, l, n))
        ]

    pub fallback_run : IsRunBy (IsLegal E p level) whole (taken 0 E.hypotheses)
    fallback_run = run_from E.hypotheses 0 whole (omega arith) (λ k h. absurd (omega (arith, h))) (λ k h. refl)

    pub fallback_decides : number_zero ≤ε level → (j : ℕ) → IsRejected E p level j ↔ IsFallbackRejected p level E.hypotheses w j
    unfolding test
    fallback_decides n j =
        let D = complete_decides E p level V n (taken 0 E.hypotheses) fallback_run.order fallback_run.complete j in (
          λ r. let t = listed_tested E.hypotheses 0 j (D.1 r) in
              record { below = omega (arith, t.0); passes = tested_pass (p j) (fallback_weight p level w j) level t.1 },
          λ r. D.0 (tested_listed E.hypotheses 0 j (omega arith) (omega (arith, r.below)) (pass_tested (p j) (fallback_weight p level w j) level r.passes)),
        )
