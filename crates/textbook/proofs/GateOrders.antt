-- What the rule of parallel gatekeeping rejects is a complete legal order on its graph: first primary hypotheses, then secondary ones by ascending p-value.
use Rattle.std.proofs.Common.{◌≡◌, ◌↔◌, inl, inr, refl, sym, ap, ap₂, ◌∙◌, subst, ℕ, zero, suc, ◌+◌, ◌-◌, ◌<◌, ◌≤◌, arith, Bool, true, false, cond, not}
use Rattle.std.proofs.Common.{if◌then◌else◌, List, [], ◌∷◌, length, map, pos}
use Rattle.field_core.specs.Number.{Number}
use Rattle.field_core.specs.Arithmetic.{number_zero, ◌*ε◌}
use Rattle.field_core.specs.Order.{◌≤ε◌, at_most, IsPositive}
use Rattle.field_core.specs.Fractions.{one_over}
use Rattle.field_core.specs.Limit.{limit}
use Rattle.field_core.specs.Sets.{IsIn, dropping, whole, size_of}
use Rattle.field_core.specs.Laws.AtMostLaws.{at_most_trans, positive-nonzero, positive-product, at_most_refl}
use Rattle.field_core.specs.Laws.LimitLaws.{limit-fraction, limit_multiply, IsFinite-fraction}
use Rattle.field_core.specs.Laws.Order.{number_laws}
use Rattle.field_core.proofs.Live.{dropping_same, dropping_other, live_before, live_other, true_or_false, true_not_false}
use Rattle.field_core.proofs.Positions.{at_or_below, below_or_above}
use Rattle.field_core.proofs.Sizes.{size_none, size_next, size_in, size_within}
use Rattle.field_core.proofs.UnitFractions.{one_over_plain, one_over_positive}
use Rattle.field_core.proofs.UnitLimits.{suc_not_zero, limit_zero}
use Rattle.case_model.specs.EntangledGraph.{EntangledGraph, IsValidEntangled}
use Rattle.case_model.specs.IntersectionWeight.{IsIntersectionWeight}
use Rattle.case_model.specs.ClosedTest.{Passes, IsLegal, IsRejected}
use Rattle.case_model.specs.LegalOrder.{IsListed, IsRunBy}
use Rattle.case_model.specs.TextbookRules.{IsByPValue, by_p_value, IsHolmRejected}
use Rattle.case_model.proofs.ClosedTestLaws.{legal_passes, passes_legal, complete_decides}
use Rattle.case_model.proofs.RejectionOrders.{listed_here, listed_later, here_or_later}
use Rattle.case_model.proofs.AloneGraphs.{left_intersection}
use Rattle.case_model.proofs.ByPValue.{IsDistinct, by_p_value_length, by_p_value_below, by_p_value_all, by_p_value_distinct, by_p_value_ordered}
use Rattle.case_model.proofs.HolmOrders.{stepped_down, down_none, down_on, down_stop}
use Rattle.case_model.proofs.HolmNumbers.{rejected_stepped}
use Rattle.textbook.specs.Gatekeeping.{gatekeeping_graph, IsGatekeepingGraph, is_small, rejected_primaries, IsSecondaryRejected}
use Rattle.textbook.specs.Gatekeeping.{IsGatekeepingRejected}
use Rattle.textbook.proofs.GateShares.{seconds, seconds_less}
use Rattle.textbook.proofs.GateLeft.{parts, parts_none, parts_positive, nothing_of, left, left_closed, left_first, left_second, gate_start}

-- ---- how many primary hypotheses are rejected

-- those of a set and those of its complement are all
complements : (n : ℕ) (S T : ℕ → Bool) → ((i : ℕ) → i < n → T i ≡ not (S i)) → size_of n S + size_of n T ≡ n
complements zero S T h = rw (size_none S, size_none T) (omega arith)
complements (suc n) S T h =
    let ih = complements n S T (λ i q. h i (omega arith)) in
    elim (true_or_false (S n)) [
      | inl t ↦ rw (size_next n S, size_next n T, h n (omega arith), t) (omega (arith, ih))
      | inr f ↦ rw (size_next n S, size_next n T, h n (omega arith), f) (omega (arith, ih))
    ]

-- all positions from `a` on
all_from : (a d : ℕ) (I : ℕ → Bool) → ((i : ℕ) → a ≤ i → i < a + d → I i ≡ true) → size_of (a + d) I ≡ size_of a I + d
all_from a zero I h = let e : a + 0 ≡ a = omega arith in ap (λ n. size_of n I) e ∙ sym (zero_more (size_of a I))
  where
    zero_more : (n : ℕ) → n + 0 ≡ n
    zero_more n = omega arith
all_from a (suc d) I h =
    let ih = all_from a d I (λ i p q. h i p (omega (arith, q))) in
    let last : I (a + d) ≡ true = h (a + d) (omega arith) (omega arith) in
    let next : a + suc d ≡ suc (a + d) = omega arith in
    let one : size_of (suc (a + d)) I ≡ size_of (a + d) I + 1 = size_in (a + d) I last in
    ap (λ n. size_of n I) next ∙ one ∙ sum (size_of (a + d) I) (size_of a I) d ih
  where
    sum : (x y d : ℕ) → x ≡ y + d → x + 1 ≡ y + suc d
    sum x y d e = omega (arith, e)

-- ---- lists of secondary hypotheses

abbrev shifted : ℕ → List ℕ → List ℕ
shifted a js = map (λ i. a + i) js

listed_shifted : (a : ℕ) (js : List ℕ) (i : ℕ) → IsListed js i → IsListed (shifted a js) (a + i)
listed_shifted a [] i h = absurd (cc)
listed_shifted a (j ∷ js) i h = elim (here_or_later j i js h) [
  | inl e ↦ subst (λ k. IsListed (shifted a (j ∷ js)) (a + k)) (sym e) (listed_here (a + j) (shifted a js))
  | inr l ↦ listed_later (a + j) (a + i) (shifted a js) (listed_shifted a js i l)
]

shifted_listed : (a : ℕ) (js : List ℕ) (k : ℕ) → IsListed (shifted a js) k → (i : ℕ) × (k ≡ a + i) × IsListed js i
shifted_listed a [] k h = absurd (cc)
shifted_listed a (j ∷ js) k h = elim (here_or_later (a + j) k (shifted a js) h) [
  | inl e ↦ (j, e, listed_here j js)
  | inr l ↦ let x = shifted_listed a js k l in (x.0, x.1, listed_later j x.0 js x.2)
]

-- ---- the order

module _ (p : ℕ → Number) (level : Number) (a b : ℕ) where
  -- the p-values of the secondary hypotheses
  abbrev second_p : ℕ → Number
  second_p i = p (a + i)

  -- the secondary hypotheses that are rejected where `r` primary ones are, by ascending p-value
  abbrev second_order : ℕ → List ℕ
  second_order zero = []
  second_order (suc r) = shifted a (stepped_down second_p (parts a (suc r) *ε level) (by_p_value second_p b))

  -- the primary hypotheses below `n` that are rejected, and then the secondary ones
  unfoldable gate_order : ℕ → List ℕ
  gate_order zero = second_order (rejected_primaries p level a b)
  gate_order (suc n) = if is_small p level a b n then n ∷ gate_order n else gate_order n

  order_none : gate_order zero ≡ second_order (rejected_primaries p level a b)
  unfolding gate_order
  order_none = refl

  order_on : (n : ℕ) → is_small p level a b n ≡ true → gate_order (suc n) ≡ n ∷ gate_order n
  unfolding gate_order
  order_on n t = ap (λ t. cond t (n ∷ gate_order n) (gate_order n)) t

  order_past : (n : ℕ) → is_small p level a b n ≡ false → gate_order (suc n) ≡ gate_order n
  unfolding gate_order
  order_past n f = ap (λ t. cond t (n ∷ gate_order n) (gate_order n)) f

  -- ---- what is on it

  second_listed : (r j : ℕ) → r ≡ rejected_primaries p level a b → IsListed (second_order r) j → IsSecondaryRejected p level a b j
  second_listed zero j e h = absurd (cc)
  second_listed (suc r) j e h =
      let x = shifted_listed a (stepped_down second_p (parts a (suc r) *ε level) (by_p_value second_p b)) j h in
      record {
        place = x.0;
        is_place = x.1;
        some = omega (arith, e);
        holm = subst (λ n. IsHolmRejected second_p (parts a n *ε level) b x.0) e ((rejected_stepped second_p (parts a (suc r) *ε level) b x.0).0 x.2);
      }

  second_rejected : (r j : ℕ) → r ≡ rejected_primaries p level a b → IsSecondaryRejected p level a b j → IsListed (second_order r) j
  second_rejected zero j e h = absurd (let s = h.some in omega (arith, e, s))
  second_rejected (suc r) j e h =
      subst (λ k. IsListed (second_order (suc r)) k) (sym h.is_place)
      (listed_shifted a (stepped_down second_p (parts a (suc r) *ε level) (by_p_value second_p b)) h.place
      ((rejected_stepped second_p (parts a (suc r) *ε level) b h.place).1
      (subst (λ n. IsHolmRejected second_p (parts a n *ε level) b h.place) (sym e) h.holm)))

  listed_rejected : (n j : ℕ) → n ≤ a → IsListed (gate_order n) j → IsGatekeepingRejected p level a b j
  listed_rejected zero j w h =
      inr (second_listed (rejected_primaries p level a b) j refl (subst (λ ks. IsListed ks j) order_none h))
  listed_rejected (suc n) j w h = elim (true_or_false (is_small p level a b n)) [
    | inl t ↦ elim (here_or_later n j (gate_order n) (subst (λ ks. IsListed ks j) (order_on n t) h)) [
      | inl e ↦ inl record { primary = omega (arith, w, e); small = subst (λ i. is_small p level a b i ≡ true) (sym e) t }
      | inr l ↦ listed_rejected n j (omega (arith, w)) l
    ]
    | inr f ↦ listed_rejected n j (omega (arith, w)) (subst (λ ks. IsListed ks j) (order_past n f) h)
  ]

  later_listed : (n j : ℕ) → IsListed (gate_order n) j → IsListed (gate_order (suc n)) j
  later_listed n j h = elim (true_or_false (is_small p level a b n)) [
    | inl t ↦ subst (λ ks. IsListed ks j) (sym (order_on n t)) (listed_later n j (gate_order n) h)
    | inr f ↦ subst (λ ks. IsListed ks j) (sym (order_past n f)) h
  ]

  primary_listed : (n j : ℕ) → j < n → is_small p level a b j ≡ true → IsListed (gate_order n) j
  primary_listed zero j h t = absurd (omega (arith, h))
  primary_listed (suc n) j h t = elim (at_or_below j n h) [
    | inl e ↦ subst (λ ks. IsListed ks j) (sym (order_on n (subst (λ i. is_small p level a b i ≡ true) e t)))
        (subst (λ i. IsListed (n ∷ gate_order n) i) (sym e) (listed_here n (gate_order n)))
    | inr q ↦ later_listed n j (primary_listed n j q t)
  ]

  secondary_listed : (n j : ℕ) → IsSecondaryRejected p level a b j → IsListed (gate_order n) j
  secondary_listed zero j h = subst (λ ks. IsListed ks j) (sym order_none) (second_rejected (rejected_primaries p level a b) j refl h)
  secondary_listed (suc n) j h = later_listed n j (secondary_listed n j h)

  order_listed : (j : ℕ) → IsListed (gate_order a) j ↔ IsGatekeepingRejected p level a b j
  order_listed j = (
    λ h. listed_rejected a j (omega arith) h,
    λ h. elim h [ inl q ↦ primary_listed a j q.primary q.small | inr q ↦ secondary_listed a j q ],
  )

  -- ---- it is legal, and complete

  module _ (E : EntangledGraph) (V : IsValidEntangled E) (A : IsGatekeepingGraph a b E) where
    within : a ≤ E.hypotheses
    within = omega (arith, A.families)

    -- how many secondary hypotheses a set has
    abbrev still : (ℕ → Bool) → ℕ
    still I = seconds a E.hypotheses (omega (arith, A.families)) I

    left_weight : (I : ℕ → Bool) (k : ℕ) → IsIn E.hypotheses I k
        → IsIntersectionWeight E I k (limit ((left a E.hypotheses (omega (arith, A.families)) I).weight k))
    left_weight =
        left_intersection E V (gatekeeping_graph a b) A.graph (left a E.hypotheses (omega (arith, A.families)))
        (left_closed a E.hypotheses (omega (arith, A.families))) (gate_start a b E.hypotheses A.families (omega (arith, A.families)))

    -- a primary hypothesis keeps its weight
    primary_weight : (I : ℕ → Bool) (k d : ℕ) → a ≡ suc d → k < a → IsIn E.hypotheses I k → IsIntersectionWeight E I k (one_over a)
    primary_weight I k d e h q =
        subst (λ x. IsIntersectionWeight E I k x)
        (ap limit (left_first a E.hypotheses (omega (arith, A.families)) I k h) ∙ ap (λ n. limit (one_over n)) e ∙ one_over_plain d ∙ ap one_over (sym e))
        (left_weight I k q)

    product_plain : (r d n : ℕ) → limit (parts (suc d) r *ε one_over (suc n)) ≡ parts (suc d) r *ε one_over (suc n)
    product_plain r d n =
        limit_multiply (parts (suc d) r) (one_over (suc n)) (IsFinite-fraction (pos r) (pos (suc d)) (suc_not_zero d))
        (IsFinite-fraction (pos 1) (pos (suc n)) (suc_not_zero n))
        ∙ ap₂ (λ x y. x *ε y) (limit-fraction (pos r) (pos (suc d)) (suc_not_zero d)) (one_over_plain n)

    -- the secondary ones share what the rejected primary ones had
    secondary_weight : (I : ℕ → Bool) (k d n : ℕ) → a ≡ suc d → a ≤ k → still I ≡ suc n → IsIn E.hypotheses I k
        → IsIntersectionWeight E I k (parts a (a - size_of a I) *ε one_over (suc n))
    secondary_weight I k d n e h s q =
        subst (λ x. IsIntersectionWeight E I k x)
        (ap limit (left_second a E.hypotheses (omega (arith, A.families)) I k h)
        ∙ ap₂ (λ x y. limit (parts x (a - size_of a I) *ε one_over y)) e s ∙ product_plain (a - size_of a I) d n
        ∙ ap (λ x. parts x (a - size_of a I) *ε one_over (suc n)) (sym e))
        (left_weight I k q)

    -- while no primary one is rejected they have none
    secondary_without : (I : ℕ → Bool) (k : ℕ) → a ≤ k → a - size_of a I ≡ 0 → IsIn E.hypotheses I k → IsIntersectionWeight E I k number_zero
    secondary_without I k h e q =
        subst (λ x. IsIntersectionWeight E I k x)
        (ap limit (left_second a E.hypotheses (omega (arith, A.families)) I k h ∙ ap (λ z. z *ε one_over (still I)) (ap (parts a) e ∙ parts_none a)
        ∙ nothing_of (one_over (still I))) ∙ limit_zero)
        (left_weight I k q)

    -- a primary hypothesis whose p-value isn't small isn't legal
    not_primary : (I : ℕ → Bool) (k : ℕ) → k < a → is_small p level a b k ≡ false → ¬ IsLegal E p level I k
    not_primary I k h f L =
        true_not_false (sym (legal_passes E p level I k (one_over a) L (primary_weight I k (a - 1) (omega (arith, h)) h L.member)).small ∙ f)

    -- the members of the first family are those that the rule doesn't reject
    abbrev AreFirstLeft : (ℕ → Bool) → Type 0
    AreFirstLeft I = (i : ℕ) → i < a → I i ≡ not (is_small p level a b i)

    not_first : (I : ℕ → Bool) (k : ℕ) → AreFirstLeft I → k < a → ¬ IsLegal E p level I k
    not_first I k F h L = elim (true_or_false (is_small p level a b k)) [
      | inl t ↦ true_not_false (sym L.member.member ∙ F k h ∙ ap not t)
      | inr f ↦ not_primary I k h f L
    ]

    as_many : (I : ℕ → Bool) → AreFirstLeft I → a - size_of a I ≡ rejected_primaries p level a b
    as_many I F = let e = complements a (is_small p level a b) I F in omega (arith, e)

    -- ---- the secondary hypotheses

    -- `I` has just the secondary hypotheses of a list, and the primary ones that the rule doesn't reject
    record Remain (js : List ℕ) (I : ℕ → Bool) : Type 0 where
      first : AreFirstLeft I
      each : (i : ℕ) → IsListed js i → IsIn E.hypotheses I (a + i)
      all : (i : ℕ) → IsIn E.hypotheses I (a + i) → IsListed js i
      distinct : IsDistinct js
      ordered : IsByPValue second_p js
      size : still I ≡ length js

    next_remain : (j : ℕ) (js : List ℕ) (I : ℕ → Bool) → Remain (j ∷ js) I → Remain js (dropping (a + j) I)
    next_remain j js I R = record {
      first = λ i h. dropping_other (a + j) I i (λ e. absurd (omega (arith, h, e))) ∙ R.first i h;
      each = λ i l.
          let q : IsIn E.hypotheses I (a + i) = R.each i (listed_later j i js l) in
          record {
            below = q.below;
            member = dropping_other (a + j) I (a + i) (λ e. R.distinct.0 (subst (λ n. IsListed js n) (omega (arith, e)) l)) ∙ q.member;
          };
      all = λ i q. elim (here_or_later j i js (R.all i (live_before (a + j) I q))) [
        | inl e ↦ absurd (live_other (a + j) I q (ap (λ n. a + n) e))
        | inr l ↦ l
      ];
      distinct = R.distinct.1;
      ordered = R.ordered.1;
      size =
          let e = seconds_less a E.hypotheses (omega (arith, A.families)) I (a + j) (R.each j (listed_here j js)) (omega arith) in
          let s : still I ≡ suc (length js) = R.size in
          omega (arith, e, s);
    }

    regrouped : (x y z : Number) → (x *ε y) *ε z ≡ y *ε (x *ε z)
    regrouped x y z = simp number_laws

    -- (`r` primary hypotheses are rejected.)
    module _ (r d : ℕ) (some : suc r ≡ rejected_primaries p level a b) (e : a ≡ suc d) where
      abbrev given : Number
      given = parts a (suc r) *ε level

      weight_of : (js : List ℕ) (j : ℕ) (I : ℕ → Bool) (k : ℕ) → Remain (j ∷ js) I → a ≤ k → IsIn E.hypotheses I k
          → IsIntersectionWeight E I k (parts a (suc r) *ε one_over (suc (length js)))
      weight_of js j I k R h q =
          subst (λ n. IsIntersectionWeight E I k (parts a n *ε one_over (suc (length js)))) (as_many I R.first ∙ sym some)
          (secondary_weight I k d (length js) e h R.size q)

      legal_second : (js : List ℕ) (j : ℕ) (I : ℕ → Bool) → Remain (j ∷ js) I → at_most (second_p j) (one_over (length (j ∷ js)) *ε given) ≡ true
          → IsLegal E p level I (a + j)
      legal_second js j I R t =
          let q : IsIn E.hypotheses I (a + j) = R.each j (listed_here j js) in
          passes_legal E p level I (a + j) (parts a (suc r) *ε one_over (suc (length js))) q (weight_of js j I (a + j) R (omega arith) q)
          record {
            positive = positive-product (parts a (suc r)) (one_over (suc (length js)))
                (subst (λ n. IsPositive (parts n (suc r))) (sym e) (parts_positive d r)) (one_over_positive (length js));
            small = subst (λ x. p (a + j) ≤ε x) (sym (regrouped (parts a (suc r)) (one_over (suc (length js))) level)) t;
          }

      none_legal : (js : List ℕ) (j : ℕ) (I : ℕ → Bool) → Remain (j ∷ js) I → at_most (second_p j) (one_over (length (j ∷ js)) *ε given) ≡ false
          → (k : ℕ) → ¬ IsLegal E p level I k
      none_legal js j I R f k L = elim (below_or_above k a) [
        | inl h ↦ not_first I k R.first h L
        | inr h ↦
            let i : ℕ = k - a in
            let at : k ≡ a + i = omega (arith, h) in
            let passes : Passes (p k) (parts a (suc r) *ε one_over (suc (length js))) level =
            legal_passes E p level I k (parts a (suc r) *ε one_over (suc (length js))) L (weight_of js j I k R h L.member) in
            let small : p k ≤ε (one_over (suc (length js)) *ε given) =
            subst (λ x. p k ≤ε x) (regrouped (parts a (suc r)) (one_over (suc (length js))) level) passes.small in
            let listed : IsListed (j ∷ js) i = R.all i (subst (λ n. IsIn E.hypotheses I n) at L.member) in
            true_not_false (sym (at_most_trans (second_p j) (p k) (one_over (suc (length js)) *ε given)
            (subst (λ n. second_p j ≤ε p n) (sym at) (least i listed)) small) ∙ f)
      ]
        where
          least : (i : ℕ) → IsListed (j ∷ js) i → second_p j ≤ε second_p i
          least i l = elim (here_or_later j i js l) [
            | inl e ↦ subst (λ n. second_p j ≤ε second_p n) (sym e) (at_most_refl (second_p j))
            | inr q ↦ (R.ordered.0 i q).not_above
          ]

      second_run : (js : List ℕ) (I : ℕ → Bool) → Remain js I → IsRunBy (IsLegal E p level) I (shifted a (stepped_down second_p given js))
      second_run [] I R = subst (λ ks. IsRunBy (IsLegal E p level) I (shifted a ks)) (sym (down_none second_p given)) record {
        order = tt;
        complete = λ k L. elim (below_or_above k a) [
          | inl h ↦ not_first I k R.first h L
          | inr h ↦ absurd (nothing (k - a) (R.all (k - a) (subst (λ n. IsIn E.hypotheses I n) (omega (arith, h)) L.member)))
        ];
      }
        where
          nothing : (k : ℕ) → ¬ IsListed [] k
          nothing k l = cc
      second_run (j ∷ js) I R = elim (true_or_false (at_most (second_p j) (one_over (length (j ∷ js)) *ε given))) [
        | inl t ↦
            let rest = second_run js (dropping (a + j) I) (next_remain j js I R) in
            subst (λ ks. IsRunBy (IsLegal E p level) I (shifted a ks)) (sym (down_on second_p given j js t))
            record { order = (legal_second js j I R t, rest.order); complete = rest.complete }
        | inr f ↦ subst (λ ks. IsRunBy (IsLegal E p level) I (shifted a ks)) (sym (down_stop second_p given j js f))
            record { order = tt; complete = none_legal js j I R f }
      ]

    -- ---- the primary hypotheses

    -- `I` has the primary hypotheses below `n`, those from `n` on that the rule doesn't reject, and the secondary ones
    record IsBegun (n : ℕ) (I : ℕ → Bool) : Type 0 where
      before : (i : ℕ) → i < n → I i ≡ true
      after : (i : ℕ) → n ≤ i → i < a → I i ≡ not (is_small p level a b i)
      second : (i : ℕ) → a ≤ i → i < E.hypotheses → I i ≡ true

    begun_remain : (I : ℕ → Bool) → IsBegun zero I → Remain (by_p_value second_p b) I
    begun_remain I B = record {
      first = first;
      each = λ i l. let h : i < b = by_p_value_below second_p b i l in
          record { below = omega (arith, A.families, h); member = B.second (a + i) (omega arith) (omega (arith, A.families, h)) };
      all = λ i q. by_p_value_all second_p b i (omega (arith, A.families, q.below));
      distinct = by_p_value_distinct second_p b;
      ordered = by_p_value_ordered second_p b;
      size = count ∙ sym (by_p_value_length second_p b);
    }
      where
        first : AreFirstLeft I
        first i h = B.after i (omega arith) h

        count : still I ≡ b
        count =
            let all = all_from a b I (λ i h g. B.second i h (omega (arith, A.families, g))) in
            let same : size_of E.hypotheses I ≡ size_of (a + b) I = ap (λ n. size_of n I) A.families in
            omega (arith, all, same)

    last_run : (r : ℕ) (I : ℕ → Bool) → r ≡ rejected_primaries p level a b → IsBegun zero I → IsRunBy (IsLegal E p level) I (second_order r)
    last_run zero I e B = record {
      order = tt;
      complete = λ k L. elim (below_or_above k a) [
        | inl h ↦ not_first I k R.first h L
        | inr h ↦
            let passes : Passes (p k) number_zero level =
            legal_passes E p level I k number_zero L (secondary_without I k h (as_many I R.first ∙ sym e) L.member) in
            positive-nonzero number_zero passes.positive refl
      ];
    }
      where
        R : Remain (by_p_value second_p b) I
        R = begun_remain I B
    last_run (suc r) I e B =
        let within : suc r ≤ a = let w = size_within a (is_small p level a b) in omega (arith, e, w) in
        second_run r (a - 1) e (omega (arith, within)) (by_p_value second_p b) I (begun_remain I B)

    run_from : (n : ℕ) (I : ℕ → Bool) → n ≤ a → IsBegun n I → IsRunBy (IsLegal E p level) I (gate_order n)
    run_from zero I w B = subst (IsRunBy (IsLegal E p level) I) (sym order_none) (last_run (rejected_primaries p level a b) I refl B)
    run_from (suc n) I w B = elim (true_or_false (is_small p level a b n)) [
      | inl t ↦
          let q : IsIn E.hypotheses I n = record { below = omega (arith, w, A.families); member = B.before n (omega arith) } in
          let legal : IsLegal E p level I n =
          passes_legal E p level I n (one_over a) q (primary_weight I n (a - 1) (omega (arith, w)) (omega (arith, w)) q)
          record { positive = subst (λ k. IsPositive (one_over k)) (omega (arith, w)) (one_over_positive (a - 1)); small = t } in
          let rest = run_from n (dropping n I) (omega (arith, w)) (dropped n I t w B) in
          subst (IsRunBy (IsLegal E p level) I) (sym (order_on n t)) record { order = (legal, rest.order); complete = rest.complete }
      | inr f ↦ subst (IsRunBy (IsLegal E p level) I) (sym (order_past n f)) (run_from n I (omega (arith, w)) (passed n I f B))
    ]
      where
        passed : (n : ℕ) (I : ℕ → Bool) → is_small p level a b n ≡ false → IsBegun (suc n) I → IsBegun n I
        passed n I f B = record {
          before = λ i h. B.before i (omega (arith, h));
          after = λ i h g. elim (below_or_above i (suc n)) [
            | inl q ↦
                let e : i ≡ n = omega (arith, h, q) in
                subst (λ k. I k ≡ not (is_small p level a b k)) (sym e) (B.before n (omega arith) ∙ sym (ap not f))
            | inr q ↦ B.after i q g
          ];
          second = B.second;
        }

        dropped : (n : ℕ) (I : ℕ → Bool) → is_small p level a b n ≡ true → suc n ≤ a → IsBegun (suc n) I → IsBegun n (dropping n I)
        dropped n I t w B = record {
          before = λ i h. dropping_other n I i (λ e. absurd (omega (arith, h, e))) ∙ B.before i (omega (arith, h));
          after = λ i h g. elim (below_or_above i (suc n)) [
            | inl q ↦
                let e : i ≡ n = omega (arith, h, q) in
                subst (λ k. dropping n I k ≡ not (is_small p level a b k)) (sym e) (dropping_same n I ∙ sym (ap not t))
            | inr q ↦ dropping_other n I i (λ e. absurd (omega (arith, q, e))) ∙ B.after i q g
          ];
          second = λ i h g. dropping_other n I i (λ e. absurd (omega (arith, h, w, e))) ∙ B.second i h g;
        }

    -- the closed test rejects what the rule rejects
    pub gatekeeping_decides : number_zero ≤ε level → (j : ℕ) → IsRejected E p level j ↔ IsGatekeepingRejected p level a b j
    gatekeeping_decides low j =
        let run = run_from a whole (omega arith) (record {
          before = λ i h. refl;
          after = λ i h g. absurd (omega (arith, h, g));
          second = λ i h g. refl;
        }) in
        let D = complete_decides E p level V low (gate_order a) run.order run.complete j in
        let L = order_listed j in
        (λ h. L.0 (D.1 h), λ h. D.0 (L.1 h))
