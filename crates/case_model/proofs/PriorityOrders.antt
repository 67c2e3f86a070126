-- The orders of the three priorities.
use Rattle.std.proofs.Common.{◌≡◌, ◌⊎◌, inl, inr, refl, sym, ap, ◌∙◌, subst, ℕ, zero, suc, ◌<◌, arith, Bool, List}
use Rattle.field_core.specs.Number.{Number}
use Rattle.field_core.specs.Arithmetic.{number_zero, ◌*ε◌, ◌/ε◌}
use Rattle.field_core.specs.Order.{◌≤ε◌, IsPositive}
use Rattle.field_core.specs.Sets.{IsIn}
use Rattle.field_core.specs.Runs.{left_after}
use Rattle.field_core.specs.Laws.AtMostLaws.{at_most_refl, at_most_equal, at_most_total, at_most_trans, at_most_antisymm, at_most_multiply_left}
use Rattle.field_core.specs.Laws.AtMostLaws.{at_most_or_above, at_most-compare, positive_or_not, positive-not_at_most, positive-at_least_zero, positive-nonzero}
use Rattle.field_core.specs.NumberField.{number_field}
use Rattle.field_core.specs.Laws.Order.{divide_multiply}
use Rattle.field_core.specs.Laws.NumberLaws.{number_multiply_comm}
use Rattle.field_core.proofs.Orders.{mul_le_cancel}
use Rattle.field_core.proofs.Live.{true_or_false, true_not_false}
use Rattle.case_model.specs.EntangledGraph.{EntangledGraph, IsValidEntangled}
use Rattle.case_model.specs.ClosedTest.{IsLegal}
use Rattle.case_model.specs.LegalOrder.{IsFirst, IsLast, IsRatio, IsLeastRatio, IsLegalOrder, IsComplete, IsLeastLegalRatio, IsFirstOrder, IsLastOrder}
use Rattle.case_model.specs.LegalOrder.{IsRatioOrder}
use Rattle.case_model.proofs.IntersectionLaws.{intersection_unique, intersection_exists}
use Rattle.case_model.proofs.RejectionOrders.{compared, below_or_not, at_or_below, order_by, run_unique, first_unique, last_unique, first_none, last_none}

-- ---- ratios

pub divided : (x u : Number) → IsPositive u → u *ε (x /ε u) ≡ x
divided x u h = number_multiply_comm u (x /ε u) ∙ divide_multiply x u (positive-nonzero u h)

cancelled : (u x y : Number) → IsPositive u → (u *ε x) ≤ε (u *ε y) → x ≤ε y
unfolding number_field
cancelled u x y h k = mul_le_cancel number_field u x y (positive-at_least_zero u h) (positive-nonzero u h) k

-- a ratio is at most a level where the p-value is at most the weight times it
pub ratio_at_most : (x u a : Number) → IsPositive u → x ≤ε (u *ε a) → (x /ε u) ≤ε a
ratio_at_most x u a h k = cancelled u (x /ε u) a h (subst (λ z. z ≤ε (u *ε a)) (sym (divided x u h)) k)

pub at_most_ratio : (x u a : Number) → IsPositive u → (x /ε u) ≤ε a → x ≤ε (u *ε a)
at_most_ratio x u a h k = subst (λ z. z ≤ε (u *ε a)) (divided x u h) (at_most_multiply_left (x /ε u) a u (positive-at_least_zero u h) k)

pub divided_order : (x y u : Number) → IsPositive u → x ≤ε y → (x /ε u) ≤ε (y /ε u)
divided_order x y u h k = ratio_at_most x u (y /ε u) h (subst (λ z. x ≤ε z) (sym (divided y u h)) k)

module _ (E : EntangledGraph) (p : ℕ → Number) (I : ℕ → Bool) where
  pub ratio_unique : (k : ℕ) (q r : Number) → IsRatio E p I k q → IsRatio E p I k r → q ≡ r
  ratio_unique k q r Q R = Q.ratio ∙ ap (λ u. p k /ε u) (intersection_unique E I k Q.weight R.weight Q.is_weight R.is_weight) ∙ sym R.ratio

  -- a ratio at most the level makes a hypothesis legal
  pub ratio_legal : (level : Number) (k : ℕ) (q : Number) → IsRatio E p I k q → q ≤ε level → IsLegal E p level I k
  ratio_legal level k q Q h = record {
    member = Q.member;
    weight = Q.weight;
    is_weight = Q.is_weight;
    passes = record { positive = Q.positive; small = at_most_ratio (p k) Q.weight level Q.positive (subst (λ z. z ≤ε level) Q.ratio h) };
  }

  -- a legal hypothesis has a ratio, which is at most the level
  pub legal_ratio : (level : Number) (k : ℕ) → IsLegal E p level I k → (q : Number) × IsRatio E p I k q × (q ≤ε level)
  legal_ratio level k h = (
    p k /ε h.weight,
    record { member = h.member; weight = h.weight; is_weight = h.is_weight; positive = h.passes.positive; ratio = refl },
    ratio_at_most (p k) h.weight level h.passes.positive h.passes.small,
  )

  pub legal_at_most : (level : Number) (k : ℕ) (q : Number) → IsRatio E p I k q → IsLegal E p level I k → q ≤ε level
  legal_at_most level k q Q h = let r = legal_ratio level k h in subst (λ z. z ≤ε level) (ratio_unique k r.0 q r.1 Q) r.2

  -- ---- the least ratio

  pub least_unique : (j k : ℕ) → IsLeastRatio E p I j → IsLeastRatio E p I k → j ≡ k
  least_unique j k L M = elim (compared j k) [
    | inl e ↦ e
    | inr c ↦ elim c [
      | inl h ↦ absurd (M.first j h (subst (IsRatio E p I j) same L.is_ratio))
      | inr h ↦ absurd (L.first k h (subst (IsRatio E p I k) (sym same) M.is_ratio))
    ]
  ]
    where
      same : L.ratio ≡ M.ratio
      same = at_most_antisymm L.ratio M.ratio (L.least k M.ratio M.is_ratio) (M.least j L.ratio L.is_ratio)

  -- what is legal makes the least ratio legal
  pub least_legal : (level : Number) (j k : ℕ) → IsLeastRatio E p I j → IsLegal E p level I k → IsLegal E p level I j
  least_legal level j k L h =
      let r = legal_ratio level k h in
      ratio_legal level j L.ratio L.is_ratio (at_most_trans L.ratio r.0 level (L.least k r.0 r.1) r.2)

  module _ (V : IsValidEntangled E) where
    -- a hypothesis has a ratio or none
    pub ratio_or_not : (k : ℕ) → ((q : Number) × IsRatio E p I k q) ⊎ ((q : Number) → ¬ IsRatio E p I k q)
    ratio_or_not k = elim (below_or_not k E.hypotheses) [
      | inr n ↦ inr (λ q Q. n Q.member.below)
      | inl b ↦ elim (true_or_false (I k)) [
        | inr f ↦ inr (λ q Q. true_not_false (sym Q.member.member ∙ f))
        | inl t ↦ by_weight (record { below = b; member = t })
      ]
    ]
      where
        by_weight : IsIn E.hypotheses I k → ((q : Number) × IsRatio E p I k q) ⊎ ((q : Number) → ¬ IsRatio E p I k q)
        by_weight m = let W = intersection_exists E V I k m in elim (positive_or_not W.0) [
          | inl h ↦ inl (p k /ε W.0, record { member = m; weight = W.0; is_weight = W.1; positive = h; ratio = refl })
          | inr n ↦ inr (λ q Q. positive-not_at_most Q.weight Q.positive
              (subst (λ z. z ≤ε number_zero) (intersection_unique E I k W.0 Q.weight W.1 Q.is_weight) n))
        ]

    -- the least ratio of the positions below `n`
    record IsLeastBelow (n : ℕ) (j : ℕ) : Type 0 where
      ratio : Number
      is_ratio : IsRatio E p I j ratio
      least : (k : ℕ) (q : Number) → k < n → IsRatio E p I k q → ratio ≤ε q
      first : (k : ℕ) → k < j → ¬ IsRatio E p I k ratio
      below : j < n

    -- `n` doesn't have a less one
    kept : (n j : ℕ) → (L : IsLeastBelow n j) → ((q : Number) → IsRatio E p I n q → L.ratio ≤ε q) → IsLeastBelow (suc n) j
    kept n j L up = record {
      ratio = L.ratio;
      is_ratio = L.is_ratio;
      least = λ k q h Q. elim (at_or_below k n h) [ inl e ↦ up q (subst (λ i. IsRatio E p I i q) e Q) | inr b ↦ L.least k q b Q ];
      first = L.first;
      below = omega (arith, L.below);
    }

    -- `n` has a less one than all before it
    taken : (n : ℕ) (q : Number) → IsRatio E p I n q → ((k : ℕ) (r : Number) → k < n → IsRatio E p I k r → ¬ (r ≤ε q))
        → IsLeastBelow (suc n) n
    taken n q Q above = record {
      ratio = q;
      is_ratio = Q;
      least = λ k r h R. elim (at_or_below k n h) [
        | inl e ↦ at_most_equal q r (ratio_unique n q r Q (subst (λ i. IsRatio E p I i r) e R))
        | inr b ↦ elim (at_most_total q r) [ inl u ↦ u | inr u ↦ absurd (above k r b R u) ]
      ];
      first = λ k h R. above k q h R (at_most_refl q);
      below = omega arith;
    }

    least_below : (n : ℕ) → ((j : ℕ) × IsLeastBelow n j) ⊎ ((k : ℕ) (q : Number) → k < n → ¬ IsRatio E p I k q)
    least_below zero = inr (λ k q h. absurd (omega arith))
    least_below (suc n) = elim (ratio_or_not n) [
      | inr none ↦ elim (least_below n) [
        | inl l ↦ inl (l.0, kept n l.0 l.1 (λ q Q. absurd (none q Q)))
        | inr none_has ↦ inr (λ k q h Q. elim (at_or_below k n h) [ inl e ↦ none q (subst (λ i. IsRatio E p I i q) e Q) | inr b ↦ none_has k q b Q ])
      ]
      | inl r ↦ elim (least_below n) [
        | inl l ↦ with_both n l.0 l.1 r.0 r.1
        | inr none_has ↦ inl (n, taken n r.0 r.1 (λ k q h Q. absurd (none_has k q h Q)))
      ]
    ]
      where
        with_both : (n j : ℕ) → IsLeastBelow n j → (q : Number) → IsRatio E p I n q → ((j : ℕ) × IsLeastBelow (suc n) j)
            ⊎ ((k : ℕ) (q : Number) → k < suc n → ¬ IsRatio E p I k q)
        with_both n j L q Q = elim (at_most_or_above L.ratio q) [
          | inl up ↦ inl (j, kept n j L (λ r R. subst (λ z. L.ratio ≤ε z) (ratio_unique n q r Q R) up))
          | inr g ↦ inl (n, taken n q Q (λ k r h R u. at_most-compare L.ratio q (at_most_trans L.ratio r q (L.least k r h R) u) g))
        ]

    -- where any hypothesis has a ratio, one has the least
    pub least_exists : (k : ℕ) (q : Number) → IsRatio E p I k q → (j : ℕ) × IsLeastRatio E p I j
    least_exists k q Q = elim (least_below E.hypotheses) [
      | inl l ↦ (l.0, record { ratio = l.1.ratio; is_ratio = l.1.is_ratio; least = λ i r R. l.1.least i r R.member.below R; first = l.1.first })
      | inr none_has ↦ absurd (none_has k q Q.member.below Q)
    ]

-- ---- the orders of the priorities

module _ (E : EntangledGraph) (p : ℕ → Number) (level : Number) where
  pub next_unique : (I : ℕ → Bool) (j k : ℕ) → IsLeastLegalRatio E p level I j → IsLeastLegalRatio E p level I k → j ≡ k
  next_unique I j k L M = least_unique E p I j k L.least M.least

  -- where the least ratio isn't legal, nothing is
  pub next_none : IsValidEntangled E → (I : ℕ → Bool) → ((j : ℕ) → ¬ IsLeastLegalRatio E p level I j) → (k : ℕ) → ¬ IsLegal E p level I k
  next_none V I none k h =
      let r = legal_ratio E p I level k h in
      let l = least_exists E p I V k r.0 r.1 in
      none l.0 (record { least = l.1; legal = least_legal E p I level l.0 k l.1 h })

  pub first_order : (I : ℕ → Bool) (js : List ℕ) → IsFirstOrder E p level I js → IsLegalOrder E p level I js × IsComplete E p level I js
  first_order I js r = (
    order_by (IsFirst (IsLegal E p level)) (IsLegal E p level) (λ J j f. f.allowed) js I r.order,
    first_none (IsLegal E p level) (left_after I js) r.complete,
  )

  pub last_order : (I : ℕ → Bool) (js : List ℕ) → IsLastOrder E p level I js → IsLegalOrder E p level I js × IsComplete E p level I js
  last_order I js r = (
    order_by (IsLast (IsLegal E p level)) (IsLegal E p level) (λ J j f. f.allowed) js I r.order,
    last_none (IsLegal E p level) E.hypotheses (left_after I js) (λ j h. h.member.below) r.complete,
  )

  pub ratio_order : IsValidEntangled E → (I : ℕ → Bool) (js : List ℕ) → IsRatioOrder E p level I js → IsLegalOrder E p level I js
      × IsComplete E p level I js
  ratio_order V I js r = (order_by (IsLeastLegalRatio E p level) (IsLegal E p level) (λ J j f. f.legal) js I r.order, next_none V (left_after I js) r.complete)

  pub first_order_unique : (I : ℕ → Bool) (js ks : List ℕ) → IsFirstOrder E p level I js → IsFirstOrder E p level I ks → js ≡ ks
  first_order_unique I js ks = run_unique (IsFirst (IsLegal E p level)) (first_unique (IsLegal E p level)) js ks I

  pub last_order_unique : (I : ℕ → Bool) (js ks : List ℕ) → IsLastOrder E p level I js → IsLastOrder E p level I ks → js ≡ ks
  last_order_unique I js ks = run_unique (IsLast (IsLegal E p level)) (last_unique (IsLegal E p level)) js ks I

  pub ratio_order_unique : (I : ℕ → Bool) (js ks : List ℕ) → IsRatioOrder E p level I js → IsRatioOrder E p level I ks → js ≡ ks
  ratio_order_unique I js ks = run_unique (IsLeastLegalRatio E p level) next_unique js ks I
