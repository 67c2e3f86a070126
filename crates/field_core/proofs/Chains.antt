-- Chains: each hypothesis passes all its weight to the next one that remains.
use Rattle.std.proofs.Common.{◌≡◌, ◌≢◌, ◌⊎◌, inl, inr, refl, sym, ap, ap₂, ◌∙◌, subst, ℕ, zero, suc, ◌<◌, ◌≤◌, arith}
use Rattle.std.proofs.Common.{Bool, true, false, cond}
use Rattle.field_core.specs.Field.{OrderedField, AtMost}
use Rattle.field_core.specs.Sums.{sum_below, unit}
use Rattle.field_core.specs.Graph.{Graph, IsValid}
use Rattle.field_core.specs.Removal.{without}
use Rattle.field_core.specs.Sets.{IsIn, HaveSameMembers, dropping}
use Rattle.field_core.proofs.FieldLaws.{ring, add_zero, zero_add, mul_one, one_mul, mul_zero, zero_mul, add_assoc}
use Rattle.field_core.proofs.Orders.{le_of_eq, eq_le, zero_le_one}
use Rattle.field_core.proofs.SumLaws.{sum_congr, sum_zero, unit_same, unit_other, unit_nonneg, unit_total}
use Rattle.field_core.proofs.RemovalLaws.{same_or_not, weight_other}
use Rattle.field_core.proofs.Live.{dropping_same, dropping_other, live_other, true_or_false}
use Rattle.field_core.proofs.Agreement.{Agrees, edge_other}
use Rattle.field_core.proofs.Positions.{below_or_not}
use Rattle.field_core.proofs.ClosedForms.{IsClosedForm}

before_or_after : (j l : ℕ) → (j ≤ l) ⊎ (l ≤ j)
before_or_after j l = grind arith

module _ {K : Type 0} (F : OrderedField K) where
  open F use {𝟘, 𝟙, ◌⊕◌, ◌⊗◌, negate, invert}

  -- the weight of `k` where `I` remains: its own, and those of the removed ones just before it
  unfoldable pub chain_weight : (ℕ → K) → (ℕ → Bool) → ℕ → K
  chain_weight w I zero = w zero
  chain_weight w I (suc k) = cond (I k) (w (suc k)) (w (suc k) ⊕ chain_weight w I k)

  -- the edge from `l` to `k` where `I` remains: 1 to the next one that remains, else 0
  unfoldable pub chain_edge : (ℕ → Bool) → ℕ → ℕ → K
  chain_edge I l zero = 𝟘
  chain_edge I l (suc k) = cond (I k) (unit F l k) (chain_edge I l k)

  pub weight_first : (w : ℕ → K) (I : ℕ → Bool) → chain_weight w I zero ≡ w zero
  unfolding chain_weight
  weight_first w I = refl

  pub weight_kept : (w : ℕ → K) (I : ℕ → Bool) (k : ℕ) → I k ≡ true → chain_weight w I (suc k) ≡ w (suc k)
  unfolding chain_weight
  weight_kept w I k t = rw t

  pub weight_passed : (w : ℕ → K) (I : ℕ → Bool) (k : ℕ) → I k ≡ false → chain_weight w I (suc k) ≡ w (suc k) ⊕ chain_weight w I k
  unfolding chain_weight
  weight_passed w I k f = ap (λ b. cond b (w (suc k)) (w (suc k) ⊕ chain_weight w I k)) f

  pub edge_first : (I : ℕ → Bool) (l : ℕ) → chain_edge I l zero ≡ 𝟘
  unfolding chain_edge
  edge_first I l = refl

  pub edge_kept : (I : ℕ → Bool) (l k : ℕ) → I k ≡ true → chain_edge I l (suc k) ≡ unit F l k
  unfolding chain_edge
  edge_kept I l k t = rw t

  pub edge_passed : (I : ℕ → Bool) (l k : ℕ) → I k ≡ false → chain_edge I l (suc k) ≡ chain_edge I l k
  unfolding chain_edge
  edge_passed I l k f = ap (λ b. cond b (unit F l k) (chain_edge I l k)) f

  -- nothing goes back
  pub edge_back : (I : ℕ → Bool) (l k : ℕ) → k ≤ l → chain_edge I l k ≡ 𝟘
  edge_back I l zero h = edge_first I l
  edge_back I l (suc k) h = elim (true_or_false (I k)) [
    | inl t ↦ edge_kept I l k t ∙ unit_other F l k (omega arith)
    | inr f ↦ edge_passed I l k f ∙ edge_back I l k (omega arith)
  ]

  pub weight_same : (m : ℕ) (w : ℕ → K) (I J : ℕ → Bool) (k : ℕ) → HaveSameMembers m I J → k < m → chain_weight w I k ≡ chain_weight w J k
  weight_same m w I J zero same h = weight_first w I ∙ sym (weight_first w J)
  weight_same m w I J (suc k) same h = elim (true_or_false (I k)) [
    | inl t ↦ weight_kept w I k t ∙ sym (weight_kept w J k (sym (same k (omega arith)) ∙ t))
    | inr f ↦ weight_passed w I k f ∙ ap (λ z. w (suc k) ⊕ z) (weight_same m w I J k same (omega arith))
        ∙ sym (weight_passed w J k (sym (same k (omega arith)) ∙ f))
  ]

  -- ---- bare algebra

  no_part : (a b : K) → a ≡ a ⊕ b ⊗ 𝟘
  no_part a b = simp ring

  all_part : (a b : K) → a ⊕ (b ⊕ b ⊗ 𝟘) ≡ a ⊕ b ⊗ 𝟙
  all_part a b = simp ring

  all_edge : (b : K) → b ⊕ b ⊗ 𝟘 ≡ 𝟘 ⊕ b ⊗ 𝟙
  all_edge b = simp ring

  module _ (I : ℕ → Bool) (j : ℕ) (live : I j ≡ true) where
    pub weight_dropped : (w : ℕ → K) (k : ℕ) → chain_weight w (dropping j I) k ≡ chain_weight w I k ⊕ chain_weight w I j ⊗ chain_edge I j k
    weight_dropped w zero = weight_first w (dropping j I) ∙ sym (weight_first w I) ∙ no_part (chain_weight w I zero) (chain_weight w I j)
        ∙ ap (λ z. chain_weight w I zero ⊕ chain_weight w I j ⊗ z) (sym (edge_first I j))
    weight_dropped w (suc k) = elim (same_or_not k j) [
      | inl e ↦ at_it w k e (weight_dropped w k)
      | inr n ↦ elim (true_or_false (I k)) [
        | inl t ↦
            weight_kept w (dropping j I) k (dropping_other j I k n ∙ t) ∙ no_part (w (suc k)) (chain_weight w I j)
            ∙ ap₂ (λ y z. y ⊕ chain_weight w I j ⊗ z) (sym (weight_kept w I k t)) (sym (edge_kept I j k t ∙ unit_other F j k (λ x. n (sym x))))
        | inr f ↦
            weight_passed w (dropping j I) k (dropping_other j I k n ∙ f) ∙ ap (λ z. w (suc k) ⊕ z) (weight_dropped w k)
            ∙ sym (add_assoc F (w (suc k)) (chain_weight w I k) (chain_weight w I j ⊗ chain_edge I j k))
            ∙ ap₂ (λ y z. y ⊕ chain_weight w I j ⊗ z) (sym (weight_passed w I k f)) (sym (edge_passed I j k f))
      ]
    ]
      where
        at_it : (w : ℕ → K) (k : ℕ) → k ≡ j → chain_weight w (dropping j I) k ≡ chain_weight w I k ⊕ chain_weight w I j ⊗ chain_edge I j k
            → chain_weight w (dropping j I) (suc k) ≡ chain_weight w I (suc k) ⊕ chain_weight w I j ⊗ chain_edge I j (suc k)
        at_it w k e before =
            let t : I k ≡ true = ap I e ∙ live in
            let f : dropping j I k ≡ false = ap (dropping j I) e ∙ dropping_same j I in
            let own : chain_weight w I k ≡ chain_weight w I j = ap (chain_weight w I) e in
            let back : chain_edge I j k ≡ 𝟘 = edge_back I j k (omega arith) in
            let one : unit F j k ≡ 𝟙 = ap (unit F j) e ∙ unit_same F j in
            weight_passed w (dropping j I) k f ∙ ap (λ z. w (suc k) ⊕ z) (before ∙ ap₂ (λ y z. y ⊕ chain_weight w I j ⊗ z) own back)
            ∙ all_part (w (suc k)) (chain_weight w I j)
            ∙ ap₂ (λ y z. y ⊕ chain_weight w I j ⊗ z) (sym (weight_kept w I k t)) (sym (edge_kept I j k t ∙ one))

    pub edge_dropped : (l : ℕ) → l ≢ j → (k : ℕ) → chain_edge (dropping j I) l k ≡ chain_edge I l k ⊕ chain_edge I l j ⊗ chain_edge I j k
    edge_dropped l h zero = edge_first (dropping j I) l ∙ sym (edge_first I l) ∙ no_part (chain_edge I l zero) (chain_edge I l j)
        ∙ ap (λ z. chain_edge I l zero ⊕ chain_edge I l j ⊗ z) (sym (edge_first I j))
    edge_dropped l h (suc k) = elim (same_or_not k j) [
      | inl e ↦ at_it k e (edge_dropped l h k)
      | inr n ↦ elim (true_or_false (I k)) [
        | inl t ↦
            edge_kept (dropping j I) l k (dropping_other j I k n ∙ t) ∙ no_part (unit F l k) (chain_edge I l j)
            ∙ ap₂ (λ y z. y ⊕ chain_edge I l j ⊗ z) (sym (edge_kept I l k t)) (sym (edge_kept I j k t ∙ unit_other F j k (λ x. n (sym x))))
        | inr f ↦
            edge_passed (dropping j I) l k (dropping_other j I k n ∙ f) ∙ edge_dropped l h k
            ∙ ap₂ (λ y z. y ⊕ chain_edge I l j ⊗ z) (sym (edge_passed I l k f)) (sym (edge_passed I j k f))
      ]
    ]
      where
        at_it : (k : ℕ) → k ≡ j → chain_edge (dropping j I) l k ≡ chain_edge I l k ⊕ chain_edge I l j ⊗ chain_edge I j k
            → chain_edge (dropping j I) l (suc k) ≡ chain_edge I l (suc k) ⊕ chain_edge I l j ⊗ chain_edge I j (suc k)
        at_it k e before =
            let t : I k ≡ true = ap I e ∙ live in
            let f : dropping j I k ≡ false = ap (dropping j I) e ∙ dropping_same j I in
            let own : chain_edge I l k ≡ chain_edge I l j = ap (chain_edge I l) e in
            let back : chain_edge I j k ≡ 𝟘 = edge_back I j k (omega arith) in
            let one : unit F j k ≡ 𝟙 = ap (unit F j) e ∙ unit_same F j in
            let none : unit F l k ≡ 𝟘 = unit_other F l k (λ x. h (x ∙ e)) in
            edge_passed (dropping j I) l k f ∙ before ∙ ap₂ (λ y z. y ⊕ chain_edge I l j ⊗ z) own back
            ∙ all_edge (chain_edge I l j)
            ∙ ap₂ (λ y z. y ⊕ chain_edge I l j ⊗ z) (sym (edge_kept I l k t ∙ none)) (sym (edge_kept I j k t ∙ one))

  -- no way leads back to where it began
  no_return : (I : ℕ → Bool) (j l : ℕ) → chain_edge I l j ⊗ chain_edge I j l ≡ 𝟘
  no_return I j l = elim (before_or_after j l) [
    | inl h ↦ rw (edge_back I l j h) (zero_mul F (chain_edge I j l))
    | inr h ↦ rw (edge_back I j l h) (mul_zero F (chain_edge I l j))
  ]

  pub over_one : (x : K) → x ⊗ invert 𝟙 ≡ x
  over_one x = elim (F.is_zero_or_not 𝟙) [
    | inl e ↦ rw (← mul_one F x, e, mul_zero F x, zero_mul F (invert 𝟘))
    | inr n ↦ ap (λ z. x ⊗ z) (sym (one_mul F (invert 𝟙)) ∙ F.mul_invert 𝟙 n) ∙ mul_one F x
  ]

  nothing_lost : 𝟙 ⊕ negate 𝟘 ≡ 𝟙
  nothing_lost = ap (λ z. 𝟙 ⊕ z) (sym (zero_add F (negate 𝟘)) ∙ F.add_negate 𝟘) ∙ add_zero F 𝟙

  -- the chain that is left where `I` remains
  abbrev pub chain_left : (ℕ → K) → (ℕ → Bool) → Graph K
  chain_left w I = record { weight = chain_weight w I; edge = chain_edge I }

  pub chain_closed : (m : ℕ) (w : ℕ → K) → IsClosedForm F m (chain_left w)
  chain_closed m w = record { step = steps; same = λ I J k. weight_same m w I J k }
    where
      steps : (I : ℕ → Bool) (j : ℕ) → IsIn m I j → Agrees m (dropping j I) (without F (chain_left w I) j) (chain_left w (dropping j I))
      steps I j live = record {
        weight = λ l p. weight_other F (chain_left w I) j l (live_other j I p) ∙ sym (weight_dropped I j live.member w l);
        edge = λ l k p q h.
            edge_other F (chain_left w I) j l k (live_other j I p) (live_other j I q) h
            ∙ ap (λ z. (chain_edge I l k ⊕ chain_edge I l j ⊗ chain_edge I j k) ⊗ invert (𝟙 ⊕ negate z)) (no_return I j l)
            ∙ ap (λ z. (chain_edge I l k ⊕ chain_edge I l j ⊗ chain_edge I j k) ⊗ invert z) nothing_lost
            ∙ over_one (chain_edge I l k ⊕ chain_edge I l j ⊗ chain_edge I j k)
            ∙ sym (edge_dropped I j live.member l (live_other j I p) k);
      }

  -- ---- chains are valid

  sum_nothing : (f : ℕ → K) → sum_below F 0 f ≡ 𝟘
  unfolding sum_below
  sum_nothing f = refl

  -- the first positions of a unit vector sum to 0 or 1
  unit_most : (n j : ℕ) → AtMost F (sum_below F n (unit F j)) 𝟙
  unit_most zero j = eq_le F (sum_nothing (unit F j)) (zero_le_one F)
  unit_most (suc n) j = elim (below_or_not j (suc n)) [
    | inl h ↦ le_of_eq F _ _ (unit_total F (suc n) j h)
    | inr h ↦ eq_le F (sum_congr F (suc n) (unit F j) (λ _. 𝟘) (λ i q. unit_other F j i (λ e. h (subst (λ a. a < suc n) (sym e) q)))
        ∙ sum_zero F (suc n)) (zero_le_one F)
  ]

  -- a graph in which each hypothesis passes all to the next one
  pub chain_valid : (m : ℕ) (G : Graph K) → ((i : ℕ) → i < m → AtMost F 𝟘 (G.weight i)) → AtMost F (sum_below F m G.weight) 𝟙
      → ((i k : ℕ) → i < m → k < m → G.edge i k ≡ unit F (suc i) k) → IsValid F m G
  chain_valid m G low total edges = record {
    weight_nonneg = low;
    weight_total = total;
    edge_nonneg = λ i k p q. subst (λ x. AtMost F 𝟘 x) (sym (edges i k p q)) (unit_nonneg F (suc i) k);
    no_loop = λ i p. edges i i p p ∙ unit_other F (suc i) i (omega arith);
    row_total = λ i p. eq_le F (sum_congr F m (G.edge i) (unit F (suc i)) (λ k q. edges i k p q)) (unit_most m (suc i));
  }
