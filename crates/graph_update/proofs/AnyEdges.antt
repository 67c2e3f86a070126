-- The edges that removals leave are the same in every order.
use Rattle.std.proofs.Common.{◌≡◌, ◌≢◌, ◌⊎◌, inl, inr, refl, sym, ap, ap₂, subst, ◌∙◌, ℕ, ◌<◌, Bool, true, false, List}
use Rattle.std.proofs.lemmas.Bool.{cases_eq}
use Rattle.field_core.specs.Field.{OrderedField, AtMost}
use Rattle.field_core.specs.Sums.{unit, dot}
use Rattle.field_core.specs.Graph.{Graph, IsValid}
use Rattle.field_core.specs.Sets.{IsIn, HaveSameMembers, whole}
use Rattle.field_core.specs.Flows.{into, IsFlow}
use Rattle.field_core.specs.Runs.{Exits, IsOrder, left_after, after, through}
use Rattle.field_core.proofs.Dots.{unit_dot, dot_exit}
use Rattle.field_core.proofs.Duality.{weak_duality}
use Rattle.field_core.proofs.FieldLaws.{ring, mul_comm}
use Rattle.field_core.proofs.Live.{true_or_false}
use Rattle.field_core.proofs.Orders.{le_of_eq, le_eq, eq_le, add_nonneg}
use Rattle.field_core.proofs.SumLaws.{unit_same, unit_other, unit_nonneg}
use Rattle.field_core.proofs.WeightLaws.{order_reached}

module _ {K : Type 0} (F : OrderedField K) (m : ℕ) (G : Graph K) where
  open F use {𝟘, 𝟙, ◌⊕◌, ◌⊗◌}

  infix 50 ◌≼◌
  abbrev ◌≼◌ : K → K → Type 0
  a ≼ b = AtMost F a b

  module _ (I : ℕ → Bool) (now : Graph K) (H : ℕ → ℕ → K) (E : Exits F m G I now H) (V : IsValid F m now) (l k : ℕ) (p : IsIn m I l)
      (q : IsIn m I k) (n : l ≢ k) where
    -- what passes to `k` from a removed hypothesis, also through `l`; from `l` it is the edge
    passing : ℕ → K
    passing r = H k r ⊕ (H l r ⊕ unit F l r) ⊗ now.edge l k

    passing_is : (r : ℕ) → passing r ≡ H k r ⊕ (H l r ⊕ unit F l r) ⊗ now.edge l k
    unfolding passing
    passing_is r = refl

    passed : (r : ℕ) → G.edge r k ⊕ dot F m (G.edge r) passing ≡ through F m G H r k ⊕ through F m G H r l ⊗ now.edge l k
    unfolding passing through
    passed r = ap (λ t. G.edge r k ⊕ t) (dot_exit F m (G.edge r) (H k) (H l) l (now.edge l k) p.below) ∙ simp ring

    at_start : passing l ≡ now.edge l k
    at_start = passing_is l ∙ rw (E.elsewhere k l p.member, E.elsewhere l l p.member, unit_same F l) (simp ring)

    from_start : G.edge l k ⊕ dot F m (G.edge l) passing ≡ passing l
    from_start = passed l ∙ ap (λ t. through F m G H l k ⊕ t) (mul_comm F (through F m G H l l) (now.edge l k)) ∙ E.edge l k p q n ∙ sym at_start

    other : (r : ℕ) → I r ≡ false → l ≢ r
    other r f e = absurd (cc (p.member, ap I e, f))

    no_start : (r : ℕ) → I r ≡ false → H k r ⊕ H l r ⊗ now.edge l k ≡ H k r ⊕ (H l r ⊕ unit F l r) ⊗ now.edge l k
    no_start r f = rw (unit_other F l r (other r f)) (simp ring)

    from_removed : (r : ℕ) → I r ≡ false → G.edge r k ⊕ dot F m (G.edge r) passing ≡ passing r
    from_removed r f = passed r ∙ ap₂ (λ a b. a ⊕ b ⊗ now.edge l k) (sym (E.solves k r q f)) (sym (E.solves l r p f))
        ∙ no_start r f ∙ sym (passing_is r)

    nonneg : (r : ℕ) → r < m → 𝟘 ≼ passing r
    unfolding passing
    nonneg r b = add_nonneg F _ _ (E.nonneg k r q)
        (F.mul_nonneg _ _ (add_nonneg F _ _ (E.nonneg l r p) (unit_nonneg F l r)) (V.edge_nonneg l k p.below q.below))

    super : (z : ℕ → K) → ((r : ℕ) → r < m → I r ≡ true → l ≢ r → z r ≡ 𝟘) → (r : ℕ) → r < m
        → (z r ≡ 𝟘) ⊎ (G.edge r k ⊕ dot F m (G.edge r) passing ≼ passing r)
    super z zeros r b = elim (true_or_false (I r)) [
      | inr f ↦ inr (le_of_eq F _ _ (from_removed r f))
      | inl t ↦ elim (cases_eq l r) [
        | inl e ↦ inr (subst (λ r. G.edge r k ⊕ dot F m (G.edge r) passing ≼ passing r) e (le_of_eq F _ _ from_start))
        | inr d ↦ inl (zeros r b t d)
      ]
    ]

    -- no flow from `l` through removed hypotheses carries more to `k` than the edge
    pub edge_bounds : (z : ℕ → K) → IsFlow F m G (unit F l) z → ((r : ℕ) → r < m → I r ≡ true → l ≢ r → z r ≡ 𝟘)
        → dot F m z (into F G k) ≼ now.edge l k
    edge_bounds z flow zeros = le_eq F (weak_duality F m G (unit F l) z passing k flow nonneg (super z zeros))
        (unit_dot F m passing l p.below ∙ at_start)

  module _ (V : IsValid F m G) where
    edges_at_most : (js ks : List ℕ) → IsOrder m whole js → IsOrder m whole ks → HaveSameMembers m (left_after whole js) (left_after whole ks)
        → (l k : ℕ) → IsIn m (left_after whole js) l → IsIn m (left_after whole js) k → l ≢ k → (after F G js).edge l k ≼ (after F G ks).edge l k
    edges_at_most js ks o u same l k p q n =
        let R = order_reached F m G V js o in
        let S = order_reached F m G V ks u in
        eq_le F (R.flows.edge l k p q n)
        (edge_bounds (left_after whole ks) (after F G ks) S.exit S.exits S.valid l k
        (record { below = p.below; member = sym (same l p.below) ∙ p.member }) (record { below = q.below; member = sym (same k q.below) ∙ q.member }) n
        (R.z l) (R.flows.row_flow l p) (λ r b t d. R.flows.row_elsewhere l r (same r b ∙ t) d))

    pub edges_same : (js ks : List ℕ) → IsOrder m whole js → IsOrder m whole ks → HaveSameMembers m (left_after whole js) (left_after whole ks)
        → (l k : ℕ) → IsIn m (left_after whole js) l → IsIn m (left_after whole js) k → l ≢ k → (after F G js).edge l k ≡ (after F G ks).edge l k
    edges_same js ks o u same l k p q n = F.le_antisymm _ _ (edges_at_most js ks o u same l k p q n)
        (edges_at_most ks js u o (λ r b. sym (same r b)) l k (record { below = p.below; member = sym (same l p.below) ∙ p.member })
        (record { below = q.below; member = sym (same k q.below) ∙ q.member }) n)
