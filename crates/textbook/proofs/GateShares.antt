-- Two families, the second of which gets what the first one passes on. Whatever is removed, the members of the first family keep their weight. Those of the
-- second share what the removed members of the first had, in equal parts.
use Rattle.std.proofs.Common.{◌≡◌, ◌≢◌, inl, inr, sym, ap, ap₂, ◌∙◌, subst, ℕ, zero, suc, ◌-◌, ◌<◌, ◌≤◌, arith, Bool, true, false, cond}
use Rattle.std.specs.Prelude.{nat_lt}
use Rattle.std.proofs.lemmas.Bool.Decides.{nat_tests}
use Rattle.field_core.specs.Field.{OrderedField}
use Rattle.field_core.specs.Graph.{Graph}
use Rattle.field_core.specs.Removal.{without}
use Rattle.field_core.specs.Sets.{IsIn, HaveSameMembers, dropping, size_of}
use Rattle.field_core.proofs.FieldLaws.{ring, mul_comm, zero_mul, add_zero, zero_add}
use Rattle.field_core.proofs.RemovalLaws.{weight_other}
use Rattle.field_core.proofs.Live.{live_before, live_other, dropping_other}
use Rattle.field_core.proofs.Agreement.{Agrees, edge_other}
use Rattle.field_core.proofs.Chains.{over_one}
use Rattle.field_core.proofs.Positions.{below_or_above}
use Rattle.field_core.proofs.Sizes.{size_next, size_dropped, size_same, size_within}
use Rattle.field_core.proofs.EqualShares.{AreParts, next_edge}
use Rattle.field_core.proofs.ClosedForms.{IsClosedForm}

-- ---- the two families of a set

pub in_first : (l a : ℕ) → l < a → nat_lt l a ≡ true
in_first l a h = grind (arith, nat_tests)

pub in_second : (l a : ℕ) → a ≤ l → nat_lt l a ≡ false
in_second l a h = grind (arith, nat_tests)

size_prefix : (a m : ℕ) (I : ℕ → Bool) → a ≤ m → size_of a I ≤ size_of m I
size_prefix a zero I h = let e : a ≡ 0 = omega (arith, h) in subst (λ n. size_of n I ≤ size_of 0 I) (sym e) (omega arith)
size_prefix a (suc m) I h = elim (below_or_above m a) [
  | inl q ↦ let e : a ≡ suc m = omega (arith, h, q) in subst (λ n. size_of n I ≤ size_of (suc m) I) (sym e) (omega arith)
  | inr q ↦ let ih = size_prefix a m I q in let e = size_next m I in omega (arith, ih, e)
]

module _ (a m : ℕ) (within : a ≤ m) where
  -- how many members of a set are in the second family
  abbrev pub seconds : (ℕ → Bool) → ℕ
  seconds I = size_of m I - size_of a I

  firsts_within : (I : ℕ → Bool) → size_of a I ≤ size_of m I
  firsts_within I = size_prefix a m I within

  pub firsts_less : (I : ℕ → Bool) (j : ℕ) → IsIn m I j → j < a → suc (size_of a (dropping j I)) ≡ size_of a I
  firsts_less I j p h = size_dropped a j I (record { below = h; member = p.member })

  pub firsts_same : (I : ℕ → Bool) (j : ℕ) → a ≤ j → size_of a (dropping j I) ≡ size_of a I
  firsts_same I j h = size_same a (dropping j I) I (λ i q. dropping_other j I i (λ e. absurd (omega (arith, h, q, e))))

  pub seconds_same : (I : ℕ → Bool) (j : ℕ) → IsIn m I j → j < a → seconds (dropping j I) ≡ seconds I
  seconds_same I j p h =
      let e = firsts_less I j p h in
      let f = size_dropped m j I p in
      omega (arith, e, f)

  pub seconds_less : (I : ℕ → Bool) (j : ℕ) → IsIn m I j → a ≤ j → suc (seconds (dropping j I)) ≡ seconds I
  seconds_less I j p h =
      let e = firsts_same I j h in
      let f = size_dropped m j I p in
      let g = firsts_within (dropping j I) in
      omega (arith, e, f, g)

  pub seconds_alike : (I J : ℕ → Bool) → HaveSameMembers m I J → seconds I ≡ seconds J
  seconds_alike I J h = ap₂ (λ x y. x - y) (size_same m I J h) (size_same a I J (λ i q. h i (omega (arith, within, q))))

module _ {K : Type 0} (F : OrderedField K) where
  open F use {𝟘, 𝟙, ◌⊕◌, ◌⊗◌, negate, invert}

  -- ---- bare algebra

  unchanged : (w x : K) → w ⊕ x ⊗ 𝟘 ≡ w
  unchanged w x = simp ring

  one_more : (x w y : K) → x ⊗ y ⊕ w ⊗ y ≡ (x ⊕ w) ⊗ y
  one_more x w y = simp ring

  spread : (x y z : K) → x ⊗ y ⊕ (x ⊗ y) ⊗ z ≡ x ⊗ (y ⊕ y ⊗ z)
  spread x y z = simp ring

  no_way : (e x : K) → e ⊕ 𝟘 ⊗ x ≡ e
  no_way e x = simp ring

  no_loss : (x : K) → 𝟙 ⊕ negate (𝟘 ⊗ x) ≡ 𝟙
  no_loss x = ap (λ z. 𝟙 ⊕ negate z) (zero_mul F x) ∙ ap (λ z. 𝟙 ⊕ z) (sym (zero_add F (negate 𝟘)) ∙ F.add_negate 𝟘) ∙ add_zero F 𝟙

  -- an edge that nothing goes through
  untouched : (e x y : K) → (e ⊕ 𝟘 ⊗ x) ⊗ invert (𝟙 ⊕ negate (𝟘 ⊗ y)) ≡ e
  untouched e x y = ap₂ (λ s t. s ⊗ invert t) (no_way e x) (no_loss y) ∙ over_one F e

  -- no edge before, and none after
  still_none : (x d : K) → (𝟘 ⊕ x ⊗ 𝟘) ⊗ invert d ≡ 𝟘
  still_none x d = ap (λ s. s ⊗ invert d) (unchanged 𝟘 x) ∙ zero_mul F (invert d)

  -- an edge without a way back
  one_way : (e x y : K) → (e ⊕ x ⊗ y) ⊗ invert (𝟙 ⊕ negate (x ⊗ 𝟘)) ≡ e ⊕ x ⊗ y
  one_way e x y =
      ap (λ t. (e ⊕ x ⊗ y) ⊗ invert (𝟙 ⊕ negate t)) (mul_comm F x 𝟘) ∙ ap (λ t. (e ⊕ x ⊗ y) ⊗ invert t) (no_loss x) ∙ over_one F (e ⊕ x ⊗ y)

  -- ---- the closed form

  module _ (part : ℕ → K) (P : AreParts F part) (w : K) (passed : ℕ → K) (more : (r : ℕ) → passed (suc r) ≡ passed r ⊕ w) (a m : ℕ) (within : a ≤ m) where
    -- What is left where `I` remains. A member of the first family has the weight `w`, and one of the second its part of what the others of the first had. Each
    -- member passes equal parts to the members of the second family, and nothing to those of the first.
    abbrev pub gate_left : (ℕ → Bool) → Graph K
    gate_left I = record {
      weight = λ l. cond (nat_lt l a) w (passed (a - size_of a I) ⊗ part (seconds a m within I));
      edge = λ l k. cond (nat_lt k a) 𝟘 (part (seconds a m within (dropping l I)));
    }

    module _ (I : ℕ → Bool) where
      pub first_weight : (l : ℕ) → l < a → (gate_left I).weight l ≡ w
      first_weight l h = ap (λ b. cond b w (passed (a - size_of a I) ⊗ part (seconds a m within I))) (in_first l a h)

      pub second_weight : (l : ℕ) → a ≤ l → (gate_left I).weight l ≡ passed (a - size_of a I) ⊗ part (seconds a m within I)
      second_weight l h = ap (λ b. cond b w (passed (a - size_of a I) ⊗ part (seconds a m within I))) (in_second l a h)

      pub first_edge : (l k : ℕ) → k < a → (gate_left I).edge l k ≡ 𝟘
      first_edge l k h = ap (λ b. cond b 𝟘 (part (seconds a m within (dropping l I)))) (in_first k a h)

      pub second_edge : (l k : ℕ) → a ≤ k → (gate_left I).edge l k ≡ part (seconds a m within (dropping l I))
      second_edge l k h = ap (λ b. cond b 𝟘 (part (seconds a m within (dropping l I)))) (in_second k a h)

    next_part : (x y n : ℕ) → x ≡ suc (suc n) → y ≡ suc n → part x ⊕ part x ⊗ part y ≡ part y
    next_part x y n e f = ap₂ (λ i k. part i ⊕ part i ⊗ part k) e f ∙ P.next n ∙ ap part (sym f)

    part_back : (x y z n : ℕ) → x ≡ suc (suc n) → y ≡ suc (suc n) → z ≡ suc n
        → (part x ⊕ part x ⊗ part y) ⊗ invert (𝟙 ⊕ negate (part x ⊗ part y)) ≡ part z
    part_back x y z n e f g =
        ap₂ (λ i k. (part i ⊕ part i ⊗ part k) ⊗ invert (𝟙 ⊕ negate (part i ⊗ part k))) e f
        ∙ next_edge F (part (suc (suc n))) (part (suc n)) (P.low (suc n)) (P.nonzero (suc n)) (P.next n) ∙ ap part (sym g)

    module _ (I : ℕ → Bool) (j : ℕ) (live : IsIn m I j) where
      -- ---- the removal of a member of the first family

      weight_after_first : (l : ℕ) → IsIn m (dropping j I) l → j < a → (without F (gate_left I) j).weight l ≡ (gate_left (dropping j I)).weight l
      weight_after_first l p h = weight_other F (gate_left I) j l (live_other j I p) ∙ elim (below_or_above l a) [
        | inl q ↦
            ap₂ (λ x e. x ⊕ (gate_left I).weight j ⊗ e) (first_weight I l q) (first_edge I j l q) ∙ unchanged w _
            ∙ sym (first_weight (dropping j I) l q)
        | inr q ↦
            let e = firsts_less a m within I j live h in
            let g = size_within a I in
            let next : a - size_of a (dropping j I) ≡ suc (a - size_of a I) = omega (arith, e, g) in
            let same = seconds_same a m within I j live h in
            ap₂ (λ x y. x ⊕ y) (second_weight I l q) (ap₂ (λ x y. x ⊗ y) (first_weight I j h) (second_edge I j l q ∙ ap part same))
            ∙ one_more (passed (a - size_of a I)) w (part (seconds a m within I))
            ∙ ap₂ (λ x y. x ⊗ y) (sym (ap passed next ∙ more (a - size_of a I))) (ap part (sym same))
            ∙ sym (second_weight (dropping j I) l q)
      ]

      edge_after_first : (l k : ℕ) → IsIn m (dropping j I) l → IsIn m (dropping j I) k → l ≢ k → j < a
          → (without F (gate_left I) j).edge l k ≡ (gate_left (dropping j I)).edge l k
      edge_after_first l k p q n h =
          edge_other F (gate_left I) j l k (live_other j I p) (live_other j I q) n
          ∙ ap (λ e. ((gate_left I).edge l k ⊕ e ⊗ (gate_left I).edge j k) ⊗ invert (𝟙 ⊕ negate (e ⊗ (gate_left I).edge j l))) (first_edge I l j h)
          ∙ untouched ((gate_left I).edge l k) ((gate_left I).edge j k) ((gate_left I).edge j l)
          ∙ ap (λ r. cond (nat_lt k a) 𝟘 (part r)) (others_same l p)
        where
          -- a member of the first family more or less changes nothing for the others of the second
          others_same : (l : ℕ) → IsIn m (dropping j I) l → seconds a m within (dropping l I) ≡ seconds a m within (dropping l (dropping j I))
          others_same l p = elim (below_or_above l a) [
            | inl b ↦ seconds_same a m within I l (live_before j I p) b ∙ sym (seconds_same a m within I j live h)
                ∙ sym (seconds_same a m within (dropping j I) l p b)
            | inr b ↦
                let x = seconds_less a m within I l (live_before j I p) b in
                let y = seconds_less a m within (dropping j I) l p b in
                let z = seconds_same a m within I j live h in
                omega (arith, x, y, z)
          ]

      -- ---- the removal of a member of the second family

      weight_after_second : (l : ℕ) → IsIn m (dropping j I) l → a ≤ j → (without F (gate_left I) j).weight l ≡ (gate_left (dropping j I)).weight l
      weight_after_second l p h = weight_other F (gate_left I) j l (live_other j I p) ∙ elim (below_or_above l a) [
        | inl q ↦
            ap₂ (λ x e. x ⊕ (gate_left I).weight j ⊗ e) (first_weight I l q) (first_edge I j l q) ∙ unchanged w _
            ∙ sym (first_weight (dropping j I) l q)
        | inr q ↦
            let one_less = seconds_less a m within I j live h in
            let two_less = seconds_less a m within (dropping j I) l p q in
            let S : ℕ = seconds a m within I in
            let T : ℕ = seconds a m within (dropping j I) in
            let U : ℕ = seconds a m within (dropping l (dropping j I)) in
            ap₂ (λ x y. x ⊕ y) (second_weight I l q) (ap₂ (λ x y. x ⊗ y) (second_weight I j h) (second_edge I j l q))
            ∙ spread (passed (a - size_of a I)) (part S) (part T)
            ∙ ap₂ (λ x y. x ⊗ y) (ap (λ n. passed (a - n)) (sym (firsts_same a m within I j h)))
            (next_part S T U (omega (arith, one_less, two_less)) (sym two_less))
            ∙ sym (second_weight (dropping j I) l q)
      ]

      edge_after_second : (l k : ℕ) → IsIn m (dropping j I) l → IsIn m (dropping j I) k → l ≢ k → a ≤ j
          → (without F (gate_left I) j).edge l k ≡ (gate_left (dropping j I)).edge l k
      edge_after_second l k p q n h = edge_other F (gate_left I) j l k (live_other j I p) (live_other j I q) n ∙ elim (below_or_above k a) [
        | inl b ↦
            ap₂ (λ x y. (x ⊕ (gate_left I).edge l j ⊗ y) ⊗ invert (𝟙 ⊕ negate ((gate_left I).edge l j ⊗ (gate_left I).edge j l)))
            (first_edge I l k b) (first_edge I j k b)
            ∙ still_none ((gate_left I).edge l j) (𝟙 ⊕ negate ((gate_left I).edge l j ⊗ (gate_left I).edge j l)) ∙ sym (first_edge (dropping j I) l k b)
        | inr b ↦
            ap₂ (λ x y. (x ⊕ y ⊗ (gate_left I).edge j k) ⊗ invert (𝟙 ⊕ negate (y ⊗ (gate_left I).edge j l))) (second_edge I l k b) (second_edge I l j h)
            ∙ ap (λ y. (part (seconds a m within (dropping l I)) ⊕ part (seconds a m within (dropping l I)) ⊗ y)
            ⊗ invert (𝟙 ⊕ negate (part (seconds a m within (dropping l I)) ⊗ (gate_left I).edge j l))) (second_edge I j k b)
            ∙ to_second l k p q n b
            ∙ sym (second_edge (dropping j I) l k b)
      ]
        where
          to_second : (l k : ℕ) → IsIn m (dropping j I) l → IsIn m (dropping j I) k → l ≢ k → a ≤ k
              → (part (seconds a m within (dropping l I)) ⊕ part (seconds a m within (dropping l I)) ⊗ part (seconds a m within (dropping j I)))
              ⊗ invert (𝟙 ⊕ negate (part (seconds a m within (dropping l I)) ⊗ (gate_left I).edge j l))
              ≡ part (seconds a m within (dropping l (dropping j I)))
          to_second l k p q n b =
              let X : ℕ = seconds a m within (dropping l I) in
              let Y : ℕ = seconds a m within (dropping j I) in
              let Z : ℕ = seconds a m within (dropping l (dropping j I)) in
              let one_less = seconds_less a m within I j live h in
              elim (below_or_above l a) [
                | inl c ↦
                    let all = seconds_same a m within I l (live_before j I p) c in
                    let same = seconds_same a m within (dropping j I) l p c in
                    let other = seconds_less a m within (dropping j I) k q b in
                    let W : ℕ = seconds a m within (dropping k (dropping j I)) in
                    ap (λ e. (part X ⊕ part X ⊗ part Y) ⊗ invert (𝟙 ⊕ negate (part X ⊗ e))) (first_edge I j l c)
                    ∙ one_way (part X) (part X) (part Y)
                    ∙ next_part X Y W (omega (arith, all, one_less, other)) (sym other) ∙ ap part (sym same)
                | inr c ↦
                    let other = seconds_less a m within I l (live_before j I p) c in
                    let two_less = seconds_less a m within (dropping j I) l p c in
                    let still : IsIn m (dropping l (dropping j I)) k =
                    record { below = q.below; member = dropping_other l (dropping j I) k (λ e. n (sym e)) ∙ q.member } in
                    let three_less = seconds_less a m within (dropping l (dropping j I)) k still b in
                    let W : ℕ = seconds a m within (dropping k (dropping l (dropping j I))) in
                    ap (λ e. (part X ⊕ part X ⊗ part Y) ⊗ invert (𝟙 ⊕ negate (part X ⊗ e))) (second_edge I j l c)
                    ∙ part_back X Y Z W (omega (arith, one_less, other, two_less, three_less)) (sym two_less ∙ ap suc (sym three_less)) (sym three_less)
              ]

    pub gate_closed : IsClosedForm F m gate_left
    gate_closed = record { step = steps; same = alike }
      where
        steps : (I : ℕ → Bool) (j : ℕ) → IsIn m I j → Agrees m (dropping j I) (without F (gate_left I) j) (gate_left (dropping j I))
        steps I j live = elim (below_or_above j a) [
          | inl h ↦ record { weight = λ l p. weight_after_first I j live l p h; edge = λ l k p q n. edge_after_first I j live l k p q n h }
          | inr h ↦ record { weight = λ l p. weight_after_second I j live l p h; edge = λ l k p q n. edge_after_second I j live l k p q n h }
        ]

        alike : (I J : ℕ → Bool) (k : ℕ) → HaveSameMembers m I J → k < m → (gate_left I).weight k ≡ (gate_left J).weight k
        alike I J k same b =
            ap₂ (λ n s. cond (nat_lt k a) w (passed (a - n) ⊗ part s)) (size_same a I J (λ i q. same i (omega (arith, within, q))))
            (seconds_alike a m within I J same)
