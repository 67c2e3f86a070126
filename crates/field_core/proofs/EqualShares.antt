-- Hypotheses of equal weight that pass on equal parts: whatever is removed, those that are left have equal weights and pass on equal parts.
use Rattle.std.proofs.Common.{◌≡◌, ◌≢◌, ◌⊎◌, inl, inr, sym, ap, ap₂, ◌∙◌, subst, ℕ, suc, ◌<◌, ◌≤◌, arith, Bool}
use Rattle.field_core.specs.Field.{OrderedField, AtMost}
use Rattle.field_core.specs.Sums.{sum_below, unit}
use Rattle.field_core.specs.Graph.{Graph, IsValid}
use Rattle.field_core.specs.Removal.{without}
use Rattle.field_core.specs.Sets.{IsIn, dropping, size_of}
use Rattle.field_core.proofs.FieldLaws.{ring, mul_assoc, mul_one, mul_zero, add_cancel}
use Rattle.field_core.proofs.Orders.{by_eq, plus_eq, times_eq, le_add, le_eq, le_of_eq, eq_le, zero_le_one}
use Rattle.field_core.proofs.SumLaws.{sum_congr, sum_zero, sum_add, sum_scale, unit_same, unit_other, unit_total}
use Rattle.field_core.proofs.RemovalLaws.{same_or_not, weight_other}
use Rattle.field_core.proofs.Live.{live_before, live_other, dropping_other}
use Rattle.field_core.proofs.Agreement.{Agrees, edge_other}
use Rattle.field_core.proofs.Sizes.{size_dropped, size_same}
use Rattle.field_core.proofs.ClosedForms.{IsClosedForm}

module _ {K : Type 0} (F : OrderedField K) where
  open F use {𝟘, 𝟙, ◌⊕◌, ◌⊗◌, negate, invert}

  -- ---- bare algebra: x is 1/(c + 1) and y is 1/c

  pub next_part : (x y c : K) → x ⊗ (c ⊕ 𝟙) ≡ 𝟙 → y ⊗ c ≡ 𝟙 → x ⊕ x ⊗ y ≡ y
  next_part x y c e f = by_eq F (plus_eq F (times_eq F y e) (times_eq F x (sym f))) (simp ring)

  times_left_over : (y z n : K) → y ⊗ y ⊕ n ≡ 𝟘 → y ⊕ y ⊗ z ≡ z → z ⊗ (𝟙 ⊕ n) ≡ y ⊕ y ⊗ y
  times_left_over y z n e g = by_eq F (plus_eq F (times_eq F z e) (plus_eq F (sym g) (times_eq F y (sym g)))) (simp ring)

  above_nothing : (y : K) → AtMost F 𝟘 y → (y ≡ 𝟘 → ⊥) → y ⊕ y ⊗ y ≡ 𝟘 → ⊥
  above_nothing y low n e = n (F.le_antisymm y 𝟘 (le_eq F (le_add F y (y ⊗ y) (F.mul_nonneg y y low low)) e) low)

  pub next_edge : (y z : K) → AtMost F 𝟘 y → (y ≡ 𝟘 → ⊥) → y ⊕ y ⊗ z ≡ z
      → (y ⊕ y ⊗ y) ⊗ invert (𝟙 ⊕ negate (y ⊗ y)) ≡ z
  next_edge y z low n g =
      let d : K = 𝟙 ⊕ negate (y ⊗ y) in
      let times : z ⊗ (𝟙 ⊕ negate (y ⊗ y)) ≡ y ⊕ y ⊗ y = times_left_over y z (negate (y ⊗ y)) (F.add_negate (y ⊗ y)) g in
      ap (λ a. a ⊗ invert (𝟙 ⊕ negate (y ⊗ y))) (sym times) ∙ mul_assoc F z (𝟙 ⊕ negate (y ⊗ y)) (invert (𝟙 ⊕ negate (y ⊗ y)))
      ∙ ap (λ a. z ⊗ a) (F.mul_invert (𝟙 ⊕ negate (y ⊗ y)) (λ e. above_nothing y low n (sym times ∙ ap (λ a. z ⊗ a) e ∙ mul_zero F z)))
      ∙ mul_one F z

  -- ---- the closed form, of parts of which each is the next one less what it passes on

  pub record AreParts (part : ℕ → K) : Type 0 where
    pub low : (n : ℕ) → AtMost F 𝟘 (part (suc n))
    pub nonzero : (n : ℕ) → part (suc n) ≡ 𝟘 → ⊥
    pub next : (n : ℕ) → part (suc (suc n)) ⊕ part (suc (suc n)) ⊗ part (suc n) ≡ part (suc n)

  module _ (part : ℕ → K) (P : AreParts part) (m : ℕ) where
    -- what is left where `I` remains: by the number of its members for the weights, and of the others for the edges
    abbrev pub equal_left : (ℕ → Bool) → Graph K
    equal_left I = record { weight = λ _. part (size_of m I); edge = λ l _. part (size_of m (dropping l I)) }

    next_at : (a b n : ℕ) → a ≡ suc (suc n) → b ≡ suc n → part a ⊕ part a ⊗ part b ≡ part b
    next_at a b n e f = ap₂ (λ i k. part i ⊕ part i ⊗ part k) e f ∙ P.next n ∙ ap part (sym f)

    edge_at : (a b c n : ℕ) → a ≡ suc (suc n) → b ≡ suc (suc n) → c ≡ suc n
        → (part a ⊕ part a ⊗ part b) ⊗ invert (𝟙 ⊕ negate (part a ⊗ part b)) ≡ part c
    edge_at a b c n e f g =
        ap₂ (λ i k. (part i ⊕ part i ⊗ part k) ⊗ invert (𝟙 ⊕ negate (part i ⊗ part k))) e f
        ∙ next_edge (part (suc (suc n))) (part (suc n)) (P.low (suc n)) (P.nonzero (suc n)) (P.next n) ∙ ap part (sym g)

    pub equal_closed : IsClosedForm F m equal_left
    equal_closed = record { step = steps; same = λ I J k same _. ap part (size_same m I J same) }
      where
        steps : (I : ℕ → Bool) (j : ℕ) → IsIn m I j → Agrees m (dropping j I) (without F (equal_left I) j) (equal_left (dropping j I))
        steps I j live = record { weight = weights; edge = edges }
          where
            one_less : suc (size_of m (dropping j I)) ≡ size_of m I
            one_less = size_dropped m j I live

            weights : (l : ℕ) → IsIn m (dropping j I) l → (without F (equal_left I) j).weight l ≡ part (size_of m (dropping j I))
            weights l p =
                let two_less : suc (size_of m (dropping l (dropping j I))) ≡ size_of m (dropping j I) = size_dropped m l (dropping j I) p in
                weight_other F (equal_left I) j l (live_other j I p)
                ∙ next_at (size_of m I) (size_of m (dropping j I)) (size_of m (dropping l (dropping j I))) (sym one_less ∙ ap suc (sym two_less))
                (sym two_less)

            edges : (l k : ℕ) → IsIn m (dropping j I) l → IsIn m (dropping j I) k → l ≢ k
                → (without F (equal_left I) j).edge l k ≡ part (size_of m (dropping l (dropping j I)))
            edges l k p q h =
                let other : suc (size_of m (dropping l I)) ≡ size_of m I = size_dropped m l I (live_before j I p) in
                let two_less : suc (size_of m (dropping l (dropping j I))) ≡ size_of m (dropping j I) = size_dropped m l (dropping j I) p in
                let still : IsIn m (dropping l (dropping j I)) k =
                record { below = q.below; member = dropping_other l (dropping j I) k (λ e. h (sym e)) ∙ q.member } in
                let three_less : suc (size_of m (dropping k (dropping l (dropping j I)))) ≡ size_of m (dropping l (dropping j I)) =
                size_dropped m k (dropping l (dropping j I)) still in
                edge_other F (equal_left I) j l k (live_other j I p) (live_other j I q) h
                ∙ edge_at (size_of m (dropping l I)) (size_of m (dropping j I)) (size_of m (dropping l (dropping j I)))
                (size_of m (dropping k (dropping l (dropping j I))))
                (omega (arith, one_less, other, two_less, three_less)) (sym two_less ∙ ap suc (sym three_less)) (sym three_less)

  -- equal weights and equal edges that sum to 1
  pub equal_valid : (m : ℕ) (w e : K) (G : Graph K) → AtMost F 𝟘 w → AtMost F 𝟘 e → sum_below F m (λ _. w) ≡ 𝟙
      → (1 < m → sum_below F m (λ _. e) ≡ 𝟙 ⊕ e)
      → ((i : ℕ) → i < m → G.weight i ≡ w) → ((i k : ℕ) → i < m → k < m → i ≢ k → G.edge i k ≡ e)
      → ((i : ℕ) → i < m → G.edge i i ≡ 𝟘) → IsValid F m G
  equal_valid m w e G low pass total rows weights edges loops = record {
    weight_nonneg = λ i p. subst (λ x. AtMost F 𝟘 x) (sym (weights i p)) low;
    weight_total = le_of_eq F _ _ (sum_congr F m G.weight (λ _. w) weights ∙ total);
    edge_nonneg = λ i k p q. elim (same_or_not i k) [
      | inl s ↦ subst (λ x. AtMost F 𝟘 x) (sym (ap (G.edge i) (sym s) ∙ loops i p)) (F.le_refl 𝟘)
      | inr n ↦ subst (λ x. AtMost F 𝟘 x) (sym (edges i k p q n)) pass
    ];
    no_loop = loops;
    row_total = row;
  }
    where
      filled : (i k : ℕ) → i < m → k < m → G.edge i k ⊕ e ⊗ unit F i k ≡ e
      filled i k p q = elim (same_or_not i k) [
        | inl s ↦ rw (ap (G.edge i) (sym s) ∙ loops i p, ap (unit F i) (sym s) ∙ unit_same F i) (simp ring)
        | inr n ↦ rw (edges i k p q n, unit_other F i k n) (simp ring)
      ]

      whole_row : (i : ℕ) → i < m → sum_below F m (G.edge i) ⊕ e ≡ sum_below F m (λ _. e)
      whole_row i p =
          ap (λ z. sum_below F m (G.edge i) ⊕ z) (sym (mul_one F e) ∙ ap (λ z. e ⊗ z) (sym (unit_total F m i p)) ∙ sym (sum_scale F m e (unit F i)))
          ∙ sym (sum_add F m (G.edge i) (λ k. e ⊗ unit F i k)) ∙ sum_congr F m (λ k. G.edge i k ⊕ e ⊗ unit F i k) (λ _. e) (λ k q. filled i k p q)

      row : (i : ℕ) → i < m → AtMost F (sum_below F m (G.edge i)) 𝟙
      row i p = elim (one_or_more m) [
        | inl h ↦ le_of_eq F _ _ (add_cancel F (sum_below F m (G.edge i)) 𝟙 e (whole_row i p ∙ rows h))
        | inr h ↦ eq_le F (sum_congr F m (G.edge i) (λ _. 𝟘) (λ k q. ap (G.edge i) (only_one m i k h p q) ∙ loops i p) ∙ sum_zero F m)
            (zero_le_one F)
      ]
        where
          one_or_more : (m : ℕ) → (1 < m) ⊎ (m ≤ 1)
          one_or_more m = grind arith

          only_one : (m i k : ℕ) → m ≤ 1 → i < m → k < m → k ≡ i
          only_one m i k h p q = omega (arith, h, p, q)
