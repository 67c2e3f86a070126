-- Component weights of three small graphs.
use Rattle.std.proofs.Common.{◌≡◌, inl, inr, refl, sym, ap, ◌∙◌, ℕ, zero, suc, ◌<◌, arith, Bool, [], ◌∷◌}
use Rattle.field_core.specs.Field.{OrderedField, AtMost}
use Rattle.field_core.specs.Sums.{sum_below, dot}
use Rattle.field_core.specs.Graph.{Graph}
use Rattle.field_core.specs.Sets.{IsIn, set_of}
use Rattle.field_core.specs.Walks.{IsWalkSolution, IsComponentWeight}
use Rattle.textbook.specs.Examples.{entry, graph_without_edges, arrow_graph, pair_graph}
use Rattle.field_core.proofs.FieldLaws.{add_zero, ring}
use Rattle.field_core.proofs.Orders.{is, le_add}
use Rattle.field_core.proofs.SumLaws.{sum_congr}
use Rattle.field_core.proofs.Dots.{dot_zero, zero_dot, dot_nonneg}
use Rattle.field_core.proofs.Live.{true_or_false}

-- what holds of each position holds of all
two : (P : ℕ → Type 0) → P 0 → P 1 → (r : ℕ) → r < 2 → P r
two P a b zero p = a
two P a b (suc zero) p = b
two P a b (suc (suc r)) p = absurd (omega arith)

three : (P : ℕ → Type 0) → P 0 → P 1 → P 2 → (r : ℕ) → r < 3 → P r
three P a b c zero p = a
three P a b c (suc zero) p = b
three P a b c (suc (suc zero)) p = c
three P a b c (suc (suc (suc r))) p = absurd (omega arith)

module _ {K : Type 0} (F : OrderedField K) where
  open F use {𝟘, 𝟙, ◌⊕◌, ◌⊗◌}

  infix 50 ◌≼◌
  abbrev ◌≼◌ : K → K → Type 0
  a ≼ b = AtMost F a b

  dot_two : (u v : ℕ → K) → dot F 2 u v ≡ 𝟘 ⊕ u 0 ⊗ v 0 ⊕ u 1 ⊗ v 1
  unfolding dot sum_below
  dot_two u v = refl

  dot_same : (m : ℕ) (u h h' : ℕ → K) → ((r : ℕ) → r < m → h r ≡ h' r) → dot F m u h ≡ dot F m u h'
  unfolding dot
  dot_same m u h h' e = sum_congr F m (λ i. u i ⊗ h i) (λ i. u i ⊗ h' i) (λ r p. ap (λ z. u r ⊗ z) (e r p))

  -- The only walk solution gives the weight.
  only_solution : (m : ℕ) (G : Graph K) (I : ℕ → Bool) (k : ℕ) (h : ℕ → K) (x : K) → IsWalkSolution F m G I k h
      → x ≡ G.weight k ⊕ dot F m G.weight h
      → ((h' : ℕ → K) → IsWalkSolution F m G I k h' → (r : ℕ) → r < m → h r ≡ h' r) → IsComponentWeight F m G I k x
  only_solution m G I k h x S e only = record {
    solution = h;
    is_solution = S;
    gives = e;
    least = λ h' S'. is F (e ∙ ap (λ z. G.weight k ⊕ z) (dot_same m G.weight h h' (only h' S')));
  }

  pub no_edges : (m : ℕ) (w : ℕ → K) (I : ℕ → Bool) (k : ℕ) → IsIn m I k → IsComponentWeight F m (graph_without_edges F w) I k (w k)
  no_edges m w I k p =
      only_solution m (graph_without_edges F w) I k (λ _. 𝟘) (w k)
      record { nonneg = λ r _. F.le_refl 𝟘; elsewhere = λ r _ _. refl; solves = λ r _ _. sym (nothing (λ _. 𝟘)) }
      (sym (ap (λ z. w k ⊕ z) (dot_zero F m w) ∙ add_zero F (w k)))
      (λ h' S r q. elim (true_or_false (I r)) [ inl t ↦ sym (S.elsewhere r q t) | inr f ↦ sym (S.solves r q f ∙ nothing h') ])
    where
      nothing : (h : ℕ → K) → 𝟘 ⊕ dot F m (λ _. 𝟘) h ≡ 𝟘
      nothing h = ap (λ z. 𝟘 ⊕ z) (zero_dot F m h) ∙ add_zero F 𝟘

  arrow_row : (g : K) (h : ℕ → K) → h 1 ≡ 𝟘 → g ⊕ dot F 2 (entry F (𝟘 ∷ g ∷ [])) h ≡ g
  arrow_row g h e = rw (dot_two (entry F (𝟘 ∷ g ∷ [])) h, e) (simp ring)

  arrow_value : (w1 w2 g : K) → w2 ⊕ w1 ⊗ g ≡ w2 ⊕ (𝟘 ⊕ w1 ⊗ g ⊕ w2 ⊗ 𝟘)
  arrow_value w1 w2 g = simp ring

  pub arrow : (w1 w2 g : K) → 𝟘 ≼ g → IsComponentWeight F 2 (arrow_graph F w1 w2 g) (set_of (1 ∷ [])) 1 (w2 ⊕ w1 ⊗ g)
  arrow w1 w2 g nonneg =
      only_solution 2 (arrow_graph F w1 w2 g) (set_of (1 ∷ [])) 1 (entry F (g ∷ [])) (w2 ⊕ w1 ⊗ g)
      record {
        nonneg = two (λ r. 𝟘 ≼ entry F (g ∷ []) r) nonneg (F.le_refl 𝟘);
        elsewhere = two _ (λ e. absurd (cc)) (λ _. refl);
        solves = two _ (λ _. sym (arrow_row g (entry F (g ∷ [])) refl)) (λ e. absurd (cc));
      }
      (arrow_value w1 w2 g ∙ ap (λ z. w2 ⊕ z) (sym (dot_two (entry F (w1 ∷ w2 ∷ [])) (entry F (g ∷ [])))))
      (λ h' S. let z : h' 1 ≡ 𝟘 = S.elsewhere 1 (omega arith) refl in
      two (λ r. entry F (g ∷ []) r ≡ h' r) (sym (S.solves 0 (omega arith) refl ∙ arrow_row g h' z)) (sym z))

  -- That nothing comes from the two is the least solution.
  pub closed_pair : (w1 w2 w3 : K) → 𝟘 ≼ w1 → 𝟘 ≼ w2 → 𝟘 ≼ w3 → IsComponentWeight F 3 (pair_graph F w1 w2 w3) (set_of (2 ∷ [])) 2 w3
  closed_pair w1 w2 w3 p q r = record {
    solution = λ _. 𝟘;
    is_solution = record { nonneg = λ r _. F.le_refl 𝟘; elsewhere = λ r _ _. refl; solves = three _ (λ _. nothing _) (λ _. nothing _) (λ t. absurd (cc)) };
    gives = sym (ap (λ z. w3 ⊕ z) (dot_zero F 3 (pair_graph F w1 w2 w3).weight) ∙ add_zero F w3);
    least = λ h' S. le_add F w3 _ (dot_nonneg F 3 (pair_graph F w1 w2 w3).weight h' (three _ p q r) S.nonneg);
  }
    where
      nothing : (u : ℕ → K) → 𝟘 ≡ 𝟘 ⊕ dot F 3 u (λ _. 𝟘)
      nothing u = sym (ap (λ z. 𝟘 ⊕ z) (dot_zero F 3 u) ∙ add_zero F 𝟘)
