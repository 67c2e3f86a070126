-- A graph with the right weights and edges at the positions that stay is the one after the removal.
use Rattle.std.proofs.Common.{◌≡◌, ◌≢◌, ◌⊎◌, inl, inr, refl, sym, ap, ap₂, ◌∙◌, ℕ, true, false}
use mathlib.Core.Path.{fun_ext}
use Rattle.field_core.specs.Number.{Number}
use Rattle.field_core.specs.Arithmetic.{number_zero, number_one, ◌+ε◌, ◌-ε◌, ◌*ε◌, ◌/ε◌}
use Rattle.field_core.specs.Laws.Order.{number_divide_is, number_multiply_zero, number_zero_multiply}
use Rattle.field_core.specs.Laws.NumberLaws.{number_add_zero}
use Rattle.field_core.specs.NumberField.{number_field}
use Rattle.field_core.specs.Graph.{Graph}
use Rattle.field_core.specs.Removal.{without}
use Rattle.field_core.specs.Sets.{dropping}
use Rattle.field_core.proofs.Live.{true_or_false, dropping_same, dropping_other}
use Rattle.field_core.proofs.RemovalLaws.{same_or_not}
use Rattle.field_core.specs.Kind.{Kind}
use Rattle.field_core.specs.Exact.{value_of}
use Rattle.removal.specs.StoredGraph.{StoredGraph, size, is_live, weight, edge}
use Rattle.removal.specs.ByValue.{graph_of}
use Rattle.removal.specs.Exactness.{IsRemoved}
use Rattle.removal.specs.Laws.After.{weight_after, edge_after, weight_removed, row_removed, column_removed, loop_removed}
use Rattle.removal.specs.Laws.Seen.{weight_in, weight_off, edge_in, edge_off_left, edge_off_right, edge_off_loop}

pub same_graph : (A B : Graph Number) → ((l : ℕ) → A.weight l ≡ B.weight l) → ((l k : ℕ) → A.edge l k ≡ B.edge l k) → A ≡ B
same_graph A B h g = made (fun_ext h) (fun_ext (λ l. fun_ext (g l)))
  where
    made : A.weight ≡ B.weight → A.edge ≡ B.edge → A ≡ B
    made p q = ap₂ {C = Graph Number} (λ w e. record { weight = w; edge = e }) p q

zero_divide : (x : Number) → number_zero /ε x ≡ number_zero
zero_divide x = number_divide_is number_zero x ∙ number_zero_multiply _

module _ (K : Kind) (G H : StoredGraph) (j : ℕ) where
  -- the new weights, by value
  abbrev pub WeightsFollow : Type 0
  WeightsFollow = (l : ℕ) → is_live G l ≡ true → l ≢ j
      → value_of (weight K H l) ≡ value_of (weight K G l) +ε value_of (weight K G j) *ε value_of (edge K G j l)

  -- the new edges, by value
  abbrev pub EdgesFollow : Type 0
  EdgesFollow =
      (l k : ℕ) → is_live G l ≡ true → l ≢ j → is_live G k ≡ true → k ≢ j → l ≢ k
      → value_of (edge K H l k) ≡ (value_of (edge K G l k) +ε value_of (edge K G l j) *ε value_of (edge K G j k)) /ε
      (number_one -ε value_of (edge K G l j) *ε value_of (edge K G j l))

  module _ (live : is_live G j ≡ true) (same_size : size H ≡ size G) (live_after : (i : ℕ)
      → is_live H i ≡ dropping j (is_live G) i) (weights : WeightsFollow) (edges : EdgesFollow) where
    live_in : (l : ℕ) → is_live G l ≡ true → l ≢ j → is_live H l ≡ true
    live_in l h n = live_after l ∙ dropping_other j (is_live G) l n ∙ h

    dead_in : (l : ℕ) → is_live G l ≡ false → l ≢ j → is_live H l ≡ false
    dead_in l h n = live_after l ∙ dropping_other j (is_live G) l n ∙ h

    gone_in : is_live H j ≡ false
    gone_in = live_after j ∙ dropping_same j (is_live G)

    weight_here : (l : ℕ) → is_live G l ≡ true → l ≢ j → (graph_of K H).weight l ≡ (without number_field (graph_of K G) j).weight l
    weight_here l h n =
        weight_in K H l (live_in l h n) ∙ weights l h n
        ∙ sym (weight_after (graph_of K G) j l n
        ∙ ap₂ ◌+ε◌ (weight_in K G l h) (ap₂ ◌*ε◌ (weight_in K G j live) (edge_in K G j l live h (λ e. n (sym e)))))

    same_weight : (l : ℕ) → (graph_of K H).weight l ≡ (without number_field (graph_of K G) j).weight l
    same_weight l = elim (same_or_not l j) [
      | inl e ↦ rw e (weight_off K H j gone_in ∙ sym (weight_removed (graph_of K G) j))
      | inr n ↦ elim (true_or_false (is_live G l)) [
        | inl h ↦ weight_here l h n
        | inr h ↦ weight_off K H l (dead_in l h n)
            ∙ sym (weight_after (graph_of K G) j l n
            ∙ ap₂ ◌+ε◌ (weight_off K G l h) (ap (λ v. (graph_of K G).weight j *ε v) (edge_off_right K G j l h) ∙ number_multiply_zero _)
            ∙ number_add_zero number_zero)
      ]
    ]

    edge_here : (l k : ℕ) → is_live G l ≡ true → l ≢ j → is_live G k ≡ true → k ≢ j → l ≢ k
        → (graph_of K H).edge l k ≡ (without number_field (graph_of K G) j).edge l k
    edge_here l k h n i m q =
        let jk = edge_in K G j k live i (λ e. m (sym e)) in
        let lj = edge_in K G l j h live n in
        let jl = edge_in K G j l live h (λ e. n (sym e)) in
        edge_in K H l k (live_in l h n) (live_in k i m) q ∙ edges l k h n i m q
        ∙ sym (edge_after (graph_of K G) j l k n m q
        ∙ ap₂ ◌/ε◌ (ap₂ ◌+ε◌ (edge_in K G l k h i q) (ap₂ ◌*ε◌ lj jk)) (ap (λ v. number_one -ε v) (ap₂ ◌*ε◌ lj jl)))

    no_edge : (l k : ℕ) → l ≢ j → k ≢ j → l ≢ k → (graph_of K G).edge l k ≡ number_zero → ((graph_of K G).edge l j ≡ number_zero)
        ⊎ ((graph_of K G).edge j k ≡ number_zero) → (without number_field (graph_of K G) j).edge l k ≡ number_zero
    no_edge l k n m q e z = edge_after (graph_of K G) j l k n m q ∙ ap₂ ◌/ε◌ (ap₂ ◌+ε◌ e (nothing z) ∙ number_add_zero number_zero) refl
        ∙ zero_divide _
      where
        nothing : ((graph_of K G).edge l j ≡ number_zero) ⊎ ((graph_of K G).edge j k ≡ number_zero)
            → (graph_of K G).edge l j *ε (graph_of K G).edge j k ≡ number_zero
        nothing (inl y) = ap (λ v. v *ε (graph_of K G).edge j k) y ∙ number_zero_multiply _
        nothing (inr y) = ap (λ v. (graph_of K G).edge l j *ε v) y ∙ number_multiply_zero _

    same_edge : (l k : ℕ) → (graph_of K H).edge l k ≡ (without number_field (graph_of K G) j).edge l k
    same_edge l k = elim (same_or_not l k) [
      | inl e ↦ rw e (edge_off_loop K H k ∙ sym (loop_removed (graph_of K G) j k))
      | inr q ↦ elim (same_or_not l j) [
        | inl e ↦ rw e (edge_off_left K H j k gone_in ∙ sym (row_removed (graph_of K G) j k))
        | inr n ↦ elim (same_or_not k j) [
          | inl e ↦ rw e (edge_off_right K H l j gone_in ∙ sym (column_removed (graph_of K G) j l))
          | inr m ↦ elim (true_or_false (is_live G l)) [
            | inr h ↦ edge_off_left K H l k (dead_in l h n) ∙ sym (no_edge l k n m q (edge_off_left K G l k h) (inl (edge_off_left K G l j h)))
            | inl h ↦ elim (true_or_false (is_live G k)) [
              | inr i ↦ edge_off_right K H l k (dead_in k i m) ∙ sym (no_edge l k n m q (edge_off_right K G l k i) (inr (edge_off_right K G j k i)))
              | inl i ↦ edge_here l k h n i m q
            ]
          ]
        ]
      ]
    ]

    pub removed_by_positions : IsRemoved K G H j
    removed_by_positions = record {
      same_size = same_size;
      live = fun_ext live_after;
      value = same_graph (graph_of K H) (without number_field (graph_of K G) j) same_weight same_edge;
    }
