-- By value the gathered rows are the graph.
use Rattle.std.proofs.Common.{◌≡◌, inl, inr, sym, ap, ◌∙◌, ℕ, ◌<◌, true, false, length, get_or, arith}
use Rattle.field_core.proofs.Live.{true_or_false}
use Rattle.field_core.proofs.RemovalLaws.{same_or_not}
use Rattle.removal.specs.StoredGraph.{StoredGraph, size, is_live}
use Rattle.removal.specs.ByValue.{graph_of, AreStored, IsSound}
use Rattle.removal.specs.Laws.ByPositions.{same_graph}
use Rattle.removal.specs.Laws.LiveBelow.{live_below}
use Rattle.removal.specs.Laws.Seen.{weight_in, weight_off, edge_in, edge_off_left, edge_off_right, edge_off_loop}
use Rattle.eps_quotient.specs.Quotients.{quotients}
use Rattle.eps_quotient.specs.Stored.{IsQuotient}
use Rattle.row_removal.specs.StoredRows.{StoredRows, rows_size, rows_graph}
use Rattle.row_removal.specs.Gathering.{HasConstants}
use Rattle.row_removal.specs.Laws.GatheringLaws.{AreGathered}
use Rattle.row_removal.specs.Laws.RowGraphs.{weight_number, edge_number}

module _ (G : StoredGraph) (S : AreStored quotients IsQuotient G) (C : HasConstants G) (s : StoredRows) (A : AreGathered G S C s) where
  pub opened_size : rows_size s ≡ size G
  opened_size = ap length A.live

  pub graph_size : size (rows_graph s) ≡ size G
  unfolding rows_graph
  graph_size = opened_size

  pub live_same : (k : ℕ) → is_live (rows_graph s) k ≡ is_live G k
  unfolding rows_graph is_live
  live_same k = ap (λ xs. get_or xs k false) A.live

  within : (k : ℕ) → is_live G k ≡ true → k < size G
  within k h = live_below G k h

  weight_same : (k : ℕ) → (graph_of quotients (rows_graph s)).weight k ≡ (graph_of quotients G).weight k
  weight_same k = elim (true_or_false (is_live G k)) [
    | inl h ↦ weight_in quotients (rows_graph s) k (live_same k ∙ h) ∙ weight_number s A.proper k (omega (arith, opened_size, within k h))
        ∙ A.weights k (within k h) ∙ sym (weight_in quotients G k h)
    | inr h ↦ weight_off quotients (rows_graph s) k (live_same k ∙ h) ∙ sym (weight_off quotients G k h)
  ]

  edge_same : (l k : ℕ) → (graph_of quotients (rows_graph s)).edge l k ≡ (graph_of quotients G).edge l k
  edge_same l k = elim (same_or_not l k) [
    | inl e ↦ rw e (edge_off_loop quotients (rows_graph s) k ∙ sym (edge_off_loop quotients G k))
    | inr q ↦ elim (true_or_false (is_live G l)) [
      | inr h ↦ edge_off_left quotients (rows_graph s) l k (live_same l ∙ h) ∙ sym (edge_off_left quotients G l k h)
      | inl h ↦ elim (true_or_false (is_live G k)) [
        | inr i ↦ edge_off_right quotients (rows_graph s) l k (live_same k ∙ i) ∙ sym (edge_off_right quotients G l k i)
        | inl i ↦
            edge_in quotients (rows_graph s) l k (live_same l ∙ h) (live_same k ∙ i) q
            ∙ edge_number s A.proper l k (omega (arith, opened_size, within l h)) (omega (arith, opened_size, within k i)) q
            ∙ A.edges l k (within l h) (within k i) ∙ sym (edge_in quotients G l k h i q)
      ]
    ]
  ]

  -- the weights and edges are those that were given
  pub opened_value : graph_of quotients (rows_graph s) ≡ graph_of quotients G
  opened_value = same_graph _ _ weight_same edge_same

  pub opened_sound : IsSound quotients G → IsSound quotients (rows_graph s)
  opened_sound valid = rw (opened_value, graph_size) valid
