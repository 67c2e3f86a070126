-- The gathered rows are those of a net.
use Rattle.std.proofs.Common.{◌≡◌, sym, ap, subst, ◌∙◌, ℕ, true, List, length, replicate, Result, Ok, arith}
use Rattle.std.proofs.lemmas.List.{length-replicate, length-map, get_or-replicate}
use Rattle.std.proofs.lemmas.List.Elements.{All-from_get_or}
use Rattle.field_core.specs.declared.place.Wide.{Wide}
use Rattle.removal.specs.StoredGraph.{IsSquare, all_live, AreAllLive}
use Rattle.removal.specs.ByValue.{graph_of, IsSound}
use Rattle.removal.proofs.Opening.{are_all_live}
use Rattle.eps_poly.specs.Polynomials.{zero_polynomial}
use Rattle.eps_quotient.specs.Quotients.{quotients}
use Rattle.eps_quotient.specs.View.{quotient_parts}
use Rattle.eps_quotient.specs.declared.quotient.EpsQuotient.{EpsQuotient}
use Rattle.row_removal.specs.StoredRow.{StoredRow, zero_row}
use Rattle.row_removal.specs.StoredRows.{StoredRows, rows_size, rows_graph, zero_rows}
use Rattle.row_removal.specs.Proper.{AreProperRows, HasRoom}
use Rattle.row_removal.specs.Gathering.{HasConstants, gathered}
use Rattle.row_removal.specs.GivenView.{graph_given}
use Rattle.row_removal.specs.Laws.GatheringLaws.{AreGathered, are_gathered}
use Rattle.row_removal.specs.Laws.OpenedRows.{opened_size, graph_size, live_same, opened_value, opened_sound}
use Rattle.row_removal.proofs.Given.{size_given, given_stored}

-- ---- rows of zeros

pub zero_count : (m : ℕ) → length (zero_row m).numerators ≡ m
unfolding zero_row
zero_count m = length-replicate m zero_polynomial

pub zeros_room : (m n : ℕ) → n ≡ m → HasRoom n (zero_rows m)
unfolding zero_rows
zeros_room m n e = rw e (record {
  size = length-replicate m true;
  weights = zero_count m;
  count = length-replicate m (zero_row m);
  edges = All-from_get_or (λ (r : StoredRow). length r.numerators ≡ m) (replicate m (zero_row m)) (zero_row m)
      (λ k h. subst (λ (r : StoredRow). length r.numerators ≡ m)
      (sym (get_or-replicate m k (zero_row m) (zero_row m) (omega (arith, length-replicate m (zero_row m))))) (zero_count m));
})

module _ (ws es : List EpsQuotient) where
  pub zeros_live : (zero_rows (length ws)).live ≡ (graph_given ws es).live
  unfolding zero_rows all_live
  zeros_live = sym (ap (λ n. replicate n true) (length-map ws quotient_parts))

  module _ (S : IsSquare (length ws) (length ws) (length es)) (C : HasConstants (graph_given ws es)) (s : StoredRows)
      (h : Path (Result StoredRows Wide) (Ok s) (gathered (graph_given ws es))) where
    all : AreGathered (graph_given ws es) (given_stored ws es S) C s
    all = are_gathered (graph_given ws es) (given_stored ws es S) C s (sym h)

    pub rows_proper : AreProperRows s
    rows_proper = all.proper

    pub rows_count : rows_size s ≡ length ws
    rows_count = opened_size (graph_given ws es) (given_stored ws es S) C s all ∙ size_given ws es

    pub rows_sound : IsSound quotients (graph_given ws es) → IsSound quotients (rows_graph s)
    rows_sound valid = opened_sound (graph_given ws es) (given_stored ws es S) C s all valid

    pub rows_value : graph_of quotients (rows_graph s) ≡ graph_of quotients (graph_given ws es)
    rows_value = opened_value (graph_given ws es) (given_stored ws es S) C s all

    pub rows_live : AreAllLive (rows_graph s)
    rows_live k i =
        live_same (graph_given ws es) (given_stored ws es S) C s all k
        ∙ are_all_live _ _ k (rw (← graph_size (graph_given ws es) (given_stored ws es S) C s all) i)
