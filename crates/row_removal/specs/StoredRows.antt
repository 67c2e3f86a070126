-- A weighted graph in rows: the weights, and the edges of each hypothesis, are numerators over one denominator.
use Rattle.std.specs.Prelude.{ℕ, List, Bool, true, ℤ, map, length, get_or, replicate}
use Rattle.std.specs.List.{flat_map}
use Rattle.field_core.specs.Kind.{Parts}
use Rattle.removal.specs.StoredGraph.{StoredGraph}
use Rattle.eps_quotient.specs.Lowering.{norm, one_polynomial}
use Rattle.row_removal.specs.StoredRow.{StoredRow, zero_row}

-- The remaining hypotheses are marked. `last` is the denominator that the row of the last removed hypothesis had when it was removed, and 1 before
-- the first removal.
pub record StoredRows : Type 0 where
  pub live : List Bool
  pub weights : StoredRow
  pub edges : List StoredRow
  pub last : List ℤ

-- `m` hypotheses, all of which remain, with weights and edges of 0
unfoldable pub zero_rows : ℕ → StoredRows
zero_rows m = record { live = replicate m true; weights = zero_row m; edges = replicate m (zero_row m); last = one_polynomial }

-- the number of hypotheses, removed or not
abbrev pub rows_size : StoredRows → ℕ
rows_size s = length s.live

-- the row of edges from `l`
unfoldable pub row_at : StoredRows → ℕ → StoredRow
row_at s l = get_or s.edges l (zero_row 0)

-- the quotients of a row, each as it is stored by itself
unfoldable pub row_quotients : StoredRow → List Parts
row_quotients r = map (λ n. norm n r.denominator) r.numerators

-- the graph of the rows: each weight and each edge as the stored quotient of its numerator and the denominator of its row
unfoldable pub rows_graph : StoredRows → StoredGraph
rows_graph s = record { live = s.live; weights = row_quotients s.weights; edges = flat_map row_quotients s.edges }
