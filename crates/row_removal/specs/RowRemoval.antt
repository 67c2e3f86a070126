-- The written removal of a hypothesis from rows: which operations are done, in which order and for what. All operands are old values.
use Rattle.std.specs.Prelude.{◌||◌, ◌==◌, ℕ, List, ℤ, false, if◌then◌else◌, Result, Ok, set}
use Rattle.std.specs.List.{list_all}
use Rattle.field_core.specs.declared.place.Op.TheVariants.{Add, Sub, Mul}
use Rattle.field_core.specs.declared.place.Place.{Place}
use Rattle.field_core.specs.declared.place.Place.TheVariants.{Weight, Loss, Edge}
use Rattle.field_core.specs.declared.place.Wide.{Wide}
use Rattle.field_core.specs.Kind.{is_zero_integer}
use Rattle.field_core.specs.Polynomial.{poly_negate}
use Rattle.field_core.specs.Steps.{at, each_below, ◌>>=◌}
use Rattle.removal.specs.WrittenRemoval.{is_gone}
use Rattle.eps_poly.specs.Polynomials.{zero_polynomial}
use Rattle.eps_poly.specs.Written.{sized_sum, sized_product}
use Rattle.row_removal.specs.StoredRow.{StoredRow, zero_row, numerator_at}
use Rattle.row_removal.specs.StoredRows.{StoredRows, rows_size, rows_graph, row_at}
use Rattle.row_removal.specs.Clearing.{cleared}

-- x e + y z, at one place
unfoldable pub sum_of_products : Place → (x e y z : List ℤ) → Result (List ℤ) Wide
sum_of_products place x e y z = do
  a ← at place Mul (sized_product x e)
  b ← at place Mul (sized_product y z)
  at place Add (sized_sum a b)

-- x e - y z, at one place
unfoldable pub difference_of_products : Place → (x e y z : List ℤ) → Result (List ℤ) Wide
difference_of_products place x e y z = do
  a ← at place Mul (sized_product x e)
  b ← at place Mul (sized_product y z)
  at place Sub (sized_sum a (poly_negate b))

module _ (s : StoredRows) (j : ℕ) where
  -- the denominator of the row of edges from `l`
  abbrev pub below : ℕ → List ℤ
  below l = (row_at s l).denominator

  -- the numerator of the edge from `l` to `k`
  abbrev pub above : ℕ → ℕ → List ℤ
  above l k = numerator_at (row_at s l) k

  -- the new numerator of the weight of `l`, `W_l D_j + W_j N_jl`; 0, with nothing written, if `l` is removed
  unfoldable pub new_weight : ℕ → Result (List ℤ) Wide
  new_weight l =
      if is_gone (rows_graph s) j l
      then Ok zero_polynomial
      else sum_of_products (Weight l) (numerator_at s.weights l) (below j) (numerator_at s.weights j) (above j l)

  -- the new denominator of the weights, `V D_j`
  unfoldable pub new_scale : Result (List ℤ) Wide
  new_scale = at (Weight j) Mul (sized_product s.weights.denominator (below j))

  -- the new weights
  unfoldable pub new_weights : Result StoredRow Wide
  new_weights = do
    numerators ← each_below (rows_size s) new_weight
    denominator ← new_scale
    Ok (cleared s.last (record { numerators = numerators; denominator = denominator }))

  -- the new denominator of the row of `l`, `D_l D_j - N_lj N_jl`
  unfoldable pub new_denominator : ℕ → Result (List ℤ) Wide
  new_denominator l = difference_of_products (Loss l) (below l) (below j) (above l j) (above j l)

  -- the new numerator of the edge from `l` to `k`, `N_lk D_j + N_lj N_jk`; 0, with nothing written, if `k` is removed, and if `k` is `l`
  unfoldable pub new_numerator : ℕ → ℕ → Result (List ℤ) Wide
  new_numerator l k =
      if is_gone (rows_graph s) j k || k == l
      then Ok zero_polynomial
      else sum_of_products (Edge l k) (above l k) (below j) (above l j) (above j k)

  -- the new row of `l` over a denominator; if that is 0, all edges are 0 over 1, and nothing is written
  unfoldable pub row_over : ℕ → List ℤ → Result StoredRow Wide
  row_over l d = if list_all is_zero_integer d then Ok (zero_row (rows_size s)) else do
    numerators ← each_below (rows_size s) (new_numerator l)
    Ok (cleared s.last (record { numerators = numerators; denominator = d }))

  -- the new row of `l`; zeros over 1, with nothing written, if `l` is removed
  unfoldable pub new_row : ℕ → Result StoredRow Wide
  new_row l = if is_gone (rows_graph s) j l then Ok (zero_row (rows_size s)) else do
    d ← new_denominator l
    row_over l d

  -- the rows after the removal of `j`, weights first and then edges row by row, or the first operation that is undefined
  unfoldable pub row_removal : Result StoredRows Wide
  row_removal = do
    weights ← new_weights
    edges ← each_below (rows_size s) new_row
    Ok (record { live = set s.live j false; weights = weights; edges = edges; last = below j })
