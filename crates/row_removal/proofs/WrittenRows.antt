-- What is written of a row is proper before it is cleared.
use Rattle.std.proofs.Common.{◌≡◌, sym, subst, ℕ, ◌<◌, List, ℤ, false, length, Ok}
use Rattle.std.specs.List.{list_all}
use Rattle.field_core.specs.Kind.{is_zero_integer}
use Rattle.field_core.specs.Steps.{each_below}
use Rattle.row_removal.specs.StoredRow.{StoredRow, IsProperRow}
use Rattle.row_removal.specs.StoredRows.{StoredRows, rows_size}
use Rattle.row_removal.specs.RowRemoval.{new_weight, new_scale, new_denominator, new_numerator}
use Rattle.row_removal.specs.Proper.{AreProperRows}
use Rattle.row_removal.specs.Laws.RowPasses.{raw_weights, raw_row}

-- a row that is proper for a number of numerators is proper for its own
pub own_count : (m : ℕ) (r : StoredRow) → IsProperRow m r → IsProperRow (length r.numerators) r
own_count m r P = subst (λ n. IsProperRow n r) (sym P.count) P

module _ (s : StoredRows) (j : ℕ) (P : AreProperRows s) (j_in : j < rows_size s) where
  pub weights_written : (ns : List (List ℤ)) (d : List ℤ) → Ok ns ≡ each_below (rows_size s) (new_weight s j) → Ok d ≡ new_scale s j
      → IsProperRow (length ns) (record { numerators = ns; denominator = d })
  weights_written ns d N D = own_count (rows_size s) (record { numerators = ns; denominator = d })
      (raw_weights s j P j_in (record { numerators = ns; denominator = d }) (sym N) (sym D))

  pub row_written : (l : ℕ) (ns : List (List ℤ)) (d : List ℤ) → l < rows_size s → Ok d ≡ new_denominator s j l
      → list_all is_zero_integer d ≡ false → Ok ns ≡ each_below (rows_size s) (new_numerator s j l)
      → IsProperRow (length ns) (record { numerators = ns; denominator = d })
  row_written l ns d l_in D some N = own_count (rows_size s) (record { numerators = ns; denominator = d })
      (raw_row s j P j_in l l_in (record { numerators = ns; denominator = d }) (sym D) some (sym N))
