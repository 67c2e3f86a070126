-- The graph of proper rows: its weights and edges are the stored quotients of the rows, and have their numbers.
use Rattle.std.proofs.Common.{◌≡◌, ◌≢◌, inl, inr, sym, ap, subst, ◌∙◌, ℕ, zero, suc, ◌+◌, ◌*◌, ◌<◌, List, [], ◌∷◌}
use Rattle.std.proofs.Common.{◌++◌, get_or, length, length-append, arith}
use Rattle.std.specs.List.{flat_map}
use Rattle.std.proofs.lemmas.List.{get_or-map, length-map, get_or-append-add}
use Rattle.std.proofs.Math.ListN.{get_or-append}
use Rattle.std.proofs.lemmas.List.Elements.{All-get_or}
use Rattle.field_core.proofs.RemovalLaws.{same_or_not}
use Rattle.field_core.specs.Kind.{Parts}
use Rattle.field_core.specs.Exact.{value_of}
use Rattle.removal.specs.StoredGraph.{IsSquare, size, weight, edge}
use Rattle.removal.specs.ByValue.{AreStored}
use Rattle.removal.specs.Laws.Seen.{edge_apart, edge_itself}
use Rattle.eps_poly.specs.Polynomials.{zero_polynomial}
use Rattle.eps_quotient.specs.Lowering.{norm, zero_quotient}
use Rattle.eps_quotient.specs.Quotients.{quotients}
use Rattle.eps_quotient.specs.Stored.{IsQuotient}
use Rattle.eps_quotient.specs.Laws.NormLaws.{norm_is, IsStoredOf}
use Rattle.eps_quotient.specs.Laws.Exact.{zero_stored}
use Rattle.row_removal.specs.StoredRow.{StoredRow, zero_row, numerator_at, row_value, IsProperRow}
use Rattle.row_removal.specs.StoredRows.{StoredRows, rows_size, rows_graph, row_at, row_quotients}
use Rattle.row_removal.specs.Proper.{AreProperRows}
use Rattle.row_removal.specs.Laws.ClearingLaws.{numerator_is}

-- the stored quotient at a place of a row
abbrev pub quotient_at : StoredRow → ℕ → Parts
quotient_at r k = norm (numerator_at r k) r.denominator

module _ (m : ℕ) (r : StoredRow) (P : IsProperRow m r) where
  pub stored_at : (k : ℕ) → k < m → IsStoredOf (numerator_at r k) r.denominator (quotient_at r k)
  stored_at k h = norm_is _ _ (numerator_is m r k P h) P.denominator P.some

  pub value_at : (k : ℕ) → k < m → value_of (quotient_at r k) ≡ row_value r k
  value_at k h = sym (stored_at k h).value

  pub quotients_count : length (row_quotients r) ≡ m
  unfolding row_quotients
  quotients_count = length-map r.numerators (λ n. norm n r.denominator) ∙ P.count

  pub quotients_at : (k : ℕ) → k < m → get_or (row_quotients r) k zero_quotient ≡ quotient_at r k
  unfolding row_quotients numerator_at
  quotients_at k h = get_or-map (λ n. norm n r.denominator) r.numerators k zero_polynomial zero_quotient (omega (arith, P.count))

-- ---- rows one after the other

module _ (m : ℕ) where
  flat_count : (rows : List StoredRow) → ((l : ℕ) → l < length rows → length (row_quotients (get_or rows l (zero_row 0))) ≡ m)
      → length (flat_map row_quotients rows) ≡ length rows * m
  flat_count [] h = none m
    where
      none : (m : ℕ) → 0 ≡ 0 * m
      none m = omega arith
  flat_count (r ∷ rows) h =
      let first = h 0 (omega arith) in
      let rest = flat_count rows (λ l i. h (suc l) (omega arith)) in
      omega (arith, length-append (row_quotients r) (flat_map row_quotients rows), first, rest)

  flat_at : (rows : List StoredRow) → ((l : ℕ) → l < length rows → length (row_quotients (get_or rows l (zero_row 0))) ≡ m) → (l k : ℕ)
      → l < length rows → k < m
      → get_or (flat_map row_quotients rows) (l * m + k) zero_quotient ≡ get_or (row_quotients (get_or rows l (zero_row 0))) k zero_quotient
  flat_at [] h l k i b = absurd (omega arith)
  flat_at (r ∷ rows) h zero k i b =
      let first = h 0 (omega arith) in
      let at : 0 * m + k ≡ k = omega arith in
      ap (λ n. get_or (row_quotients r ++ flat_map row_quotients rows) n zero_quotient) at
      ∙ get_or-append (row_quotients r) (flat_map row_quotients rows) zero_quotient k (omega arith)
  flat_at (r ∷ rows) h (suc l) k i b =
      let first = h 0 (omega arith) in
      let at : suc l * m + k ≡ length (row_quotients r) + (l * m + k) = omega arith in
      ap (λ n. get_or (row_quotients r ++ flat_map row_quotients rows) n zero_quotient) at
      ∙ get_or-append-add (row_quotients r) (flat_map row_quotients rows) (l * m + k) zero_quotient
      ∙ flat_at rows (λ n u. h (suc n) (omega arith)) l k (omega arith) b

module _ (s : StoredRows) (P : AreProperRows s) where
  each_row : (l : ℕ) → l < rows_size s → IsProperRow (rows_size s) (row_at s l)
  unfolding row_at
  each_row l h = All-get_or (IsProperRow (rows_size s)) s.edges l (zero_row 0) (omega (arith, P.count)) P.edges

  each_count : (l : ℕ) → l < length s.edges → length (row_quotients (get_or s.edges l (zero_row 0))) ≡ rows_size s
  unfolding row_at
  each_count l h = quotients_count (rows_size s) (row_at s l) (each_row l (omega (arith, P.count)))

  pub weight_seen : (l : ℕ) → l < rows_size s → weight quotients (rows_graph s) l ≡ quotient_at s.weights l
  unfolding weight rows_graph
  weight_seen l h = quotients_at (rows_size s) s.weights P.weights l h

  pub edge_seen : (l k : ℕ) → l < rows_size s → k < rows_size s → l ≢ k → edge quotients (rows_graph s) l k ≡ quotient_at (row_at s l) k
  unfolding rows_graph row_at
  edge_seen l k h i q =
      edge_apart quotients (rows_graph s) l k q
      ∙ flat_at (rows_size s) s.edges each_count l k (omega (arith, P.count)) i
      ∙ quotients_at (rows_size s) (row_at s l) (each_row l h) k i

  pub loop_seen : (k : ℕ) → edge quotients (rows_graph s) k k ≡ zero_quotient
  loop_seen k = edge_itself quotients (rows_graph s) k

  pub weight_number : (l : ℕ) → l < rows_size s → value_of (weight quotients (rows_graph s) l) ≡ row_value s.weights l
  weight_number l h = ap value_of (weight_seen l h) ∙ value_at (rows_size s) s.weights P.weights l h

  pub edge_number : (l k : ℕ) → l < rows_size s → k < rows_size s → l ≢ k
      → value_of (edge quotients (rows_graph s) l k) ≡ row_value (row_at s l) k
  edge_number l k h i q = ap value_of (edge_seen l k h i q) ∙ value_at (rows_size s) (row_at s l) (each_row l h) k i

  pub rows_square : IsSquare (size (rows_graph s)) (length (rows_graph s).weights) (length (rows_graph s).edges)
  unfolding rows_graph
  rows_square = record {
    weights = quotients_count (rows_size s) s.weights P.weights;
    edges = flat_count (rows_size s) s.edges each_count ∙ ap (λ n. n * rows_size s) P.count;
    few = P.few;
  }

  pub rows_stored : AreStored quotients IsQuotient (rows_graph s)
  unfolding rows_graph
  rows_stored = record {
    square = rows_square;
    weights = λ k h. subst IsQuotient (sym (weight_seen k h)) (stored_at (rows_size s) s.weights P.weights k h).stored;
    edges = λ l k h i. elim (same_or_not l k) [
      | inl e ↦ rw (e, edge_itself quotients (rows_graph s) k) zero_stored
      | inr n ↦ subst IsQuotient (sym (edge_seen l k h i n)) (stored_at (rows_size s) (row_at s l) (each_row l h) k i).stored
    ];
  }
