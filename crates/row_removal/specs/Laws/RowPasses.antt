-- What a written removal from rows that isn't refused did, and the numbers of the new rows.
use Rattle.std.proofs.Common.{◌≡◌, refl, sym, ap, subst, ◌∙◌, ℕ, ◌<◌, ◌||◌, ◌==◌, inl, inr, true, false, List, set, replicate, length}
use Rattle.std.proofs.Common.{ℤ, pos, Option, Some, Ok, arith, length-set}
use Rattle.std.specs.List.{list_all}
use Rattle.std.proofs.lemmas.List.{get_or-replicate, length-replicate}
use Rattle.std.proofs.lemmas.List.Elements.{All-get_or, All-from_get_or}
use Rattle.field_core.specs.declared.place.Op.{Op}
use Rattle.field_core.specs.declared.place.Op.TheVariants.{Add, Sub, Mul}
use Rattle.field_core.specs.declared.place.Place.{Place}
use Rattle.field_core.specs.declared.place.Place.TheVariants.{Weight, Loss, Edge}
use Rattle.field_core.proofs.Live.{true_or_false}
use Rattle.field_core.specs.Kind.{is_zero_integer}
use Rattle.field_core.specs.Number.{Number}
use Rattle.field_core.specs.Arithmetic.{number_zero, number_one, ◌+ε◌, ◌-ε◌, ◌*ε◌, ◌/ε◌}
use Rattle.field_core.specs.Fractions.{quotient}
use Rattle.field_core.specs.Laws.PolynomialLaws.{nonzero-multiply, same_sym}
use Rattle.field_core.specs.Polynomial.{lowest, Same, poly_add, poly_negate, IsNonZero}
use Rattle.field_core.specs.Steps.{at, each_below, ◌>>=◌}
use Rattle.removal.specs.WrittenRemoval.{is_gone}
use Rattle.field_core.specs.Laws.Prefixes.{bind_ok, at_ok, step_ok, ok_same, each_length, each_get}
use Rattle.eps_poly.specs.Polynomials.{IsPolynomial, zero_polynomial}
use Rattle.eps_poly.specs.Written.{sized_sum, sized_product}
use Rattle.eps_poly.proofs.Coefficients.{length-negate}
use Rattle.eps_poly.proofs.SumLaws.{sum_polynomial, sum_is_exact}
use Rattle.eps_poly.proofs.ProductLaws.{product_polynomial, product_is_exact}
use Rattle.eps_poly.proofs.Validity.{zero_valid}
use Rattle.eps_quotient.specs.Laws.QuotientLaws.{same_nonzero, zero_value}
use Rattle.eps_quotient.specs.Laws.LowerLaws.{zeros_lowest, others_lowest, zero_lowest, one_some, one_held}
use Rattle.eps_quotient.specs.Lowering.{one_polynomial}
use Rattle.row_removal.specs.StoredRow.{StoredRow, zero_row, numerator_at, row_value, IsProperRow}
use Rattle.row_removal.specs.StoredRows.{StoredRows, rows_size, rows_graph, row_at}
use Rattle.row_removal.specs.Clearing.{cleared}
use Rattle.row_removal.specs.RowRemoval.{sum_of_products, difference_of_products, below, above, new_weight, new_scale, new_weights, new_denominator}
use Rattle.row_removal.specs.RowRemoval.{new_numerator, row_over, new_row, row_removal}
use Rattle.row_removal.specs.Proper.{AreProperRows}
use Rattle.removal.specs.Laws.WrittenValues.{divide_zero}
use Rattle.row_removal.specs.Laws.ClearingLaws.{HasValues, numerator_is, each_is, cleared_values}
use Rattle.row_removal.specs.Laws.RowNumbers.{merged_value, edge_over, loss_none}

-- ---- three operations at one place

pub record Three (first second : Option (List ℤ)) (third : List ℤ → List ℤ → Option (List ℤ)) (x : List ℤ) : Type 0 where
  pub a : List ℤ
  pub b : List ℤ
  pub first_is : first ≡ Some a
  pub second_is : second ≡ Some b
  pub third_is : third a b ≡ Some x

three : (p : Place) (op : Op) (first second : Option (List ℤ)) (third : List ℤ → List ℤ → Option (List ℤ)) (x : List ℤ)
    → (at p Mul first >>= (λ a. at p Mul second >>= (λ b. at p op (third a b)))) ≡ Ok x → Three first second third x
three p op first second third x h =
    let a = step_ok p Mul first _ x h in
    let b = step_ok p Mul second _ x a.1.1 in
    record { a = a.0; b = b.0; first_is = a.1.0; second_is = b.1.0; third_is = at_ok p op _ x b.1.1 }

-- a difference as the sum with the opposite
abbrev pub less : List ℤ → List ℤ → Option (List ℤ)
less a b = sized_sum a (poly_negate b)

sum_parts : (p : Place) (x e y z t : List ℤ) → sum_of_products p x e y z ≡ Ok t → Three (sized_product x e) (sized_product y z) sized_sum t
unfolding sum_of_products
sum_parts p x e y z t h = three p Add _ _ sized_sum t h

difference_parts : (p : Place) (x e y z t : List ℤ) → difference_of_products p x e y z ≡ Ok t → Three (sized_product x e) (sized_product y z) less t
unfolding difference_of_products
difference_parts p x e y z t h = three p Sub _ _ less t h

-- ---- zeros

pub zero_row_proper : (m : ℕ) → IsProperRow m (zero_row m)
unfolding zero_row
zero_row_proper m = record {
  count = length-replicate m zero_polynomial;
  numerators = All-from_get_or IsPolynomial (replicate m zero_polynomial) zero_polynomial
      (λ k h. subst IsPolynomial (sym (get_or-replicate m k zero_polynomial zero_polynomial (omega (arith, length-replicate m zero_polynomial)))) zero_valid);
  denominator = one_held;
  some = one_some;
}

zero_row_value : (m k : ℕ) → k < m → row_value (zero_row m) k ≡ number_zero
unfolding zero_row numerator_at
zero_row_value m k h = ap (λ n. quotient n one_polynomial) (get_or-replicate m k zero_polynomial zero_polynomial h)
    ∙ zero_value zero_polynomial one_polynomial one_some zero_lowest

module _ (s : StoredRows) (j : ℕ) (P : AreProperRows s) (j_in : j < rows_size s) where
  pub row_proper : (l : ℕ) → l < rows_size s → IsProperRow (rows_size s) (row_at s l)
  unfolding row_at
  row_proper l h = All-get_or (IsProperRow (rows_size s)) s.edges l (zero_row 0) (omega (arith, P.count)) P.edges

  pub row_some : (l : ℕ) → l < rows_size s → IsNonZero (row_at s l).denominator
  row_some l h = (row_proper l h).some

  entry : (l k : ℕ) → l < rows_size s → k < rows_size s → IsPolynomial (above s j l k)
  entry l k h i = numerator_is (rows_size s) (row_at s l) k (row_proper l h) i

  -- ---- the row of weights

  weight_is : (l : ℕ) → is_gone (rows_graph s) j l ≡ false → new_weight s j l
      ≡ sum_of_products (Weight l) (numerator_at s.weights l) (below s j j) (numerator_at s.weights j) (above s j j l)
  unfolding new_weight
  weight_is l h = rw h refl

  weight_gone : (l : ℕ) → is_gone (rows_graph s) j l ≡ true → new_weight s j l ≡ Ok zero_polynomial
  unfolding new_weight
  weight_gone l h = rw h refl

  weight_parts : (l : ℕ) (x : List ℤ) → is_gone (rows_graph s) j l ≡ false → new_weight s j l ≡ Ok x
      → Three (sized_product (numerator_at s.weights l) (below s j j)) (sized_product (numerator_at s.weights j) (above s j j l)) sized_sum x
  weight_parts l x g h = sum_parts (Weight l) _ _ _ _ x (sym (weight_is l g) ∙ h)

  weight_held : (l : ℕ) (x : List ℤ) → new_weight s j l ≡ Ok x → IsPolynomial x
  weight_held l x h = elim (true_or_false (is_gone (rows_graph s) j l)) [
    | inl g ↦ subst IsPolynomial (ok_same _ zero_polynomial x (weight_gone l g) h) zero_valid
    | inr g ↦ let t = weight_parts l x g h in sum_polynomial t.a t.b x t.third_is
  ]

  -- the new weights before they are cleared
  pub record WeightsMade (r : StoredRow) : Type 0 where
    pub raw : StoredRow
    pub numerators : each_below (rows_size s) (new_weight s j) ≡ Ok raw.numerators
    pub denominator : new_scale s j ≡ Ok raw.denominator
    pub is : cleared s.last raw ≡ r

  weights_made : (r : StoredRow) → new_weights s j ≡ Ok r → WeightsMade r
  unfolding new_weights
  weights_made r h =
      let a = bind_ok (each_below (rows_size s) (new_weight s j)) _ r h in
      let b = bind_ok (new_scale s j) _ r a.1.1 in
      record {
        raw = record { numerators = a.0; denominator = b.0 };
        numerators = a.1.0;
        denominator = b.1.0;
        is = ok_same (Ok r) _ r (sym b.1.1) refl;
      }

  scale_product : (d : List ℤ) → new_scale s j ≡ Ok d → sized_product s.weights.denominator (below s j j) ≡ Some d
  unfolding new_scale
  scale_product d h = at_ok (Weight j) Mul _ d h

  -- what is written of the weights is proper
  pub raw_weights : (raw : StoredRow) → each_below (rows_size s) (new_weight s j) ≡ Ok raw.numerators → new_scale s j ≡ Ok raw.denominator
      → IsProperRow (rows_size s) raw
  unfolding numerator_at
  raw_weights raw N scale =
      let D = scale_product raw.denominator scale in
      let count = each_length _ _ raw.numerators N in
      record {
        count = count;
        numerators = each_is (rows_size s) raw count (λ k h. weight_held k _ (each_get _ _ raw.numerators N zero_polynomial k h));
        denominator = product_polynomial _ _ _ D;
        some = same_nonzero _ _ (same_sym raw.denominator _ (product_is_exact _ _ _ D))
            (nonzero-multiply s.weights.denominator (below s j j) P.weights.some (row_proper j j_in).some);
      }

  module _ (r : StoredRow) (W : WeightsMade r) where
    raw_weight : (l : ℕ) → l < rows_size s → new_weight s j l ≡ Ok (numerator_at W.raw l)
    unfolding numerator_at
    raw_weight l h = each_get _ _ W.raw.numerators W.numerators zero_polynomial l h

    weights_values : HasValues (rows_size s) W.raw r
    weights_values = subst (HasValues (rows_size s) W.raw) W.is
        (cleared_values (rows_size s) s.last W.raw P.last P.last_some (raw_weights W.raw W.numerators W.denominator))

    pub weights_proper : IsProperRow (rows_size s) r
    weights_proper = weights_values.proper

    pub weight_value : (l : ℕ) → l < rows_size s → is_gone (rows_graph s) j l ≡ false
        → row_value r l ≡ row_value s.weights l +ε row_value s.weights j *ε row_value (row_at s j) l
    weight_value l h g =
        let t = weight_parts l _ g (raw_weight l h) in
        let ka = product_polynomial _ _ _ t.first_is in
        let kb = product_polynomial _ _ _ t.second_is in
        weights_values.value l h
        ∙ merged_value (numerator_at s.weights l) (numerator_at s.weights j) s.weights.denominator
        (above s j j l) (below s j j) t.a t.b (numerator_at W.raw l) W.raw.denominator
        P.weights.some (row_proper j j_in).some (product_is_exact _ _ _ t.first_is) (product_is_exact _ _ _ t.second_is)
        (sum_is_exact t.a t.b _ ka.count kb.count t.third_is) (product_is_exact _ _ _ (scale_product W.raw.denominator W.denominator))

  -- ---- a row of edges

  denominator_parts : (l : ℕ) (d : List ℤ) → new_denominator s j l ≡ Ok d
      → Three (sized_product (below s j l) (below s j j)) (sized_product (above s j l j) (above s j j l)) less d
  unfolding new_denominator
  denominator_parts l d h = difference_parts (Loss l) _ _ _ _ d h

  numerator_is_sum : (l k : ℕ) → (is_gone (rows_graph s) j k || k == l) ≡ false → new_numerator s j l k
      ≡ sum_of_products (Edge l k) (above s j l k) (below s j j) (above s j l j) (above s j j k)
  unfolding new_numerator
  numerator_is_sum l k h = rw h refl

  numerator_none : (l k : ℕ) → (is_gone (rows_graph s) j k || k == l) ≡ true → new_numerator s j l k ≡ Ok zero_polynomial
  unfolding new_numerator
  numerator_none l k h = rw h refl

  numerator_parts : (l k : ℕ) (x : List ℤ) → (is_gone (rows_graph s) j k || k == l) ≡ false → new_numerator s j l k ≡ Ok x
      → Three (sized_product (above s j l k) (below s j j)) (sized_product (above s j l j) (above s j j k)) sized_sum x
  numerator_parts l k x g h = sum_parts (Edge l k) _ _ _ _ x (sym (numerator_is_sum l k g) ∙ h)

  numerator_held : (l k : ℕ) (x : List ℤ) → new_numerator s j l k ≡ Ok x → IsPolynomial x
  numerator_held l k x h = elim (true_or_false (is_gone (rows_graph s) j k || k == l)) [
    | inl g ↦ subst IsPolynomial (ok_same _ zero_polynomial x (numerator_none l k g) h) zero_valid
    | inr g ↦ let t = numerator_parts l k x g h in sum_polynomial t.a t.b x t.third_is
  ]

  -- by value the new edge is this
  abbrev pub edge_number : ℕ → ℕ → Number
  edge_number l k = (row_value (row_at s l) k +ε row_value (row_at s l) j *ε row_value (row_at s j) k) /ε
      (number_one -ε row_value (row_at s l) j *ε row_value (row_at s j) l)

  -- a new row of edges
  pub record RowIs (l : ℕ) (r : StoredRow) : Type 0 where
    pub proper : IsProperRow (rows_size s) r
    pub value : (k : ℕ) → k < rows_size s → is_gone (rows_graph s) j l ≡ false → (is_gone (rows_graph s) j k || k == l) ≡ false
        → row_value r k ≡ edge_number l k

  module _ (l : ℕ) (l_in : l < rows_size s) (d : List ℤ)
      (D : Three (sized_product (below s j l) (below s j j)) (sized_product (above s j l j) (above s j j l)) less d) where
    loss_sum : Same d (poly_add D.a (poly_negate D.b))
    loss_sum =
        let ka = product_polynomial _ _ _ D.first_is in
        let kb = product_polynomial _ _ _ D.second_is in
        sum_is_exact D.a (poly_negate D.b) d ka.count (length-negate D.b ∙ kb.count) D.third_is

    -- nothing is left
    row_of_zeros : lowest d ≡ pos 0 → RowIs l (zero_row (rows_size s))
    row_of_zeros none = record {
      proper = zero_row_proper (rows_size s);
      value = λ k h g i. zero_row_value (rows_size s) k h
          ∙ sym (ap (λ v. (row_value (row_at s l) k +ε row_value (row_at s l) j *ε row_value (row_at s j) k) /ε v)
          (loss_none (above s j l j) (below s j l) (above s j j l) (below s j j) D.a D.b d (row_proper l l_in).some
          (row_proper j j_in).some none (product_is_exact _ _ _ D.first_is) (product_is_exact _ _ _ D.second_is) loss_sum)
          ∙ divide_zero _);
    }

    module _ (some : IsNonZero d) (numerators : List (List ℤ)) (N : each_below (rows_size s) (new_numerator s j l) ≡ Ok numerators) where
      raw : StoredRow
      raw = record { numerators = numerators; denominator = d }

      raw_numerator : (k : ℕ) → k < rows_size s → new_numerator s j l k ≡ Ok (numerator_at raw k)
      unfolding numerator_at raw
      raw_numerator k h = each_get _ _ numerators N zero_polynomial k h

      raw_proper : IsProperRow (rows_size s) raw
      unfolding numerator_at raw
      raw_proper = let count = each_length _ _ numerators N in record {
        count = count;
        numerators = each_is (rows_size s) raw count (λ k h. numerator_held l k _ (each_get _ _ numerators N zero_polynomial k h));
        denominator = sum_polynomial _ _ _ D.third_is;
        some = some;
      }

      raw_value : (k : ℕ) → k < rows_size s → (is_gone (rows_graph s) j k || k == l) ≡ false → row_value raw k ≡ edge_number l k
      unfolding raw
      raw_value k h g =
          let t = numerator_parts l k _ g (raw_numerator k h) in
          let ka = product_polynomial _ _ _ t.first_is in
          let kb = product_polynomial _ _ _ t.second_is in
          edge_over (above s j l k) (above s j l j) (below s j l) (above s j j k) (above s j j l) (below s j j) t.a t.b (numerator_at raw k) D.a D.b d
          (row_proper l l_in).some (row_proper j j_in).some some
          (product_is_exact _ _ _ t.first_is) (product_is_exact _ _ _ t.second_is) (sum_is_exact t.a t.b _ ka.count kb.count t.third_is)
          (product_is_exact _ _ _ D.first_is) (product_is_exact _ _ _ D.second_is) loss_sum

      cleared_is : RowIs l (cleared s.last raw)
      cleared_is =
          let c = cleared_values (rows_size s) s.last raw P.last P.last_some raw_proper in
          record { proper = c.proper; value = λ k h g i. c.value k h ∙ raw_value k h i }

    zeros_over : list_all is_zero_integer d ≡ true → row_over s j l d ≡ Ok (zero_row (rows_size s))
    unfolding row_over
    zeros_over e = rw e refl

    others_over : list_all is_zero_integer d ≡ false
        → row_over s j l d ≡ (each_below (rows_size s) (new_numerator s j l) >>= (λ ns. Ok (cleared s.last (record { numerators = ns; denominator = d }))))
    unfolding row_over
    others_over e = rw e refl

    over_is : (r : StoredRow) → row_over s j l d ≡ Ok r → RowIs l r
    unfolding raw
    over_is r h = elim (true_or_false (list_all is_zero_integer d)) [
      | inl e ↦ subst (RowIs l) (ok_same _ (zero_row (rows_size s)) r (zeros_over e) h) (row_of_zeros (zeros_lowest d e))
      | inr e ↦
          let a = bind_ok (each_below (rows_size s) (new_numerator s j l)) _ r (sym (others_over e) ∙ h) in
          subst (RowIs l) (ok_same (Ok r) _ r (sym a.1.1) refl) (cleared_is (others_lowest d e) a.0 a.1.0)
    ]

  -- what is written of a row is proper
  pub raw_row : (l : ℕ) → l < rows_size s → (r : StoredRow) → new_denominator s j l ≡ Ok r.denominator
      → list_all is_zero_integer r.denominator ≡ false → each_below (rows_size s) (new_numerator s j l) ≡ Ok r.numerators
      → IsProperRow (rows_size s) r
  unfolding raw
  raw_row l l_in r h some N = raw_proper l l_in r.denominator (denominator_parts l r.denominator h) (others_lowest r.denominator some) r.numerators N

  row_gone : (l : ℕ) → is_gone (rows_graph s) j l ≡ true → new_row s j l ≡ Ok (zero_row (rows_size s))
  unfolding new_row
  row_gone l h = rw h refl

  row_here : (l : ℕ) → is_gone (rows_graph s) j l ≡ false → new_row s j l ≡ (new_denominator s j l >>= (λ d. row_over s j l d))
  unfolding new_row
  row_here l h = rw h refl

  pub row_is : (l : ℕ) (r : StoredRow) → l < rows_size s → new_row s j l ≡ Ok r → RowIs l r
  row_is l r i h = elim (true_or_false (is_gone (rows_graph s) j l)) [
    | inl g ↦ subst (RowIs l) (ok_same _ (zero_row (rows_size s)) r (row_gone l g) h)
        (record { proper = zero_row_proper (rows_size s); value = λ k b e f. absurd (cc) })
    | inr g ↦
        let a = bind_ok (new_denominator s j l) _ r (sym (row_here l g) ∙ h) in
        over_is l i a.0 (denominator_parts l a.0 a.1.0) r a.1.1
  ]

  -- ---- the passes

  pub record Passes (t : StoredRows) : Type 0 where
    pub weights : new_weights s j ≡ Ok t.weights
    pub edges : each_below (rows_size s) (new_row s j) ≡ Ok t.edges
    pub live : t.live ≡ set s.live j false
    pub last : t.last ≡ below s j j

  removal_is : row_removal s j ≡ (new_weights s j >>=
      (λ ws. each_below (rows_size s) (new_row s j) >>= (λ es. Ok (record { live = set s.live j false; weights = ws; edges = es; last = below s j j }))))
  unfolding row_removal
  removal_is = refl

  pub passes : (t : StoredRows) → row_removal s j ≡ Ok t → Passes t
  passes t h =
      let a = bind_ok (new_weights s j) _ t (sym removal_is ∙ h) in
      let b = bind_ok (each_below (rows_size s) (new_row s j)) _ t a.1.1 in
      let e = ok_same (Ok t) _ t (sym b.1.1) refl in
      record {
        weights = a.1.0 ∙ ap (λ X. Ok X.weights) e;
        edges = b.1.0 ∙ ap (λ X. Ok X.edges) e;
        live = sym (ap (λ X. X.live) e);
        last = sym (ap (λ X. X.last) e);
      }

  module _ (t : StoredRows) (Q : Passes t) where
    pub same_size : rows_size t ≡ rows_size s
    same_size = ap length Q.live ∙ length-set s.live j false

    pub weights_of : WeightsMade t.weights
    weights_of = weights_made t.weights Q.weights

    pub new_row_is : (l : ℕ) → l < rows_size s → RowIs l (row_at t l)
    unfolding row_at
    new_row_is l h = row_is l _ h (each_get _ _ t.edges Q.edges (zero_row 0) l h)

    pub still_proper : AreProperRows t
    unfolding row_at
    still_proper =
        let count = each_length _ _ t.edges Q.edges in
        record {
          few = let f = P.few in omega (arith, same_size);
          weights = subst (λ m. IsProperRow m t.weights) (sym same_size) (weights_proper t.weights weights_of);
          count = count ∙ sym same_size;
          edges = All-from_get_or (IsProperRow (rows_size t)) t.edges (zero_row 0)
              (λ l h. subst (λ m. IsProperRow m (row_at t l)) (sym same_size) (new_row_is l (omega (arith, count))).proper);
          last = subst IsPolynomial (sym Q.last) (row_proper j j_in).denominator;
          last_some = subst IsNonZero (sym Q.last) (row_proper j j_in).some;
        }
