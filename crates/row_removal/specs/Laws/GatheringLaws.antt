-- The gathered rows have the numbers of the graph.
use Rattle.std.proofs.Common.{◌≡◌, ◌≢◌, ◌⊎◌, inl, inr, refl, sym, ap, subst, ◌∙◌, ℕ, zero, suc, ◌+◌, ◌*◌, ◌/◌, ◌<◌}
use Rattle.std.proofs.Common.{◌^◌, true, false, List, get_or, ℤ, pos, ◌*ℤ◌, ◌<ℤ◌, unsigned_abs, int_div, Option, Some, None}
use Rattle.std.proofs.Common.{Ok, arith}
use Rattle.std.specs.Int.{◌∣◌}
use Rattle.std.proofs.lemmas.Int.{ints, unsigned_abs-mul}
use Rattle.std.proofs.lemmas.Nat.Gcd.{dvd_trans}
use Rattle.std.proofs.lemmas.List.Elements.{All-from_get_or}
use Rattle.std.proofs.Math.Nat.{dvd-mul_right, dvd-mul_left, mul-div_cancel'}
use Rattle.field_core.specs.Divisor.{gcd}
use Rattle.field_core.proofs.Divisors.{gcd_is}
use Rattle.field_core.proofs.Coprime.{gcd_bounds}
use Rattle.field_core.proofs.Live.{true_or_false}
use Rattle.field_core.specs.declared.place.Op.TheVariants.{Mul}
use Rattle.field_core.specs.Kind.{Parts, is_zero}
use Rattle.field_core.specs.Exact.{value_of}
use Rattle.field_core.specs.Fractions.{quotient}
use Rattle.field_core.specs.Polynomial.{coefficient, Same, poly_multiply, int_sign, IsNonZero}
use Rattle.field_core.specs.Laws.PolynomialLaws.{lowest-same, multiply_comm, positive_in, positive_out, int_sign-scale}
use Rattle.field_core.specs.Laws.FractionLaws.{lowest-constant}
use Rattle.field_core.specs.Laws.Effective.{product_positive, positive_nonzero}
use Rattle.field_core.specs.Sized.{sized, gcd_of}
use Rattle.field_core.specs.Steps.{at, each_below, ◌>>=◌}
use Rattle.removal.specs.StoredGraph.{StoredGraph, size, weight, edge}
use Rattle.removal.specs.ByValue.{AreStored}
use Rattle.field_core.specs.Laws.Prefixes.{bind_ok, at_ok, ok_same, each_length, each_get}
use Rattle.eps_poly.specs.Polynomials.{IsPolynomial, IsConstant, zero_polynomial, monomial}
use Rattle.eps_poly.specs.Factors.{from_factors}
use Rattle.eps_poly.specs.Written.{sized_product}
use Rattle.field_core.proofs.Wholes.{quotient_times, size_quotient, positive_is, size_positive}
use Rattle.eps_poly.proofs.ProductLaws.{product_is_exact, product_polynomial}
use Rattle.eps_poly.proofs.Validity.{zero_valid}
use Rattle.eps_quotient.specs.Lowering.{one_polynomial}
use Rattle.eps_quotient.specs.Quotients.{quotients}
use Rattle.eps_quotient.specs.Stored.{IsQuotient}
use Rattle.eps_quotient.specs.Laws.Cuts.{monomial_held, monomial_some}
use Rattle.eps_quotient.specs.Laws.Exact.{quotients_are_exact, some_below}
use Rattle.eps_quotient.specs.Laws.LowerLaws.{one_some, one_held, zero_lowest}
use Rattle.eps_quotient.specs.Laws.Multiples.{monomial-at, monomial-other, monomial-multiply, factors-at}
use Rattle.eps_quotient.proofs.Constants.{constant_same}
use Rattle.eps_quotient.specs.Laws.QuotientLaws.{same_trans, quotient-cancel, zero_value}
use Rattle.row_removal.specs.StoredRow.{StoredRow, zero_row, numerator_at, row_value, IsProperRow}
use Rattle.row_removal.specs.StoredRows.{StoredRows, row_at}
use Rattle.row_removal.specs.Proper.{AreProperRows}
use Rattle.row_removal.specs.Gathering.{HasConstants, place_of, given, given_below, with_denominator, common_below, gathered_numerator, gathered_row, gathered}
use Rattle.field_core.proofs.Sized.{sized_says}
use Rattle.field_core.proofs.Positions.{at_or_below}

-- ---- constants

-- the constant of the denominator of a stored quotient is positive
pub below_positive : (x : Parts) → IsQuotient x → IsConstant x.denominator → pos 0 <ℤ coefficient x.denominator 0
below_positive x s h =
    positive_out (coefficient x.denominator 0)
    (ap int_sign (sym (lowest-same x.denominator _ (constant_same x.denominator h) ∙ lowest-constant (coefficient x.denominator 0))) ∙ s.positive)

-- an exact quotient of positive numbers is positive
over_positive : (c : ℤ) (g : ℕ) → pos 0 <ℤ c → 0 < g → g ∣ unsigned_abs c → pos 0 <ℤ int_div c (pos g)
over_positive c g h i d =
    positive_out (int_div c (pos g))
    (sym (int_sign-scale (int_div c (pos g)) (pos g) (positive_in (pos g) (up g i))) ∙ ap int_sign (quotient_times c g d) ∙ positive_in c h)
  where
    up : (g : ℕ) → 0 < g → pos 0 <ℤ pos g
    up g i = omega (arith, ints)

-- the next common denominator
pub record IsNext (c d e : ℤ) : Type 0 where
  pub positive : pos 0 <ℤ e
  pub old : unsigned_abs c ∣ unsigned_abs e
  pub new : unsigned_abs d ∣ unsigned_abs e

pub next_is : (c d : ℤ) → pos 0 <ℤ c → pos 0 <ℤ d → IsNext c d (int_div c (gcd_of c d) *ℤ d)
next_is c d h i = record {
  positive = product_positive (int_div c (pos g)) d (over_positive c g h some (gcd_is a b).0) i;
  old = subst (λ n. a ∣ n) (sym whole) (dvd-mul_right a (b / g));
  new = subst (λ n. b ∣ n) (sym size) (dvd-mul_left b (a / g));
}
  where
    a : ℕ
    a = unsigned_abs c

    b : ℕ
    b = unsigned_abs d

    g : ℕ
    g = gcd a b

    some : 0 < g
    some = (gcd_bounds a b (size_positive d i)).0

    size : unsigned_abs (int_div c (pos g) *ℤ d) ≡ (a / g) * b
    size = unsigned_abs-mul (int_div c (pos g)) d ∙ ap (λ n. n * b) (size_quotient c g)

    shuffle : (x y z p q : ℕ) → p ≡ z * x → q ≡ z * y → x * q ≡ p * y
    shuffle x y z p q e f = omega (arith, ap (λ n. x * n) f, ap (λ n. n * y) e)

    whole : unsigned_abs (int_div c (pos g) *ℤ d) ≡ a * (b / g)
    whole = size ∙ shuffle (a / g) (b / g) g a b (sym (mul-div_cancel' g (gcd_is a b).0)) (sym (mul-div_cancel' g (gcd_is a b).1))

module _ (G : StoredGraph) (row : Option ℕ) (m : ℕ) (held : (k : ℕ) → k < m → IsQuotient (given G row k)) (constant : (k : ℕ) → k < m
    → IsConstant (given G row k).denominator) where
  pub d_positive : (k : ℕ) → k < m → pos 0 <ℤ given_below G row k
  d_positive k h = below_positive (given G row k) (held k h) (constant k h)

  -- a common denominator of the first numbers
  pub record IsCommon (n : ℕ) (c : ℤ) : Type 0 where
    pub positive : pos 0 <ℤ c
    pub small : unsigned_abs c < 2 ^ 127
    pub divides : (k : ℕ) → k < n → is_zero (given G row k) ≡ false → unsigned_abs (given_below G row k) ∣ unsigned_abs c

  common_none : (c : ℤ) → common_below G row 0 ≡ Ok c → IsCommon 0 c
  unfolding common_below
  common_none c h =
      subst (IsCommon 0) (ok_same (Ok c) (pos 1) c (sym h) refl)
      (record { positive = omega (arith, ints); small = omega (arith, ints); divides = λ k i e. absurd (omega arith) })

  with_none : (k : ℕ) (c : ℤ) → is_zero (given G row k) ≡ true → with_denominator G row k c ≡ Ok c
  unfolding with_denominator
  with_none k c h = rw h refl

  with_some : (k : ℕ) (c : ℤ) → is_zero (given G row k) ≡ false
      → with_denominator G row k c ≡ at (place_of row k) Mul (sized (int_div c (gcd_of c (given_below G row k)) *ℤ given_below G row k))
  unfolding with_denominator
  with_some k c h = rw h refl

  common_more : (n : ℕ) (b c : ℤ) → n < m → IsCommon n b → with_denominator G row n b ≡ Ok c → IsCommon (suc n) c
  common_more n b c i B h = elim (true_or_false (is_zero (given G row n))) [
    | inl z ↦ subst (IsCommon (suc n)) (ok_same _ b c (with_none n b z) h) (record {
      positive = B.positive;
      small = B.small;
      divides = λ k u e. elim (at_or_below k n u) [ inl q ↦ absurd (cc) | inr q ↦ B.divides k q e ];
    })
    | inr z ↦
        let s = sized_says _ c (at_ok _ _ _ c (sym (with_some n b z) ∙ h)) in
        let N = next_is b (given_below G row n) B.positive (d_positive n i) in
        record {
          positive = subst (λ x. pos 0 <ℤ x) (sym s.0) N.positive;
          small = s.1;
          divides = λ k u e. elim (at_or_below k n u) [
            | inl q ↦ subst (λ x. unsigned_abs (given_below G row k) ∣ unsigned_abs x) (sym s.0) (rw q N.new)
            | inr q ↦ subst (λ x. unsigned_abs (given_below G row k) ∣ unsigned_abs x) (sym s.0) (dvd_trans _ (B.divides k q e) N.old)
          ];
        }
  ]

  common_suc : (n : ℕ) → common_below G row (suc n) ≡ (common_below G row n >>= (λ c. with_denominator G row n c))
  unfolding common_below
  common_suc n = refl

  pub common_is : (n : ℕ) (c : ℤ) → n < suc m → common_below G row n ≡ Ok c → IsCommon n c
  common_is zero c i h = common_none c h
  common_is (suc n) c i h =
      let a = bind_ok (common_below G row n) _ c (sym (common_suc n) ∙ h) in
      common_more n a.0 c (omega arith) (common_is n a.0 (omega arith) a.1.0) a.1.1

  module _ (c : ℤ) (C : IsCommon m c) where
    factor : ℕ → ℤ
    factor k = int_div c (given_below G row k)

    factor_times : (k : ℕ) → k < m → is_zero (given G row k) ≡ false → factor k *ℤ given_below G row k ≡ c
    unfolding factor
    factor_times k h z =
        let e = positive_is (given_below G row k) (d_positive k h) in
        ap (λ d. int_div c d *ℤ d) e ∙ quotient_times c (unsigned_abs (given_below G row k)) (C.divides k h z)

    factor_some : (k : ℕ) → k < m → is_zero (given G row k) ≡ false → factor k ≢ pos 0
    factor_some k h z e = positive_nonzero c C.positive (sym (factor_times k h z) ∙ ap (λ x. x *ℤ given_below G row k) e ∙ none (given_below G row k))
      where
        none : (x : ℤ) → pos 0 *ℤ x ≡ pos 0
        none x = omega (arith, ints)

    -- the common denominator is the own one, times the factor
    below_times : (k : ℕ) → k < m → is_zero (given G row k) ≡ false
        → Same (monomial c 0) (poly_multiply (monomial (factor k) 0) (given G row k).denominator)
    below_times k h z i =
        let d = (given G row k).denominator in
        elim (true_or_none i) [
          | inl e ↦ rw e (monomial-at c 0 (omega arith) ∙ sym (factor_times k h z)
              ∙ sym (monomial-multiply (factor k) 0 d (omega arith) 0 ∙ at_power 0))
          | inr e ↦ monomial-other c 0 i (λ f. absurd (omega arith))
              ∙ sym (monomial-multiply (factor k) 0 d (omega arith) i ∙ at_power i ∙ ap (λ x. factor k *ℤ x) (constant k h i e) ∙ nothing (factor k))
        ]
      where
        true_or_none : (i : ℕ) → (i ≡ 0) ⊎ (0 < i)
        true_or_none i = grind arith

        nothing : (x : ℤ) → x *ℤ pos 0 ≡ pos 0
        nothing x = omega (arith, ints)

        at_power : (i : ℕ) → coefficient (from_factors (factor k) 0 (given G row k).denominator) i
            ≡ factor k *ℤ coefficient (given G row k).denominator i
        at_power i = ap (coefficient (from_factors (factor k) 0 (given G row k).denominator)) (same i) ∙ factors-at (factor k) 0 (given G row k).denominator i
          where
            same : (i : ℕ) → i ≡ i + 0
            same i = omega arith

    numerator_none : (k : ℕ) → is_zero (given G row k) ≡ true → gathered_numerator G row c k ≡ Ok zero_polynomial
    unfolding gathered_numerator
    numerator_none k h = rw h refl

    numerator_some : (k : ℕ) → is_zero (given G row k) ≡ false
        → gathered_numerator G row c k ≡ at (place_of row k) Mul (sized_product (given G row k).numerator (monomial (factor k) 0))
    unfolding gathered_numerator factor
    numerator_some k h = rw h refl

    -- a numerator of the gathered row
    pub record IsGathered (k : ℕ) (p : List ℤ) : Type 0 where
      pub within : IsPolynomial p
      pub value : quotient p (monomial c 0) ≡ value_of (given G row k)

    c_some : IsNonZero (monomial c 0)
    c_some = monomial_some c 0 (omega arith) (positive_nonzero c C.positive)

    is_gathered : (k : ℕ) (p : List ℤ) → k < m → gathered_numerator G row c k ≡ Ok p → IsGathered k p
    unfolding value_of
    is_gathered k p h e = elim (true_or_false (is_zero (given G row k))) [
      | inl z ↦ subst (IsGathered k) (ok_same _ zero_polynomial p (numerator_none k z) e) (record {
        within = zero_valid;
        value = zero_value zero_polynomial (monomial c 0) c_some zero_lowest ∙ sym (quotients_are_exact.is_null (given G row k) (held k h) z);
      })
      | inr z ↦
          let s = at_ok _ _ _ p (sym (numerator_some k z) ∙ e) in
          record {
            within = product_polynomial _ _ p s;
            value = quotient-cancel (monomial (factor k) 0) p (monomial c 0) (given G row k).numerator (given G row k).denominator
                (monomial_some (factor k) 0 (omega arith) (factor_some k h z)) (some_below (given G row k) (held k h))
                (same_trans p _ _ (product_is_exact _ _ p s) (multiply_comm (given G row k).numerator (monomial (factor k) 0))) (below_times k h z);
          }
    ]

-- a gathered row
pub record IsGatheredRow (G : StoredGraph) (row : Option ℕ) (r : StoredRow) : Type 0 where
  pub proper : IsProperRow (size G) r
  pub value : (k : ℕ) → k < size G → row_value r k ≡ value_of (given G row k)

pub row_is_gathered : (G : StoredGraph) (row : Option ℕ) → ((k : ℕ) → k < size G → IsQuotient (given G row k))
    → ((k : ℕ) → k < size G → IsConstant (given G row k).denominator)
    → (r : StoredRow) → gathered_row G row ≡ Ok r → IsGatheredRow G row r
unfolding gathered_row numerator_at
row_is_gathered G row held constant r h =
    let m = size G in
    let a = bind_ok (common_below G row m) _ r h in
    let b = bind_ok (each_below m (gathered_numerator G row a.0)) _ r a.1.1 in
    let C = common_is G row m held constant m a.0 (omega arith) a.1.0 in
    let count = each_length _ _ b.0 b.1.0 in
    let each : (k : ℕ) → k < m → IsGathered G row m held constant a.0 C k (get_or b.0 k zero_polynomial) =
    λ k i. is_gathered G row m held constant a.0 C k _ i (each_get _ _ b.0 b.1.0 zero_polynomial k i) in
    subst (IsGatheredRow G row) (ok_same (Ok r) _ r (sym b.1.1) refl) (record {
      proper = record {
        count = count;
        numerators = All-from_get_or IsPolynomial b.0 zero_polynomial (λ k i. (each k (omega (arith, count))).within);
        denominator = monomial_held a.0 0 (omega arith) C.small;
        some = monomial_some a.0 0 (omega arith) (positive_nonzero a.0 C.positive);
      };
      value = λ k i. (each k i).value;
    })

module _ (G : StoredGraph) (S : AreStored quotients IsQuotient G) (C : HasConstants G) where
  pub weights_gathered : (r : StoredRow) → gathered_row G None ≡ Ok r → IsGatheredRow G None r
  unfolding given
  weights_gathered r h = row_is_gathered G None (λ k i. S.weights k i) (λ k i. C.weights k i) r h

  pub edges_gathered : (l : ℕ) → l < size G → (r : StoredRow) → gathered_row G (Some l) ≡ Ok r → IsGatheredRow G (Some l) r
  unfolding given
  edges_gathered l b r h = row_is_gathered G (Some l) (λ k i. S.edges l k b i) (λ k i. C.edges l k b i) r h

  -- the gathered rows
  pub record AreGathered (s : StoredRows) : Type 0 where
    pub live : s.live ≡ G.live
    pub proper : AreProperRows s
    pub weights : (k : ℕ) → k < size G → row_value s.weights k ≡ value_of (weight quotients G k)
    pub edges : (l k : ℕ) → l < size G → k < size G → row_value (row_at s l) k ≡ value_of (edge quotients G l k)

  gathered_is : gathered G ≡ (gathered_row G None >>=
      (λ ws. each_below (size G) (λ l. gathered_row G (Some l)) >>= (λ es. Ok (record { live = G.live; weights = ws; edges = es; last = one_polynomial }))))
  unfolding gathered
  gathered_is = refl

  pub are_gathered : (s : StoredRows) → gathered G ≡ Ok s → AreGathered s
  unfolding given row_at
  are_gathered s h =
      let m = size G in
      let a = bind_ok (gathered_row G None) _ s (sym gathered_is ∙ h) in
      let b = bind_ok (each_below m (λ l. gathered_row G (Some l))) _ s a.1.1 in
      let W = weights_gathered a.0 a.1.0 in
      let count = each_length _ _ b.0 b.1.0 in
      let each : (l : ℕ) → l < m → IsGatheredRow G (Some l) (get_or b.0 l (zero_row 0)) =
      λ l i. edges_gathered l i _ (each_get _ _ b.0 b.1.0 (zero_row 0) l i) in
      subst AreGathered (ok_same (Ok s) _ s (sym b.1.1) refl) (record {
        live = refl;
        proper = record {
          few = S.square.few;
          weights = W.proper;
          count = count;
          edges = All-from_get_or (IsProperRow m) b.0 (zero_row 0) (λ l i. (each l (omega (arith, count))).proper);
          last = one_held;
          last_some = one_some;
        };
        weights = W.value;
        edges = λ l k i u. (each l i).value k u;
      })
