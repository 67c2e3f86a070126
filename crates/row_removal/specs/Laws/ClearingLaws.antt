-- Clearing a row changes no value.
use Rattle.std.proofs.Common.{◌≡◌, ℕ, zero, suc, ◌<◌, ◌≤◌, min, List, [], ◌∷◌, length, get_or, map, refl, sym, ◌∙◌, ap, ap₂, subst, arith}
use Rattle.std.proofs.Common.{ℤ, pos, ◌*ℤ◌, ◌<ℤ◌, unsigned_abs, Option, Some, None, All}
use Rattle.std.specs.List.{fold}
use Rattle.std.specs.Option.{unwrap_or}
use Rattle.std.specs.Int.{◌∣◌}
use Rattle.std.proofs.lemmas.Int.{ints}
use lib.IntN.{*ℤ-zero}
use Rattle.std.proofs.lemmas.List.{get_or-map, length-map, same_lists}
use Rattle.std.proofs.lemmas.List.Elements.{All-get_or, All-from_get_or}
use Rattle.std.proofs.lemmas.Nat.Gcd.{dvd_trans, dvd_refl, le_of_dvd}
use Rattle.std.proofs.Math.Nat.{min-le_left, min-le_right, pos_of_dvd_of_pos}
use Rattle.field_core.specs.Polynomial.{Same, poly_multiply, lowest, IsNonZero}
use Rattle.field_core.specs.Divisor.{gcd}
use Rattle.field_core.specs.Laws.PolynomialLaws.{multiply_comm, lowest-same, lowest-multiply, same_sym}
use Rattle.field_core.proofs.Divisors.{gcd_is}
use Rattle.eps_poly.specs.ExactQuotients.{exact_quotient}
use Rattle.eps_poly.specs.Polynomials.{IsPolynomial, monomial, zero_polynomial}
use Rattle.eps_poly.specs.Factors.{content, order, core, lowered}
use Rattle.eps_poly.proofs.ContentLaws.{content_some as own_some}
use Rattle.eps_poly.proofs.ExactLaws.{quotient_found, length-quotient, factor_polynomial}
use Rattle.eps_poly.proofs.FactorLaws.{lowered_factors, core_is}
use Rattle.eps_poly.proofs.OrderLaws.{lowest_from_coefficient}
use Rattle.eps_poly.proofs.ProductLaws.{product_is_exact}
use Rattle.eps_poly.proofs.Validity.{lowered_same, lowered_valid}
use Rattle.eps_quotient.specs.Laws.Cuts.{order_within, monomial_some}
use Rattle.eps_quotient.specs.Laws.Multiples.{monomial-multiply}
use Rattle.eps_quotient.specs.Laws.QuotientLaws.{same_trans, quotient-cancel}
use Rattle.row_removal.specs.StoredRow.{StoredRow, numerator_at, row_value, IsProperRow}
use Rattle.row_removal.specs.Clearing.{map_all, quotient_row, divided_row, row_content, row_order, row_by, lowered_row, cleared}
use Rattle.row_removal.specs.Laws.Together.{AreGiven, all_given}
use Rattle.field_core.proofs.Results.{bind_some, same_some}

-- A proper row with the values of another.
pub record HasValues (m : ℕ) (r t : StoredRow) : Type 0 where
  pub proper : IsProperRow m t
  pub value : (k : ℕ) → k < m → row_value t k ≡ row_value r k

values_same : (m : ℕ) (r : StoredRow) → IsProperRow m r → HasValues m r r
values_same m r P = record { proper = P; value = λ k h. refl }

pub numerator_is : (m : ℕ) (r : StoredRow) (k : ℕ) → IsProperRow m r → k < m → IsPolynomial (numerator_at r k)
unfolding numerator_at
numerator_is m r k P h = All-get_or IsPolynomial r.numerators k zero_polynomial (omega (arith, P.count)) P.numerators

-- numerators that are polynomials at each place
pub each_is : (m : ℕ) (r : StoredRow) → length r.numerators ≡ m → ((k : ℕ) → k < m → IsPolynomial (numerator_at r k))
    → All IsPolynomial r.numerators
unfolding numerator_at
each_is m r count each = All-from_get_or IsPolynomial r.numerators zero_polynomial (λ k h. each k (omega (arith, count)))

factor_some : (p c q : List ℤ) → Same p (poly_multiply c q) → IsNonZero p → IsNonZero q
factor_some p c q s some e = some (lowest-same p _ s ∙ lowest-multiply c q ∙ ap (λ x. lowest c *ℤ x) e ∙ none (lowest c))
  where
    none : (x : ℤ) → x *ℤ pos 0 ≡ pos 0
    none x = *ℤ-zero x

-- a row whose polynomials are those of another, each by the same factor
factor_values : (m : ℕ) (r t : StoredRow) (c : List ℤ) → IsProperRow m r → IsNonZero c → length t.numerators ≡ m
    → Same r.denominator (poly_multiply c t.denominator) → IsPolynomial t.denominator
    → ((k : ℕ) → k < m → Same (numerator_at r k) (poly_multiply c (numerator_at t k))) → ((k : ℕ) → k < m → IsPolynomial (numerator_at t k))
    → HasValues m r t
factor_values m r t c P some count below held above each =
    let left = factor_some r.denominator c t.denominator below P.some in
    record {
      proper = record { count = count; numerators = each_is m t count each; denominator = held; some = left };
      value = λ k h. sym (quotient-cancel c _ _ _ _ some left (above k h) below);
    }

-- ---- exact quotients

-- what an exact quotient is
record IsQuotientOf (by p q : List ℤ) : Type 0 where
  pub times : Same p (poly_multiply by q)
  pub held : IsPolynomial q

is_quotient : (by p q : List ℤ) → IsNonZero by → exact_quotient p by ≡ Some q → IsQuotientOf by p q
is_quotient by p q some e =
    let t = quotient_found p by q e in
    record {
      times = same_trans p _ _ (product_is_exact q by p t) (multiply_comm q by);
      held = factor_polynomial p by q some (length-quotient p by q e) t;
    }

-- the polynomials of the row of exact quotients
record IsQuotientRow (by : List ℤ) (r t : StoredRow) : Type 0 where
  pub denominator : exact_quotient r.denominator by ≡ Some t.denominator
  pub numerators : AreGiven (λ p. exact_quotient p by) r.numerators t.numerators

is_quotient_row : (by : List ℤ) (r t : StoredRow) → quotient_row by r ≡ Some t → IsQuotientRow by r t
unfolding quotient_row
is_quotient_row by r t h =
    let a = bind_some (exact_quotient r.denominator by) _ t h in
    let b = bind_some (map_all (λ p. exact_quotient p by) r.numerators) _ t a.2 in
    let e = same_some _ t b.2 in
    subst (IsQuotientRow by r) e (record { denominator = a.1; numerators = all_given (λ p. exact_quotient p by) r.numerators b.0 b.1 })

quotient_values : (m : ℕ) (by : List ℤ) (r t : StoredRow) → IsNonZero by → IsProperRow m r → quotient_row by r ≡ Some t → HasValues m r t
unfolding numerator_at
quotient_values m by r t some P h =
    let Q = is_quotient_row by r t h in
    let count : length t.numerators ≡ m = Q.numerators.count ∙ P.count in
    let d = is_quotient by r.denominator t.denominator some Q.denominator in
    let each : (k : ℕ) → k < m → IsQuotientOf by (numerator_at r k) (numerator_at t k) =
    λ k i. is_quotient by _ _ some (Q.numerators.each k zero_polynomial zero_polynomial (omega (arith, P.count))) in
    factor_values m r t by P some count d.times d.held (λ k i. (each k i).times) (λ k i. (each k i).held)

pub divided_values : (m : ℕ) (by : List ℤ) (r : StoredRow) → IsNonZero by → IsProperRow m r → HasValues m r (divided_row by r)
unfolding divided_row
divided_values m by r some P = go (quotient_row by r) refl
  where
    go : (o : Option StoredRow) → quotient_row by r ≡ o → HasValues m r (unwrap_or o r)
    go (Some t) e = quotient_values m by r t some P e
    go None e = values_same m r P

-- ---- common contents and powers

content_first : (c : ℕ) (ps : List (List ℤ)) → fold (λ c p. gcd c (content p)) c ps ∣ c
content_first c [] = dvd_refl c
content_first c (p ∷ ps) = dvd_trans _ (content_first (gcd c (content p)) ps) (gcd_is c (content p)).0

content_each : (c : ℕ) (ps : List (List ℤ)) (k : ℕ) → k < length ps → fold (λ c p. gcd c (content p)) c ps ∣ content (get_or ps k zero_polynomial)
content_each c [] k h = absurd (omega arith)
content_each c (p ∷ ps) zero h = dvd_trans _ (content_first (gcd c (content p)) ps) (gcd_is c (content p)).1
content_each c (p ∷ ps) (suc k) h = content_each (gcd c (content p)) ps k (omega arith)

order_first : (c : ℕ) (ps : List (List ℤ)) → fold (λ k p. min k (order p)) c ps ≤ c
order_first c [] = omega arith
order_first c (p ∷ ps) = let s = min-le_left c (order p) in let t = order_first (min c (order p)) ps in omega arith

order_each : (c : ℕ) (ps : List (List ℤ)) (k : ℕ) → k < length ps → fold (λ k p. min k (order p)) c ps ≤ order (get_or ps k zero_polynomial)
order_each c [] k h = absurd (omega arith)
order_each c (p ∷ ps) zero h = let s = min-le_right c (order p) in let t = order_first (min c (order p)) ps in omega arith
order_each c (p ∷ ps) (suc k) h = order_each (min c (order p)) ps k (omega arith)

-- if the denominator isn't 0, the common content is above 0, and at most its own
pub content_some : (r : StoredRow) → IsNonZero r.denominator → 0 < row_content r
unfolding row_content
content_some r some = pos_of_dvd_of_pos (content_first (content r.denominator) r.numerators) (own_some r.denominator some)

pub content_low : (r : StoredRow) → IsNonZero r.denominator → row_content r ≤ content r.denominator
unfolding row_content
content_low r some = le_of_dvd (own_some r.denominator some) (content_first (content r.denominator) r.numerators)

-- and the common power is at most its own
pub order_low : (r : StoredRow) → length r.denominator ≡ 33 → IsNonZero r.denominator → row_order r ≤ 32
unfolding row_order
order_low r count some =
    let least = order_first (order r.denominator) r.numerators in
    let own = order_within r.denominator count some in
    omega arith

above_none : (h : ℕ) → 0 < h → ¬ (pos h ≡ pos 0)
above_none h i e = let f : h ≡ 0 = ap unsigned_abs e in omega arith

lowered_times : (h k : ℕ) → k ≤ 32 → (p : List ℤ) → IsPolynomial p → h ∣ content p → k ≤ order p
    → Same p (poly_multiply (monomial (pos h) k) (lowered k (pos h) p))
lowered_times h k low p held divisor within = same_trans p _ _ (lowered_factors k h p held.count divisor within)
    (same_sym _ _ (monomial-multiply (pos h) k (lowered k (pos h) p) low))

by_at : (k : ℕ) (c : ℤ) (r : StoredRow) (i : ℕ) → i < length r.numerators → numerator_at (row_by k c r) i ≡ lowered k c (numerator_at r i)
unfolding numerator_at
by_at k c r i h = get_or-map (lowered k c) r.numerators i zero_polynomial zero_polynomial h

pub lowered_values : (m : ℕ) (r : StoredRow) → IsProperRow m r → HasValues m r (lowered_row r)
unfolding lowered_row row_content row_order numerator_at
lowered_values m r P =
    let h = row_content r in
    let k = row_order r in
    let low = order_low r P.denominator.count P.some in
    let some = content_some r P.some in
    let by : (i : ℕ) → i < m → numerator_at (row_by k (pos h) r) i
    ≡ lowered k (pos h) (numerator_at r i) = λ i b. by_at k (pos h) r i (omega (arith, P.count)) in
    factor_values m r (row_by k (pos h) r) (monomial (pos h) k) P (monomial_some (pos h) k low (above_none h some))
    (length-map r.numerators (lowered k (pos h)) ∙ P.count)
    (lowered_times h k low r.denominator P.denominator (content_first (content r.denominator) r.numerators) (order_first (order r.denominator) r.numerators))
    (lowered_valid k (pos h) r.denominator P.denominator)
    (λ i b. subst (λ q. Same (numerator_at r i) (poly_multiply (monomial (pos h) k) q)) (sym (by i b))
    (lowered_times h k low (numerator_at r i) (numerator_is m r i P b) (content_each _ r.numerators i (omega (arith, P.count)))
    (order_each _ r.numerators i (omega (arith, P.count)))))
    (λ i b. subst IsPolynomial (sym (by i b)) (lowered_valid k (pos h) (numerator_at r i) (numerator_is m r i P b)))

-- a row without common content and common powers
pub nothing_common : (m : ℕ) (r : StoredRow) → IsProperRow m r → row_order r ≡ 0 → row_content r ≡ 1 → lowered_row r ≡ r
unfolding lowered_row
nothing_common m r P k c =
    rw (k, c) (ap₂ (λ ns d. record { numerators = ns; denominator = d }) all (lowered_same r.denominator P.denominator))
  where
    all : map (lowered 0 (pos 1)) r.numerators ≡ r.numerators
    all =
        let count = length-map r.numerators (lowered 0 (pos 1)) in
        same_lists _ _ count (λ i d h. get_or-map (lowered 0 (pos 1)) r.numerators i d d (omega arith)
        ∙ lowered_same _ (All-get_or IsPolynomial r.numerators i d (omega arith) P.numerators))

-- ---- the cleared row

values_trans : (m : ℕ) (r t u : StoredRow) → HasValues m r t → HasValues m t u → HasValues m r u
values_trans m r t u a b = record { proper = b.proper; value = λ k h. b.value k h ∙ a.value k h }

pub core_some : (p : List ℤ) → IsPolynomial p → IsNonZero p → IsNonZero (core p)
core_some p held some =
    let c = core_is p held.count some in
    lowest_from_coefficient (core p) 0 (λ e. positive_not _ c.first e)
  where
    positive_not : (c : ℤ) → pos 0 <ℤ c → c ≡ pos 0 → ⊥
    positive_not c h e = omega (arith, ints)

pub cleared_values : (m : ℕ) (last : List ℤ) (r : StoredRow) → IsPolynomial last → IsNonZero last → IsProperRow m r → HasValues m r (cleared last r)
unfolding cleared
cleared_values m last r held some P =
    let d = divided_values m (core last) r (core_some last held some) P in
    values_trans m r _ _ d (lowered_values m (divided_row (core last) r) d.proper)
