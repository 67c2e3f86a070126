-- A row has exact quotients by 1, and they are its own polynomials.
use Rattle.std.proofs.Common.{◌≡◌, ℕ, zero, suc, ◌+◌, ◌-◌, ◌<◌, ◌≤◌, List, refl, ◌∙◌, ap, arith, ℤ, pos, ◌+ℤ◌}
use Rattle.std.proofs.Common.{◌*ℤ◌, Some}
use Rattle.std.proofs.lemmas.Int.{ints}
use Rattle.field_core.specs.Polynomial.{coefficient}
use Rattle.field_core.specs.Laws.Integers.{int_multiply_one}
use Rattle.field_core.specs.Sized.{sized}
use Rattle.field_core.proofs.Sized.{sized_small}
use Rattle.eps_poly.specs.ExactQuotients.{exact_quotient}
use Rattle.eps_poly.specs.Polynomials.{IsPolynomial, zero_polynomial}
use Rattle.eps_poly.specs.Written.{written_coefficient, degree, sized_product}
use Rattle.eps_poly.proofs.Coefficients.{coefficient-past}
use Rattle.eps_poly.proofs.DegreeLaws.{degree_at_most}
use Rattle.eps_poly.proofs.ExactLaws.{quotient_only}
use Rattle.eps_poly.proofs.ProductLaws.{coefficient_next, coefficient_none, coefficient_zero, product_from_list}
use Rattle.eps_poly.proofs.SizedLists.{list_from_all}
use Rattle.eps_quotient.specs.Lowering.{one_polynomial}
use Rattle.eps_quotient.specs.Laws.LowerLaws.{one_some}
use Rattle.eps_quotient.specs.Laws.Multiples.{monomial-at, monomial-other}
use Rattle.row_removal.specs.StoredRow.{StoredRow, numerator_at, IsProperRow}
use Rattle.row_removal.specs.Clearing.{quotient_row, divided_row}
use Rattle.row_removal.specs.Laws.ClearingLaws.{numerator_is}
use Rattle.row_removal.specs.Laws.Together.{from_given}
use Rattle.eps_poly.proofs.QuotientLaws.{product_zero}

apart : (k n : ℕ) → n < k → ¬ (k - n ≡ 0)
apart k n h e = omega arith

-- the parts of a coefficient before the last are 0
before : (p : List ℤ) (k n : ℕ) → n ≤ k → written_coefficient p one_polynomial k n ≡ Some (pos 0)
before p k zero h = coefficient_none p one_polynomial k
before p k (suc n) h =
    coefficient_zero p one_polynomial k n (product_zero (coefficient p n) _ (monomial-other (pos 1) 0 (k - n) (apart k n (omega arith))))
    ∙ before p k n (omega arith)

own : (p : List ℤ) (k : ℕ) → coefficient p k *ℤ coefficient one_polynomial (k - k) ≡ coefficient p k
own p k = let none : k - k ≡ 0 = omega arith in rw (none, monomial-at (pos 1) 0 (omega arith)) (int_multiply_one (coefficient p k))

at_power : (p : List ℤ) (k : ℕ) → IsPolynomial p → written_coefficient p one_polynomial k (k + 1) ≡ Some (coefficient p k)
at_power p k P =
    let small = sized_small (coefficient p k) (P.sizes k) in
    let next : k + 1 ≡ suc k = omega arith in
    ap (written_coefficient p one_polynomial k) next
    ∙ coefficient_next p one_polynomial k k (pos 0) (coefficient p k) (Some (coefficient p k)) (before p k k (omega arith)) (ap sized (own p k)
    ∙ small) (ap sized (sum (coefficient p k)) ∙ small)
  where
    sum : (x : ℤ) → pos 0 +ℤ x ≡ x
    sum x = omega (arith, ints)

low : (p : List ℤ) → IsPolynomial p → degree p + degree one_polynomial ≤ 32
low p P =
    let left = degree_at_most p 32 (λ k h. coefficient-past p k (omega (arith, P.count))) in
    let right = degree_at_most one_polynomial 0 (λ k h. monomial-other (pos 1) 0 k (above k h)) in
    omega arith
  where
    above : (k : ℕ) → 0 < k → ¬ (k ≡ 0)
    above k h e = omega arith

by_one : (p : List ℤ) → IsPolynomial p → sized_product p one_polynomial ≡ Some p
by_one p P =
    product_from_list p one_polynomial (low p P)
    ∙ list_from_all (λ k. written_coefficient p one_polynomial k (k + 1)) p P.count (λ k. at_power p k P)

-- the exact quotient by 1
quotient_by_one : (p : List ℤ) → IsPolynomial p → exact_quotient p one_polynomial ≡ Some p
quotient_by_one p P = quotient_only p one_polynomial p one_some P.count (by_one p P)

pub divided_by_one : (m : ℕ) (r : StoredRow) → IsProperRow m r → divided_row one_polynomial r ≡ r
unfolding divided_row quotient_row numerator_at
divided_by_one m r P =
    let all = from_given (λ p. exact_quotient p one_polynomial) zero_polynomial zero_polynomial r.numerators r.numerators refl
    (λ k h. quotient_by_one _ (numerator_is m r k P (omega (arith, P.count)))) in
    rw (quotient_by_one r.denominator P.denominator, all) refl
