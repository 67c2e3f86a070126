-- Whether the cores of two polynomials are equal, as the code finds it.
use Rattle.std.proofs.Common.{◌≡◌, ℕ, ◌-◌, ◌==◌, eq-eqb, Bool, true, false, List, refl, sym, ◌∙◌, ap, arith, ℤ, pos, inl, inr}
use Rattle.std.proofs.lemmas.Bool.{cases_eq, cases_lt, ne_eqb}
use Rattle.field_core.specs.Polynomial.{coefficient, lowest, IsNonZero}
use Rattle.eps_poly.specs.Factors.{core, order}
use Rattle.eps_poly.specs.Polynomials.{IsPolynomial, is_same, monomial}
use Rattle.eps_poly.specs.Written.{degree}
use Rattle.eps_poly.proofs.Coefficients.{same_from, same_polynomials, same_to}
use Rattle.eps_poly.proofs.DegreeLaws.{coefficient-above_degree, degree_at_most}
use Rattle.eps_poly.proofs.FactorLaws.{degree-core}
use Rattle.eps_poly.proofs.OrderLaws.{coefficient-below_order, coefficient-order}
use Rattle.eps_quotient.specs.Lowering.{one_polynomial}
use Rattle.eps_quotient.specs.Laws.Cuts.{monomial_core, order_within}
use Rattle.eps_quotient.specs.Laws.Multiples.{length-monomial, monomial-at, monomial-other}

-- a polynomial with one power
single : (p : List ℤ) → IsPolynomial p → IsNonZero p → degree p ≡ order p → p ≡ monomial (lowest p) (order p)
single p held some e =
    let low = order_within p held.count some in
    same_polynomials p (monomial (lowest p) (order p)) (held.count ∙ sym (length-monomial (lowest p) (order p))) (λ k h. elim (cases_eq k (order p)) [
      | inl here ↦ rw here (coefficient-order p ∙ sym (monomial-at (lowest p) (order p) low))
      | inr apart ↦ none k apart ∙ sym (monomial-other (lowest p) (order p) k apart)
    ])
  where
    none : (k : ℕ) → ¬ (k ≡ order p) → coefficient p k ≡ pos 0
    none k apart = elim (cases_lt k (order p)) [
      | inl l ↦ coefficient-below_order p k l
      | inr l ↦ coefficient-above_degree p k (omega arith)
    ]

-- has the core 1
pub single_core : (p : List ℤ) → IsPolynomial p → IsNonZero p → degree p ≡ order p → core p ≡ one_polynomial
single_core p held some e = ap core (single p held some e) ∙ (monomial_core (lowest p) (order p) (order_within p held.count some) some).core_of

not_same : (p q : List ℤ) → ¬ (p ≡ q) → is_same p q ≡ false
not_same p q apart = at (is_same p q) refl
  where
    at : (b : Bool) → is_same p q ≡ b → b ≡ false
    at true e = absurd (apart (same_from p q e))
    at false e = refl

-- two cores of other degrees
pub cores_apart : (p q : List ℤ) → IsPolynomial p → IsPolynomial q → IsNonZero p → IsNonZero q → ¬ (degree p - order p ≡ degree q - order q)
    → is_same (core p) (core q) ≡ false
cores_apart p q kp kq hp hq apart = not_same (core p) (core q) (λ e.
    let same : degree (core p) ≡ degree (core q) = ap degree e in
    let first = degree-core p kp.count hp in
    let second = degree-core q kq.count hq in
    apart (omega arith))

-- two powers
pub cores_of_powers : (p q : List ℤ) → IsPolynomial p → IsPolynomial q → IsNonZero p → IsNonZero q → degree p ≡ order p → degree q ≡ order q
    → is_same (core p) (core q) ≡ true
cores_of_powers p q kp kq hp hq e f = same_to (core p) (core q) (single_core p kp hp e ∙ sym (single_core q kq hq f))

-- ---- the polynomial 1

one_coefficients : (p : List ℤ) → IsPolynomial p → degree p ≡ 0 → coefficient p 0 ≡ pos 1 → p ≡ one_polynomial
one_coefficients p held e first = same_polynomials p one_polynomial (held.count ∙ sym (length-monomial (pos 1) 0)) (λ k h. elim (cases_eq k 0) [
  | inl here ↦ rw here (first ∙ sym (monomial-at (pos 1) 0 (omega arith)))
  | inr apart ↦ coefficient-above_degree p k (omega arith) ∙ sym (monomial-other (pos 1) 0 k apart)
])

degree_one : degree one_polynomial ≡ 0
degree_one = let low = degree_at_most one_polynomial 0 (λ k h. monomial-other (pos 1) 0 k (λ e. absurd (omega arith))) in omega arith

-- a polynomial with the coefficient 1 of power 0 is 1 where its degree is 0
pub one_by_degree : (p : List ℤ) (n : ℕ) → IsPolynomial p → n ≡ degree p → coefficient p 0 ≡ pos 1 → (n == 0) ≡ is_same p one_polynomial
one_by_degree p n held e first = elim (cases_eq n 0) [
  | inl none ↦ eq-eqb n 0 none ∙ sym (same_to p one_polynomial (one_coefficients p held (sym e ∙ none) first))
  | inr apart ↦ ne_eqb n 0 apart ∙ sym (not_same p one_polynomial (λ s. apart (e ∙ ap degree s ∙ degree_one)))
]

-- and isn't 1 with another coefficient of power 0
pub one_by_first : (p : List ℤ) (n : ℕ) → ¬ (n ≡ 1) → (coefficient p 0 ≡ pos 1 → n ≡ 1) → (n == 1) ≡ is_same p one_polynomial
one_by_first p n apart h = ne_eqb n 1 apart ∙ sym
    (not_same p one_polynomial (λ s. apart (h (ap (λ q. coefficient q 0) s ∙ monomial-at (pos 1) 0 (omega arith)))))
