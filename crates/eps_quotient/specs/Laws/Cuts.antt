-- Polynomials of which a content and a power of epsilon are cut, with the core or without it.
use Rattle.std.proofs.Common.{◌≡◌, ℕ, ◌+◌, ◌-◌, ◌*◌, ◌/◌, ◌<◌, ◌≤◌, ◌^◌, List, length, sym, ◌∙◌, ap, subst}
use Rattle.std.proofs.Common.{add_comm, arith, ℤ, pos, ◌*ℤ◌, unsigned_abs, int_div}
use Rattle.std.specs.Int.{◌∣◌}
use Rattle.std.proofs.lemmas.Int.{ints}
use Rattle.std.proofs.Math.IntN.{*ℤ-zero, zero-*ℤ}
use Rattle.std.proofs.Math.Nat.{div-le_self, mul-div_cancel', eq-one_of_dvd-one}
use Rattle.field_core.specs.Polynomial.{Same, poly_multiply, lowest, IsNonZero}
use Rattle.field_core.specs.Laws.PolynomialLaws.{multiply_comm, lowest-multiply, lowest-same, same_sym}
use Rattle.eps_poly.specs.Polynomials.{IsPolynomial, monomial, zero_polynomial}
use Rattle.eps_poly.specs.Factors.{content, order, factor, lowered, from_factors, IsCore, core}
use Rattle.eps_poly.proofs.ContentLaws.{content_divides, content_small}
use Rattle.eps_poly.proofs.FactorLaws.{lowered_factors, core_is, core_factors}
use Rattle.field_core.proofs.Wholes.{quotient_times, size_quotient}
use Rattle.eps_poly.proofs.OrderLaws.{order_below, lowest_from_coefficient}
use Rattle.eps_poly.proofs.Validity.{zero_valid, set_valid, lowered_valid}
use Rattle.eps_quotient.specs.Lowering.{one_polynomial}
use Rattle.eps_quotient.specs.Laws.QuotientLaws.{same_trans}
use Rattle.eps_quotient.specs.Laws.Multiples.{factors-factors, factors-same, length-monomial, monomial-at, monomial-factors, monomial-multiply, content-same}
use Rattle.eps_quotient.specs.Laws.Multiples.{content-factors}
use Rattle.eps_quotient.specs.Laws.Cores.{Is, only_core, length-core, length-lowered, size-factor, factor_some}

-- p is c times q, and c has the content h and the order z
pub record IsCut (p q c : List ℤ) (h z : ℕ) : Type 0 where
  pub times : Same p (poly_multiply c q)
  pub order_of : order p ≡ z + order q
  pub content_of : content p ≡ h * content q
  pub some : IsNonZero q
  pub held : IsPolynomial q

-- p is c times q in this way, and q has this core
pub record IsCutTo (p q c : List ℤ) (h z : ℕ) (left : List ℤ) : Type 0 where
  pub cut : IsCut p q c h z
  pub core_of : core q ≡ left

pub order_within : (p : List ℤ) → length p ≡ 33 → IsNonZero p → order p ≤ 32
order_within p count some = let w = order_below p some in omega arith

factor_nonzero : (p q c : List ℤ) → Same p (poly_multiply c q) → IsNonZero p → IsNonZero q
factor_nonzero p q c s some e = some (lowest-same p _ s ∙ lowest-multiply c q ∙ ap (λ x. lowest c *ℤ x) e ∙ *ℤ-zero (lowest c))

-- ---- the powers and the content are cut

-- what is left has the same core
lowered_core : (p q : List ℤ) (h z : ℕ) → length p ≡ 33 → length q ≡ 33 → IsNonZero p → IsNonZero q → Same p (from_factors (pos h) z q)
    → Is p (pos h *ℤ factor q) (z + order q) (core q)
lowered_core p q h z long count some left s =
    only_core p (core q) (pos h *ℤ factor q) (z + order q) long some (length-core q) (core_is q count left)
    (same_trans p _ _ s (same_trans _ _ _ (factors-same (pos h) z q _ (core_factors q count)) (factors-factors (pos h) (factor q) z (order q) (core q))))

pub cut_powers : (p : List ℤ) (h z : ℕ) → IsPolynomial p → IsNonZero p → h ∣ content p → z ≤ order p
    → IsCutTo p (lowered z (pos h) p) (monomial (pos h) z) h z (core p)
cut_powers p h z held some divides low =
    let q = lowered z (pos h) p in
    let s = lowered_factors z h p held.count divides low in
    let within : z ≤ 32 = let w = order_within p held.count some in omega arith in
    let t = same_trans p _ _ s (same_sym _ _ (monomial-multiply (pos h) z q within)) in
    let nonzero = factor_nonzero p q _ t some in
    let is = lowered_core p q h z held.count (length-lowered z (pos h) p) some nonzero s in
    record {
      cut = record {
        times = t;
        order_of = is.order_of;
        content_of = content-same p _ s ∙ content-factors (pos h) z q;
        some = nonzero;
        held = lowered_valid z (pos h) p held;
      };
      core_of = sym is.core_of;
    }

-- ---- the core is cut also

pub one_core : IsCore one_polynomial
one_core = record {
  divisor = eq-one_of_dvd-one (subst (λ x. content one_polynomial ∣ unsigned_abs x)
      (monomial-at (pos 1) 0 (omega arith)) (content_divides one_polynomial 0));
  first = rw (monomial-at (pos 1) 0 (omega arith)) (omega (arith, ints));
}

pub monomial_held : (c : ℤ) (k : ℕ) → k ≤ 32 → unsigned_abs c < 2 ^ 127 → IsPolynomial (monomial c k)
unfolding monomial
monomial_held c k low small = set_valid zero_polynomial k c zero_valid low small

pub monomial_some : (c : ℤ) (k : ℕ) → k ≤ 32 → ¬ (c ≡ pos 0) → IsNonZero (monomial c k)
monomial_some c k low some = lowest_from_coefficient (monomial c k) k (λ e. some (sym (monomial-at c k low) ∙ e))

-- what is left has the core 1
pub monomial_core : (c : ℤ) (k : ℕ) → k ≤ 32 → ¬ (c ≡ pos 0) → Is (monomial c k) c k one_polynomial
monomial_core c k low some =
    only_core (monomial c k) one_polynomial c k (length-monomial c k) (monomial_some c k low some)
    (length-monomial (pos 1) 0) one_core (monomial-factors c k low)

monomial_times : (c d : ℤ) (i z : ℕ) (p q : List ℤ) → i ≤ 32 → Same p (from_factors (c *ℤ d) (i + z) q)
    → Same p (poly_multiply (from_factors d z q) (monomial c i))
monomial_times c d i z p q low s =
    same_trans p _ _ s (same_sym _ _
    (same_trans _ _ _ (multiply_comm (from_factors d z q) (monomial c i))
    (same_trans _ _ _ (monomial-multiply c i (from_factors d z q) low) (factors-factors c d i z q))))

pub cut_core : (p : List ℤ) (h z : ℕ) → IsPolynomial p → IsNonZero p → h ∣ content p → z ≤ order p
    → IsCutTo p (monomial (int_div (factor p) (pos h)) (order p - z)) (from_factors (pos h) z (core p)) h z one_polynomial
cut_core p h z held some divides low =
    let c = int_div (factor p) (pos h) in
    let i = order p - z in
    let high : i ≤ 32 = let w = order_within p held.count some in omega arith in
    let whole : c *ℤ pos h ≡ factor p = quotient_times (factor p) h (subst (λ n. h ∣ n) (sym (size-factor p)) divides) in
    let other : ¬ (c ≡ pos 0) = λ e. factor_some p some (sym whole ∙ ap (λ x. x *ℤ pos h) e ∙ zero-*ℤ (pos h)) in
    let is = monomial_core c i high other in
    let size : unsigned_abs c ≡ content p / h = size_quotient (factor p) h ∙ ap (λ n. n / h) (size-factor p) in
    let back : i + z ≡ order p = omega arith in
    record {
      cut = record {
        times = monomial_times c (pos h) i z p (core p) high
            (subst (λ x. Same p (from_factors x (i + z) (core p))) (sym whole)
            (subst (λ k. Same p (from_factors (factor p) k (core p))) (sym back) (core_factors p held.count)));
        order_of = sym back ∙ add_comm i z ∙ ap (λ k. z + k) (sym is.order_of);
        content_of = sym (mul-div_cancel' h divides) ∙ ap (λ n. h * n) (sym size ∙ sym (ap unsigned_abs is.factor_of) ∙ size-factor (monomial c i));
        some = monomial_some c i high other;
        held = monomial_held c i high (let w = content_small p held.sizes in let l = div-le_self (content p) h in rw size (omega arith));
      };
      core_of = is.core_of;
    }
