-- Lists that are polynomials: 33 coefficients, each of at most 2^127 - 1 in size.
use Rattle.std.proofs.Common.{◌≡◌, ℕ, suc, ◌+◌, ◌/◌, ◌<◌, ◌≤◌, ◌^◌, List, set, sym, ap, ◌∙◌, arith, lit<, ℤ, pos, negsuc}
use Rattle.std.proofs.Common.{int_div, unsigned_abs, inl, inr, length, rules, FitsSigned}
use Rattle.std.specs.Int.{w64}
use Rattle.std.proofs.lemmas.Bool.{cases_eq, cases_lt}
use Rattle.std.proofs.lemmas.List.{length-set}
use Rattle.std.proofs.Math.Nat.{div-le_self}
use Rattle.field_core.specs.Polynomial.{coefficient, lowest, poly_negate}
use Rattle.field_core.specs.Laws.PolynomialLaws.{coefficient-negate}
use Rattle.field_core.proofs.Wholes.{size_negated, over_one}
use Rattle.eps_poly.specs.Polynomials.{IsPolynomial, IsShort, by_powers, zero_polynomial}
use Rattle.eps_poly.specs.Factors.{content, core, lowered, order, turned_as}
use Rattle.eps_poly.proofs.Coefficients.{same_polynomials, coefficient-past, coefficient-set_same, coefficient-set_other, coefficient-zero, length-zero}
use Rattle.eps_poly.proofs.Coefficients.{length-negate, length-by_powers, coefficient-by_powers}

pub zero_valid : IsPolynomial zero_polynomial
zero_valid = record { count = length-zero; sizes = λ k. rw (coefficient-zero k) (lit< tt) }

pub set_valid : (p : List ℤ) (i : ℕ) (c : ℤ) → IsPolynomial p → i ≤ 32 → unsigned_abs c < 2 ^ 127 → IsPolynomial (set p i c)
set_valid p i c v room small = let count = v.count in record {
  count = length-set p i c ∙ v.count;
  sizes = λ k. elim (cases_eq k i) [
    | inl e ↦ rw (e, coefficient-set_same p i c (omega arith)) small
    | inr apart ↦ rw (coefficient-set_other p i k c apart) (v.sizes k)
  ];
}

-- ---- coefficients that fit 64 bits

pub zero_short : IsShort zero_polynomial
zero_short = record { fits = λ k. rw (coefficient-zero k) none_fits }
  where
    none_fits : FitsSigned w64 (pos 0)
    none_fits = search rules

pub set_short : (p : List ℤ) (i : ℕ) (c : ℤ) → IsShort p → i < length p → FitsSigned w64 c → IsShort (set p i c)
set_short p i c short room fits = record {
  fits = λ k. elim (cases_eq k i) [
    | inl e ↦ rw (e, coefficient-set_same p i c room) fits
    | inr apart ↦ rw (coefficient-set_other p i k c apart) (short.fits k)
  ];
}

-- ---- other forms

pub negate_valid : (p : List ℤ) → IsPolynomial p → IsPolynomial (poly_negate p)
negate_valid p v = record {
  count = length-negate p ∙ v.count;
  sizes = λ k. rw (coefficient-negate p k, size_negated (coefficient p k)) (v.sizes k);
}

abs_quotient : (a b : ℤ) → unsigned_abs (int_div a b) ≤ unsigned_abs a
abs_quotient (pos a) (pos b) = div-le_self a b
abs_quotient (pos a) (negsuc b) = rw (size_negated (pos (a / suc b))) (div-le_self a (suc b))
abs_quotient (negsuc a) (pos b) = rw (size_negated (pos (suc a / b))) (div-le_self (suc a) b)
abs_quotient (negsuc a) (negsuc b) = div-le_self (suc a) (suc b)

pub lowered_valid : (k : ℕ) (by : ℤ) (p : List ℤ) → IsPolynomial p → IsPolynomial (lowered k by p)
unfolding lowered
lowered_valid k by p v =
    let value : ℕ → ℤ = λ i. int_div (coefficient p (i + k)) by in
    let all = length-by_powers value in
    record {
      count = all;
      sizes = λ i. elim (cases_lt i 33) [
        | inl h ↦ let small = v.sizes (i + k) in let less = abs_quotient (coefficient p (i + k)) by in rw (coefficient-by_powers value i h) (omega arith)
        | inr h ↦ rw (coefficient-past (by_powers value) i (omega arith)) (lit< tt)
      ];
    }

-- nothing is lowered by 1
pub lowered_same : (p : List ℤ) → IsPolynomial p → lowered 0 (pos 1) p ≡ p
unfolding lowered
lowered_same p v =
    let value : ℕ → ℤ = λ i. int_div (coefficient p (i + 0)) (pos 1) in
    let all = length-by_powers value in
    same_polynomials (by_powers value) p (all ∙ sym v.count)
    (λ k h. let same : k + 0 ≡ k = omega arith in coefficient-by_powers value k (omega arith) ∙ over_one (coefficient p (k + 0))
    ∙ ap (coefficient p) same)

turned_valid : (s : ℤ) (p : List ℤ) → IsPolynomial p → IsPolynomial (turned_as s p)
turned_valid (pos n) p v = v
turned_valid (negsuc n) p v = negate_valid p v

pub core_valid : (p : List ℤ) → IsPolynomial p → IsPolynomial (core p)
unfolding core
core_valid p v = lowered_valid (order p) (pos (content p)) (turned_as (lowest p) p) (turned_valid (lowest p) p v)
