-- What a sum that isn't refused is.
use Rattle.std.proofs.Common.{pos, ◌≡◌, ℕ, ◌<◌, ◌^◌, List, length, sym, ◌∙◌, ap₂, arith, ℤ, ◌+ℤ◌, unsigned_abs, inl, inr}
use Rattle.std.proofs.Common.{Option, Some}
use Rattle.std.proofs.lemmas.Bool.{cases_lt}
use Rattle.std.proofs.lemmas.Int.{ints}
use Rattle.field_core.specs.Polynomial.{coefficient, Same, poly_add}
use Rattle.field_core.specs.Sized.{sized}
use Rattle.field_core.specs.Laws.PolynomialLaws.{coefficient-add}
use lib.IntN.{+ℤ_idr}
use Rattle.field_core.proofs.Sized.{sized_small, sized_says}
use Rattle.eps_poly.specs.Polynomials.{IsPolynomial}
use Rattle.eps_poly.specs.Written.{sized_list, sized_sum}
use Rattle.eps_poly.proofs.Coefficients.{coefficient-past}
use Rattle.eps_poly.proofs.SizedLists.{list_values}

-- a coefficient to which 0 is added stays
pub sum_alone : (p q : List ℤ) (k : ℕ) → IsPolynomial p → coefficient q k ≡ pos 0
    → sized (coefficient p k +ℤ coefficient q k) ≡ Some (coefficient p k)
sum_alone p q k v none = rw (none, +ℤ_idr (coefficient p k)) (sized_small (coefficient p k) (v.sizes k))

-- 33 values of at most 2^127 - 1 in size are a polynomial
pub values_polynomial : (value : ℕ → Option ℤ) (r : List ℤ) → ((k : ℕ) (c : ℤ) → value k ≡ Some c → unsigned_abs c < 2 ^ 127)
    → sized_list 33 value ≡ Some r → IsPolynomial r
values_polynomial value r small e =
    let v = list_values 33 value r e in
    let all = v.count in
    record {
      count = v.count;
      sizes = λ k. elim (cases_lt k 33) [
        | inl h ↦ small k (coefficient r k) (v.each k h)
        | inr h ↦ rw (coefficient-past r k (omega arith)) (omega (arith, ints))
      ];
    }

pub sum_polynomial : (p q r : List ℤ) → sized_sum p q ≡ Some r → IsPolynomial r
unfolding sized_sum
sum_polynomial p q r e = values_polynomial _ r (λ k c h. (sized_says (coefficient p k +ℤ coefficient q k) c h).1) e

-- a written sum that isn't refused is the sum
pub sum_is_exact : (p q r : List ℤ) → length p ≡ 33 → length q ≡ 33 → sized_sum p q ≡ Some r → Same r (poly_add p q)
unfolding sized_sum
sum_is_exact p q r long_p long_q e k =
    let v = list_values 33 _ r e in
    let all = v.count in
    elim (cases_lt k 33) [
      | inl h ↦ (sized_says (coefficient p k +ℤ coefficient q k) (coefficient r k) (v.each k h)).0 ∙ sym (coefficient-add p q k)
      | inr h ↦ coefficient-past r k (omega arith) ∙ sym
          (coefficient-add p q k ∙ ap₂ (λ a b. a +ℤ b) (coefficient-past p k (omega arith)) (coefficient-past q k (omega arith)))
    ]
