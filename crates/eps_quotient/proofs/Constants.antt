-- The written polynomial of fractions is a quotient over a constant.
use Rattle.std.proofs.Common.{◌≡◌, ◌≢◌, refl, sym, ap, ap₂, subst, ◌∙◌, ℕ, zero, suc, ◌+◌, ◌-◌, ◌<◌, ◌≤◌, List, []}
use Rattle.std.proofs.Common.{◌∷◌, length, ℤ, pos, neg_ℤ, ◌+ℤ◌, ◌*ℤ◌, int_div, Option, Some, arith}
use Rattle.std.specs.List.{All, list_all}
use Rattle.std.specs.Int.{is_negative}
use lib.IntN.{+ℤ_idr, *ℤ-zero}
use Rattle.std.proofs.lemmas.List.Elements.{All-get_or, All-drop}
use Rattle.std.proofs.Math.IntN.{zero-*ℤ}
use Rattle.std.proofs.Math.Nat.{min-le_right}
use Rattle.field_core.specs.declared.place.Op.TheVariants.{Add}
use Rattle.field_core.specs.Kind.{Parts, is_zero, is_zero_integer}
use Rattle.field_core.specs.Terms.{Terms, IsReduced}
use Rattle.field_core.specs.Polynomial.{coefficient, lowest, Same, poly_negate, IsNonZero}
use Rattle.field_core.specs.Laws.PolynomialLaws.{coefficient-negate, coefficient-multiply_part, product_part, lowest-same, nonzero-multiply, same_sym}
use Rattle.field_core.specs.Laws.FractionLaws.{lowest-constant}
use Rattle.eps_poly.specs.Polynomials.{IsConstant, IsPolynomial, is_same, monomial}
use Rattle.eps_poly.specs.Factors.{order, lowered, core, factor}
use Rattle.eps_poly.specs.Written.{sized_product, sized_sum}
use Rattle.eps_poly.proofs.FactorLaws.{coefficient-lowered}
use Rattle.eps_poly.proofs.IntegerQuotients.{int_div-zero}
use Rattle.eps_poly.proofs.OrderLaws.{order_is}
use Rattle.eps_poly.proofs.ProductLaws.{product_is_exact, product_polynomial}
use Rattle.eps_quotient.specs.Lowering.{zero_quotient, common_content, common_order, without_powers, without_cores, lower, turned, norm}
use Rattle.eps_quotient.specs.Quotients.{sum_over, sum_of, written_sum}
use Rattle.eps_quotient.specs.Polynomials.{term, sum_from, written_polynomial}
use Rattle.eps_quotient.specs.Stored.{IsQuotient}
use Rattle.eps_quotient.specs.Laws.Exact.{quotients_are_exact, some_below, zero_stored}
use Rattle.eps_quotient.specs.Laws.LowerLaws.{either_branch, lower_is}
use Rattle.eps_quotient.specs.Laws.QuotientLaws.{same_nonzero}
use Rattle.eps_quotient.specs.Laws.Multiples.{monomial-other}
use Rattle.eps_quotient.proofs.TermLaws.{term_stored}
use Rattle.field_core.proofs.Results.{one_some, bind_some}

apart : (k : ℕ) → 0 < k → k ≢ 0
apart k h e = omega arith

pub monomial_constant : (c : ℤ) → IsConstant (monomial c 0)
monomial_constant c k h = monomial-other c 0 k (apart k h)

pub constant_same : (p : List ℤ) → IsConstant p → Same p (coefficient p 0 ∷ [])
unfolding coefficient
constant_same p h zero = refl
constant_same p h (suc k) = h (suc k) (omega arith)

order_constant : (p : List ℤ) → IsNonZero p → IsConstant p → order p ≡ 0
order_constant p some h = order_is p 0 (λ k i. absurd (omega arith))
    (λ e. some (lowest-same p _ (constant_same p h) ∙ lowest-constant (coefficient p 0) ∙ e))

lowered_constant : (k : ℕ) (by : ℤ) (p : List ℤ) → k ≡ 0 → length p ≡ 33 → IsConstant p → IsConstant (lowered k by p)
lowered_constant k by p e long h i b = coefficient-lowered k by p i long ∙ ap (λ c. int_div c by) (h (i + k) (omega arith)) ∙ int_div-zero by

negate_constant : (p : List ℤ) → IsConstant p → IsConstant (poly_negate p)
negate_constant p h k b = coefficient-negate p k ∙ ap (λ c. neg_ℤ c) (h k b)

product_none : (p q : List ℤ) (k n : ℕ) → 0 < k → IsConstant p → IsConstant q → product_part p q k n ≡ pos 0
unfolding product_part
product_none p q k zero b h g = refl
product_none p q k (suc n) b h g = ap₂ (λ x y. x +ℤ y) (product_none p q k n b h g) (nothing n) ∙ +ℤ_idr (pos 0)
  where
    nothing : (n : ℕ) → coefficient p n *ℤ coefficient q (k - n) ≡ pos 0
    nothing zero = let e : k - 0 ≡ k = omega arith in ap (λ i. coefficient p 0 *ℤ coefficient q i) e ∙ ap (λ c. coefficient p 0 *ℤ c) (g k b)
        ∙ *ℤ-zero (coefficient p 0)
    nothing (suc n) = ap (λ c. c *ℤ coefficient q (k - suc n)) (h (suc n) (omega arith)) ∙ zero-*ℤ (coefficient q (k - suc n))

product_constant : (p q r : List ℤ) → sized_product p q ≡ Some r → IsConstant p → IsConstant q → IsConstant r
product_constant p q r e h g k b = product_is_exact p q r e k ∙ coefficient-multiply_part p q k ∙ product_none p q k (k + 1) b h g

-- what is over a constant
abbrev pub IsOverConstant : Parts → Type 0
IsOverConstant x = IsConstant x.denominator

lower_constant : (a b : List ℤ) → IsPolynomial b → IsNonZero b → IsConstant b → IsOverConstant (lower a b)
unfolding lower without_powers without_cores
lower_constant a b held some h =
    let low = order_constant b some h in
    let common : common_order a b ≡ 0 = let l = min-le_right (order a) (order b) in omega arith in
    let left : order b - common_order a b ≡ 0 = omega arith in
    either_branch IsOverConstant (list_all is_zero_integer a) zero_quotient _ (λ e. monomial_constant (pos 1))
    (λ e. either_branch IsOverConstant (is_same (core a) (core b)) _ _
    (λ f. subst (λ k. IsConstant (monomial (int_div (factor b) (pos (common_content a b))) k)) (sym left) (monomial_constant _))
    (λ f. lowered_constant (common_order a b) (pos (common_content a b)) b common held.count h))

norm_constant : (a b : List ℤ) → IsPolynomial b → IsNonZero b → IsConstant b → IsOverConstant (norm a b)
unfolding norm turned
norm_constant a b held some h =
    let l = lower_constant a b held some h in
    either_branch IsOverConstant (is_negative (lowest (lower a b).denominator)) _ _ (λ e. negate_constant _ l) (λ e. l)

GivesConstant : Option Parts → Type 0
GivesConstant r = (z : Parts) → r ≡ Some z → IsOverConstant z

given : (x : Parts) → IsOverConstant x → GivesConstant (Some x)
unfolding GivesConstant
given x h z e = subst IsOverConstant (one_some (Some x) x z refl e) h

over_constant : (n m d : List ℤ) → IsPolynomial d → IsNonZero d → IsConstant d → GivesConstant (sum_over n m d)
unfolding GivesConstant sum_over
over_constant n m d held some h z e =
    let u = bind_some (sized_sum n m) _ z e in
    subst IsOverConstant (one_some (Some z) _ z (sym u.2) refl) (norm_constant u.0 d held some h)

sum_constant : (x y : Parts) → IsQuotient x → IsQuotient y → IsOverConstant x → IsOverConstant y
    → GivesConstant (sum_of x y (lower x.denominator y.denominator))
unfolding GivesConstant sum_of
sum_constant x y sx sy h g z e =
    let l = lower_is x.denominator y.denominator sx.below sy.below (some_below y sy) in
    let u = bind_some (sized_product x.numerator (lower x.denominator y.denominator).denominator) _ z e in
    let v = bind_some (sized_product y.numerator (lower x.denominator y.denominator).numerator) _ z u.2 in
    let d = bind_some (sized_product x.denominator (lower x.denominator y.denominator).denominator) _ z v.2 in
    over_constant u.0 v.0 d.0 (product_polynomial _ _ _ d.1)
    (same_nonzero _ d.0 (same_sym d.0 _ (product_is_exact _ _ _ d.1)) (nonzero-multiply _ _ (some_below x sx) l.some))
    (product_constant _ _ _ d.1 h (lower_constant x.denominator y.denominator sy.below (some_below y sy) g)) z d.2

written_constant : (x y : Parts) → IsQuotient x → IsQuotient y → IsOverConstant x → IsOverConstant y → GivesConstant (written_sum x y)
unfolding written_sum
written_constant x y sx sy h g =
    either_branch GivesConstant (is_zero x) (Some y) _ (λ e. given y g)
    (λ e. either_branch GivesConstant (is_zero y) (Some x) _ (λ f. given x h)
    (λ f. either_branch GivesConstant (is_same x.denominator y.denominator) _ _
    (λ s. over_constant x.numerator y.numerator x.denominator sx.below (some_below x sx) h)
    (λ s. sum_constant x y sx sy h g)))

from_constant : (k : ℕ) (sum : Parts) (ts : List Terms) (z : Parts) → k + length ts ≤ 33 → All IsReduced ts → IsQuotient sum → IsOverConstant sum
    → sum_from k sum ts ≡ Some z → IsOverConstant z
unfolding sum_from GivesConstant term
from_constant k sum [] z b r s h e = given sum h z e
from_constant k sum (t ∷ ts) z b r s h e =
    let u = bind_some (written_sum sum (term k t)) _ z e in
    let first = term_stored k t (omega arith) (All-get_or IsReduced (t ∷ ts) 0 t (omega arith) r) in
    from_constant (suc k) u.0 ts z (omega arith) (All-drop IsReduced 1 (t ∷ ts) r) (quotients_are_exact.stored Add sum (term k t) u.0 s first tt u.1)
    (written_constant sum (term k t) s first h (monomial_constant t.den) u.0 u.1) u.2

pub polynomial_constant : (ts : List Terms) (z : Parts) → length ts ≤ 33 → All IsReduced ts → written_polynomial ts ≡ Some z → IsOverConstant z
polynomial_constant ts z b r e = from_constant 0 zero_quotient ts z (omega arith) r zero_stored (monomial_constant (pos 1)) e
