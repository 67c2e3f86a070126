-- The limit of a quotient from 0 to 1, by the coefficients of the least power of its denominator.
use Rattle.std.proofs.Common.{◌≡◌, ◌*◌, ◌<◌, ◌^◌, ℕ, zero, suc, List, [], ◌∷◌, refl, sym, ◌∙◌, ap, ap₂, subst, arith, ℤ, pos}
use Rattle.std.proofs.Common.{negsuc, ◌*ℤ◌, ◌<ℤ◌, neg_ℤ, unsigned_abs, int_div}
use Rattle.std.proofs.lemmas.Int.{unsigned_abs-mul}
use Rattle.std.proofs.lemmas.Nat.Gcd.{dvd_antisymm}
use Rattle.std.proofs.Math.Nat.{dvd-mul_left}
use Rattle.std.specs.Int.{◌∣◌}
use lib.IntN.{*ℤ-zero}
use Rattle.field_core.specs.Sized.{gcd_of}
use Rattle.field_core.specs.Terms.{Terms, IsReduced}
use Rattle.field_core.specs.Number.{Pair}
use Rattle.field_core.specs.Polynomial.{coefficient, lowest, or_else, Same, poly_multiply, IsNonZero}
use Rattle.field_core.specs.Exact.{value_of}
use Rattle.field_core.specs.Fractions.{fraction}
use Rattle.field_core.specs.Limit.{limit}
use Rattle.field_core.specs.LimitRatio.{limit_ratio}
use Rattle.field_core.specs.LimitParts.{limit_terms, IsUnit}
use Rattle.field_core.specs.Laws.Effective.{cross_of_equal, fraction-cross, positive_nonzero}
use Rattle.field_core.specs.Laws.FractionLaws.{fraction-equal, fraction-zero, quotient-pair}
use Rattle.field_core.specs.Laws.Integers.{int_negate_multiply, int_multiply_negate}
use Rattle.field_core.specs.Laws.LimitLaws.{limit-quotient}
use Rattle.field_core.specs.Laws.PolynomialLaws.{coefficient-first, factor_zero, shift-cancel}
use Rattle.field_core.proofs.Coprime.{apart_from_gcd, divides_other}
use Rattle.field_core.proofs.IntegerRing.{*ℤ_cancel}
use Rattle.field_core.proofs.Wholes.{same_by_size}
use Rattle.eps_poly.specs.Factors.{order}
use Rattle.eps_poly.specs.Polynomials.{IsPolynomial}
use Rattle.eps_poly.proofs.OrderLaws.{coefficient-order}
use Rattle.eps_quotient.specs.Lowering.{norm}
use Rattle.eps_quotient.specs.Laws.Exact.{below_first, limit_in_lowest_terms, limit_of_terms, some_below}
use Rattle.eps_quotient.specs.Laws.LimitTerms.{lowest_terms, same_fraction}
use Rattle.eps_quotient.specs.Laws.NormLaws.{norm_is}

-- ---- where the denominator begins with zeros, so does the numerator of what has a limit

heads_none : (c : ℤ) (n d m e : List ℤ) → ¬ (coefficient e 0 ≡ pos 0) → Same (poly_multiply (c ∷ n) e) (poly_multiply m (pos 0 ∷ d)) → c ≡ pos 0
unfolding coefficient
heads_none c n d m e h same = factor_zero c (coefficient e 0) h
    (sym (coefficient-first (c ∷ n) e) ∙ same 0 ∙ coefficient-first m (pos 0 ∷ d) ∙ *ℤ-zero (coefficient m 0))

none_below : (d n m e : List ℤ) → ¬ (coefficient e 0 ≡ pos 0) → Same (poly_multiply n e) (poly_multiply m d) → (k : ℕ) → k < order d
    → coefficient n k ≡ pos 0
unfolding order coefficient
none_below [] n m e h same k l = absurd (omega arith)
none_below (pos zero ∷ d) [] m e h same k l = refl
none_below (pos zero ∷ d) (c ∷ n) m e h same zero l = heads_none c n d m e h same
none_below (pos zero ∷ d) (c ∷ n) m e h same (suc k) l =
    none_below d n m e h (shift-cancel n e m d (subst (λ x. Same (poly_multiply (x ∷ n) e) (poly_multiply m (pos 0 ∷ d))) (heads_none c n d m e h same) same))
    k (omega arith)
none_below (pos (suc a) ∷ d) n m e h same k l = absurd (omega arith)
none_below (negsuc a ∷ d) n m e h same k l = absurd (omega arith)

ratio_from : (d n : List ℤ) → ((k : ℕ) → k < order d → coefficient n k ≡ pos 0) → IsNonZero d
    → limit_ratio n d ≡ fraction (coefficient n (order d)) (coefficient d (order d))
unfolding limit_ratio order coefficient lowest or_else
ratio_from [] n none some = absurd (some refl)
ratio_from (pos zero ∷ d) [] none some = sym (fraction-zero (coefficient d (order d)) (λ e. some (sym (coefficient-order d) ∙ e)))
ratio_from (pos zero ∷ d) (c ∷ n) none some =
    rw (none 0 (omega arith)) (ratio_from d n (λ k l. none (suc k) (omega arith)) some)
ratio_from (pos (suc a) ∷ d) n none some = refl
ratio_from (negsuc a ∷ d) n none some = refl

pub limit_from : (n d : List ℤ) → IsPolynomial n → IsPolynomial d → IsNonZero d → IsUnit (value_of (norm n d))
    → limit (value_of (norm n d)) ≡ fraction (coefficient n (order d)) (coefficient d (order d))
unfolding value_of
limit_from n d v w some unit =
    let x = norm n d in
    let is = norm_is n d v w some in
    let a : Pair = record { numerator = n; denominator = d; nonzero = some } in
    let b : Pair = record { numerator = x.numerator; denominator = x.denominator; nonzero = some_below x is.stored } in
    let cross = cross_of_equal a b (sym (quotient-pair n d some) ∙ is.value ∙ quotient-pair x.numerator x.denominator (some_below x is.stored)) in
    ap limit (sym is.value) ∙ limit-quotient n d some
    ∙ ratio_from d n (none_below d n x.numerator x.denominator (below_first x is.stored unit) cross) some

-- ---- equal fractions in lowest terms are the same

den_divides : (x y : Terms) → IsReduced x → x.num *ℤ y.den ≡ y.num *ℤ x.den → unsigned_abs x.den ∣ unsigned_abs y.den
den_divides x y r h =
    let sizes : unsigned_abs x.num * unsigned_abs y.den ≡ unsigned_abs y.num * unsigned_abs x.den =
    sym (unsigned_abs-mul x.num y.den) ∙ ap unsigned_abs h ∙ unsigned_abs-mul y.num x.den in
    divides_other (unsigned_abs x.den) (unsigned_abs x.num) (unsigned_abs y.den) (apart_from_gcd (unsigned_abs x.num) (unsigned_abs x.den) r.reduced)
    (subst (λ n. unsigned_abs x.den ∣ n) (sym sizes) (dvd-mul_left (unsigned_abs x.den) (unsigned_abs y.num)))

pub same_lowest : (x y : Terms) → IsReduced x → IsReduced y → fraction x.num x.den ≡ fraction y.num y.den → x ≡ y
same_lowest x y r s e =
    let h = fraction-cross x.num x.den y.num y.den (positive_nonzero x.den r.positive) (positive_nonzero y.den s.positive) e in
    let den : x.den ≡ y.den = same_by_size x.den y.den r.positive s.positive (dvd_antisymm (den_divides x y r h) (den_divides y x s (sym h))) in
    let num : x.num ≡ y.num = *ℤ_cancel x.num y.num x.den (positive_nonzero x.den r.positive) (subst (λ d. x.num *ℤ d ≡ y.num *ℤ x.den) (sym den) h) in
    ap₂ (λ n d. record { num = n; den = d }) num den

-- lowest terms of those coefficients are those of the limit
pub limit_is : (n d : List ℤ) (t : Terms) → IsPolynomial n → IsPolynomial d → IsNonZero d → IsUnit (value_of (norm n d)) → IsReduced t
    → fraction t.num t.den ≡ fraction (coefficient n (order d)) (coefficient d (order d)) → t ≡ limit_terms (norm n d)
limit_is n d t v w some unit r e =
    let s = (norm_is n d v w some).stored in
    same_lowest t (limit_terms (norm n d)) r (limit_in_lowest_terms (norm n d) s unit)
    (e ∙ sym (limit_from n d v w some unit) ∙ sym (limit_of_terms (norm n d) s unit))

pub limit_made : (n d : List ℤ) (a b : ℤ) → IsPolynomial n → IsPolynomial d → IsNonZero d → IsUnit (value_of (norm n d)) → unsigned_abs a < 2 ^ 127
    → unsigned_abs b < 2 ^ 127 → pos 0 <ℤ b → a *ℤ coefficient d (order d) ≡ coefficient n (order d) *ℤ b
    → Path Terms (record { num = int_div a (gcd_of a b); den = int_div b (gcd_of a b) }) (limit_terms (norm n d))
limit_made n d a b v w some unit sa sb up cross =
    limit_is n d (record { num = int_div a (gcd_of a b); den = int_div b (gcd_of a b) }) v w some unit (lowest_terms a b sa sb up)
    (same_fraction a b up
    ∙ fraction-equal a b (coefficient n (order d)) (coefficient d (order d)) (positive_nonzero b up) (λ e. some (sym (coefficient-order d) ∙ e)) cross)

pub opposites : (a b : ℤ) → neg_ℤ a *ℤ b ≡ a *ℤ neg_ℤ b
opposites a b = int_negate_multiply a b ∙ sym (int_multiply_negate a b)
