-- What is stored, from equal parts.
use Rattle.std.proofs.Common.{◌≡◌, refl, IfSome, Option, Some, None, sym, ap, ap₂, ◌∙◌, subst, List, ℤ, int_div}
use Rattle.field_core.specs.Kind.{Parts}
use Rattle.field_core.specs.Polynomial.{coefficient, Same, poly_multiply, lowest, IsNonZero}
use Rattle.field_core.specs.Sized.{gcd_of}
use Rattle.field_core.specs.Terms.{Terms}
use Rattle.field_core.specs.LimitParts.{limit_terms}
use Rattle.eps_quotient.specs.Laws.LimitTerms.{limit_terms-first}
use Rattle.field_core.specs.Laws.PolynomialLaws.{nonzero-multiply, same_sym}
use Rattle.eps_quotient.specs.declared.pair.Pair.{Pair}
use Rattle.eps_quotient.specs.Stored.{IsQuotient}
use Rattle.eps_quotient.specs.View.{pair_parts}
use Rattle.eps_quotient.specs.Laws.QuotientLaws.{same_nonzero}

pub stored_same : (x y : Parts) → x ≡ y → IsQuotient y → IsQuotient x
stored_same x y e s = subst IsQuotient (sym e) s

pub parts_same : (n d m e : List ℤ) → n ≡ m → d ≡ e
    → Path Parts (record { numerator = n; denominator = d }) (record { numerator = m; denominator = e })
parts_same n d m e f g = ap₂ (λ n d. record { numerator = n; denominator = d }) f g

-- a product of two polynomials that aren't 0 isn't 0
pub product_some : (r p q : List ℤ) → Same r (poly_multiply p q) → IsNonZero p → IsNonZero q → IsNonZero r
product_some r p q s h g = same_nonzero (poly_multiply p q) r (same_sym r (poly_multiply p q) s) (nonzero-multiply p q h g)

pub some_list : (p q : List ℤ) → p ≡ q → IsNonZero q → IsNonZero p
some_list p q e h z = h (ap lowest (sym e) ∙ z)

-- the limit's terms, as they are computed
pub terms_made : (n d : List ℤ) (num den g p q : ℤ) → num ≡ coefficient n 0 → den ≡ coefficient d 0 → g ≡ gcd_of num den → p ≡ int_div num g
    → q ≡ int_div den g
    → Path Terms (record { num = p; den = q }) (limit_terms (record { numerator = n; denominator = d }))
terms_made n d num den g p q e f h i j =
    let divisor : g ≡ gcd_of (coefficient n 0) (coefficient d 0) = h ∙ ap₂ gcd_of e f in
    ap₂ (λ x y. record { num = x; den = y }) (i ∙ ap₂ int_div e divisor) (j ∙ ap₂ int_div f divisor) ∙ sym (limit_terms-first n d)

pub stored_if : (r : Option Pair) → ((x : Pair) → r ≡ Some x → IsQuotient (pair_parts x)) → IfSome r (λ x. IsQuotient (pair_parts x))
stored_if (Some x) h = h x refl
stored_if None h = tt
