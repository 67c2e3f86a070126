-- Written quotients that are reported at once.
use Rattle.std.proofs.Common.{◌≡◌, Bool, true, false, refl, sym, ◌∙◌, ap, ap₂, if◌then◌else◌, Option, Some}
use Rattle.std.proofs.lemmas.Bool.{and_parts}
use Rattle.field_core.specs.Kind.{Parts, is_zero}
use Rattle.eps_poly.specs.Polynomials.{is_same}
use Rattle.eps_poly.proofs.Coefficients.{same_from, same_to}
use Rattle.eps_quotient.specs.Lowering.{one_polynomial, one_quotient, zero_quotient}
use Rattle.eps_quotient.specs.Quotients.{inverse, is_one, written_product}
use Rattle.eps_quotient.specs.Laws.Exact.{one_stored}
use Rattle.eps_quotient.specs.Laws.NormAgain.{norm_again}

-- what is 0 stays 0
pub quotient_of_zero : (x y : Parts) → is_zero x ≡ true → written_product x y ≡ Some zero_quotient
unfolding written_product
quotient_of_zero x y e = rw e refl

one_is : (x : Parts) → is_one x ≡ true → x ≡ one_quotient
unfolding is_one
one_is x e =
    let b = and_parts (is_same x.numerator one_polynomial) (is_same x.denominator one_polynomial) e in
    ap₂ (λ n d. record { numerator = n; denominator = d }) (same_from x.numerator one_polynomial b.0) (same_from x.denominator one_polynomial b.1)

one_test : is_one one_quotient ≡ true
unfolding is_one
one_test = rw (same_to one_polynomial one_polynomial refl) refl

inverse_one : inverse one_quotient ≡ one_quotient
unfolding inverse
inverse_one = norm_again one_quotient one_stored

either_one : (t : Bool) (x : Parts) (r : Option Parts) → is_one x ≡ t
    → (if t then Some one_quotient else (if is_one one_quotient then Some x else r)) ≡ Some x
either_one true x r e = ap Some (sym (one_is x e))
either_one false x r e = rw one_test refl

product_by_one : (x : Parts) → is_zero x ≡ false → is_zero one_quotient ≡ false → written_product x one_quotient ≡ Some x
unfolding written_product
product_by_one x some e = rw (some, e) (either_one (is_one x) x _ refl)

-- and nothing is written by 1/1
pub quotient_by_one : (x y : Parts) → is_zero x ≡ false → is_zero y ≡ false → is_one y ≡ true → written_product x (inverse y) ≡ Some x
quotient_by_one x y some e one =
    let is = one_is y one in
    ap (λ z. written_product x (inverse z)) is ∙ ap (written_product x) inverse_one ∙ product_by_one x some (ap is_zero (sym is) ∙ e)
