-- Quotients of polynomials under common factors, products, sums and turned about.
use Rattle.std.proofs.Common.{◌≡◌, refl, sym, ◌∙◌, ap, ap₂, List, [], ◌∷◌, ℤ, pos}
use Rattle.std.specs.declared.cmp.Ordering.TheVariants.{Greater}
use Rattle.field_core.specs.Polynomial.{Same, poly_add, poly_multiply, lowest, int_sign, IsNonZero}
use Rattle.field_core.specs.Laws.Ring.{multiply_left_comm, distribute_right}
use Rattle.field_core.specs.Laws.PolynomialLaws.{ring, value, value-add, value-multiply, value-zero, value-one, same_in, same_out, multiply_comm, lowest-same, same_sym}
use Rattle.field_core.specs.Laws.PolynomialLaws.{lowest-multiply, lowest-none, nonzero-multiply, nonzero-one, int_sign-scale}
use Rattle.field_core.specs.Number.{Number}
use Rattle.field_core.specs.Arithmetic.{number_zero, number_one, ◌+ε◌, ◌*ε◌, ◌/ε◌, number_sign}
use Rattle.field_core.specs.Laws.NumberLaws.{number_multiply_assoc, number_multiply_one}
use Rattle.field_core.specs.Laws.Order.{divide_unique}
use Rattle.field_core.specs.Fractions.{quotient}
use Rattle.field_core.specs.Laws.FractionLaws.{quotient-pair, quotient-equal, quotient-add, quotient-multiply, quotient-sign}
use Rattle.field_core.specs.Laws.Effective.{cross_of_quotients}

-- ---- the same polynomials

pub same_trans : (p q r : List ℤ) → Same p q → Same q r → Same p r
same_trans p q r s t k = s k ∙ t k

pub same_nonzero : (p q : List ℤ) → Same p q → IsNonZero p → IsNonZero q
same_nonzero p q s h e = h (lowest-same p q s ∙ e)

pub multiply-same : (p q r s : List ℤ) → Same p q → Same r s → Same (poly_multiply p r) (poly_multiply q s)
multiply-same p q r s h g = same_in _ _ (value-multiply p r ∙ ap₂ ring.multiply (same_out _ _ h) (same_out _ _ g) ∙ sym (value-multiply q s))

pub multiply-one : (p : List ℤ) → Same (poly_multiply p (pos 1 ∷ [])) p
multiply-one p = same_in _ _ (value-multiply p (pos 1 ∷ []) ∙ ap (ring.multiply (value p)) value-one ∙ ring.multiply_one (value p))

pub quotient-same : (n d m e : List ℤ) → IsNonZero d → Same n m → Same d e → quotient n d ≡ quotient m e
quotient-same n d m e h s t =
    quotient-equal n d m e h (same_nonzero d e t h) (multiply-same n m e d s (same_sym d e t))

left_comm : (p q r : List ℤ) → Same (poly_multiply (poly_multiply p q) r) (poly_multiply q (poly_multiply p r))
left_comm p q r = same_in _ _ (simp (value-multiply, ring.multiply_assoc) (multiply_left_comm ring _ _ _))

-- a common factor goes out
pub quotient-cancel : (c a b n d : List ℤ) → IsNonZero c → IsNonZero d → Same a (poly_multiply c n) → Same b (poly_multiply c d)
    → quotient a b ≡ quotient n d
quotient-cancel c a b n d hc hd s t =
    quotient-same a b (poly_multiply c n) (poly_multiply c d) (same_nonzero _ b (same_sym b _ t) (nonzero-multiply c d hc hd)) s t
    ∙ quotient-equal (poly_multiply c n) (poly_multiply c d) n d (nonzero-multiply c d hc hd) hd (left_comm c n d)

-- ---- products

-- crosswise lowered factors have the product of the factors
pub product_value : (n1 d1 n2 d2 a b c e x y : List ℤ) → IsNonZero d1 → IsNonZero d2 → IsNonZero b → IsNonZero e
    → quotient n1 d2 ≡ quotient a b → quotient n2 d1 ≡ quotient c e → Same x (poly_multiply a c) → Same y (poly_multiply e b)
    → quotient x y ≡ quotient n1 d1 *ε quotient n2 d2
product_value n1 d1 n2 d2 a b c e x y h1 h2 hb he s t sx sy =
    quotient-same x y (poly_multiply a c) (poly_multiply b e)
    (same_nonzero _ y (same_sym y _ sy) (nonzero-multiply e b he hb)) sx (same_trans y _ _ sy (multiply_comm e b))
    ∙ sym (quotient-multiply a b c e hb he)
    ∙ sym (ap₂ ◌*ε◌ s t)
    ∙ quotient-multiply n1 d2 n2 d1 h2 h1
    ∙ quotient-same (poly_multiply n1 n2) (poly_multiply d2 d1) (poly_multiply n1 n2)
    (poly_multiply d1 d2) (nonzero-multiply d2 d1 h2 h1) (λ k. refl) (multiply_comm d2 d1)
    ∙ sym (quotient-multiply n1 d1 n2 d2 h1 h2)

-- ---- sums

over_same : (n m d : List ℤ) → Same (poly_multiply (poly_add n m) (poly_multiply d d)) (poly_multiply (poly_add (poly_multiply n d) (poly_multiply m d)) d)
over_same n m d =
    same_in _ _ (simp (value-multiply, value-add) (sym (ring.multiply_assoc _ _ _) ∙ ap (λ z. ring.multiply z (value d)) (distribute_right ring _ _ _)))

-- over the same denominator numerators are added
pub sum_over_same : (n m d t : List ℤ) → IsNonZero d → Same t (poly_add n m) → quotient t d ≡ quotient n d +ε quotient m d
sum_over_same n m d t h s =
    quotient-same t d (poly_add n m) d h s (λ k. refl)
    ∙ quotient-equal (poly_add n m) d (poly_add (poly_multiply n d) (poly_multiply m d)) (poly_multiply d d) h (nonzero-multiply d d h h) (over_same n m d)
    ∙ sym (quotient-add n d m d h h)

pub quotient-widen : (n d e x y : List ℤ) → IsNonZero d → IsNonZero e → Same x (poly_multiply n e) → Same y (poly_multiply d e)
    → quotient x y ≡ quotient n d
quotient-widen n d e x y hd he s t =
    quotient-cancel e x y n d he hd (same_trans x _ _ s (multiply_comm n e)) (same_trans y _ _ t (multiply_comm d e))

-- the sum over the lowered denominators
pub sum_value : (n1 d1 n2 d2 e1 e2 u v t d : List ℤ) → IsNonZero d1 → IsNonZero d2 → IsNonZero e1 → IsNonZero e2
    → quotient d1 d2 ≡ quotient e1 e2 → Same u (poly_multiply n1 e2) → Same v (poly_multiply n2 e1) → Same t (poly_add u v)
    → Same d (poly_multiply d1 e2)
    → quotient t d ≡ quotient n1 d1 +ε quotient n2 d2
sum_value n1 d1 n2 d2 e1 e2 u v t d h1 h2 g1 g2 s su sv st sd =
    sum_over_same u v d t (same_nonzero _ d (same_sym d _ sd) (nonzero-multiply d1 e2 h1 g2)) st
    ∙ ap₂ ◌+ε◌ (quotient-widen n1 d1 e2 u d h1 g2 su sd)
    (quotient-widen n2 d2 e1 v d h2 g1 sv (same_trans d _ _ sd (same_trans _ _ _ (cross_of_quotients d1 d2 e1 e2 h2 g2 s) (multiply_comm e1 d2))))

-- ---- 0, 1, opposites and inverses

pub zero_value : (n d : List ℤ) → IsNonZero d → lowest n ≡ pos 0 → quotient n d ≡ number_zero
unfolding number_zero poly_multiply
zero_value n d h e =
    quotient-equal n d [] (pos 1 ∷ []) h nonzero-one (same_in _ _ (value-multiply n (pos 1 ∷ [])
    ∙ ap₂ ring.multiply (same_out n [] (lowest-none n e) ∙ value-zero) value-one ∙ ring.multiply_one _ ∙ sym value-zero))
    ∙ quotient-pair [] (pos 1 ∷ []) nonzero-one

pub one_value : (d : List ℤ) → IsNonZero d → quotient d d ≡ number_one
unfolding number_one
one_value d h =
    quotient-equal d d (pos 1 ∷ []) (pos 1 ∷ []) h nonzero-one (multiply_comm d (pos 1 ∷ []))
    ∙ quotient-pair (pos 1 ∷ []) (pos 1 ∷ []) nonzero-one

pub inverse_value : (n d : List ℤ) → IsNonZero n → IsNonZero d → quotient d n *ε quotient n d ≡ number_one
inverse_value n d h g =
    quotient-multiply d n n d h g
    ∙ quotient-same (poly_multiply d n) (poly_multiply n d) (poly_multiply n d)
    (poly_multiply n d) (nonzero-multiply n d h g) (multiply_comm d n) (λ k. refl)
    ∙ one_value (poly_multiply n d) (nonzero-multiply n d h g)

-- what is multiplied by an inverse is divided
pub divide_value : (x y z i : Number) → ¬ (y ≡ number_zero) → i *ε y ≡ number_one → z ≡ x *ε i → z ≡ x /ε y
divide_value x y z i n one e =
    sym (divide_unique x y z n (ap (λ v. v *ε y) e ∙ number_multiply_assoc x i y ∙ ap (λ v. x *ε v) one ∙ number_multiply_one x))

-- ---- signs

pub sign_value : (n d : List ℤ) → int_sign (lowest d) ≡ Greater → IsNonZero d → number_sign (quotient n d) ≡ int_sign (lowest n)
sign_value n d e h = quotient-sign n d h ∙ ap int_sign (lowest-multiply n d) ∙ int_sign-scale (lowest n) (lowest d) e
