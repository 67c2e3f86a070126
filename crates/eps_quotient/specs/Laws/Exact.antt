-- The kind of the quotients is exact.
use Rattle.std.proofs.lemmas.Bool.{and_parts}
use Rattle.std.proofs.Common.{◌≡◌, Bool, true, false, ◌||◌, List, refl, sym, ◌∙◌, ap, ap₂, subst, arith, inl, inr, ◌⊎◌, ◌*ℤ◌}
use Rattle.std.proofs.Common.{◌<ℤ◌, ℤ, pos, Option, Some, None, IfOk}
use Rattle.std.specs.Int.{is_negative}
use Rattle.std.proofs.lemmas.Int.{ints}
use Rattle.std.proofs.Math.IntN.{zero-*ℤ}
use lib.IntN.{ℤ_discrete}
use Rattle.field_core.specs.Divisor.{gcd}
use Rattle.field_core.specs.Laws.Effective.{cross_of_quotients}
use Rattle.std.specs.declared.cmp.Ordering.TheVariants.{Equal, Greater}
use Rattle.field_core.specs.declared.place.Op.{Op}
use Rattle.field_core.specs.declared.place.Op.TheVariants.{Add, Sub, Mul, Div}
use Rattle.field_core.specs.Kind.{Parts, is_zero, sign_of, ok_map, or_wide}
use Rattle.field_core.specs.Polynomial.{coefficient, lowest, int_sign, IsNonZero}
use Rattle.field_core.specs.Laws.PolynomialLaws.{nonzero-multiply, int_sign-none, positive_in, lowest-same, lowest-multiply, lowest-negate, coefficient-negate, same_sym}
use Rattle.field_core.specs.Number.{Number}
use Rattle.field_core.specs.Arithmetic.{number_zero, number_one, number_negate, number_sign, number_compare, ◌+ε◌, ◌-ε◌, ◌*ε◌}
use Rattle.field_core.specs.Laws.NumberLaws.{number_sign_zero, number_add_zero, number_multiply_one}
use Rattle.field_core.specs.Laws.Order.{number_subtract_is, number_zero_add, number_zero_multiply, number_multiply_zero, number_one_multiply}
use Rattle.field_core.specs.Fractions.{quotient, fraction}
use Rattle.field_core.specs.Laws.FractionLaws.{quotient-negate}
use Rattle.field_core.specs.Limit.{limit}
use Rattle.field_core.specs.LimitParts.{IsUnit, limit_terms}
use Rattle.field_core.specs.Terms.{IsReduced}
use Rattle.field_core.specs.Exact.{Gives, IsExact, MayTake, value_of, exact_result}
use Rattle.eps_poly.specs.Polynomials.{IsPolynomial, is_same, zero_polynomial}
use Rattle.eps_poly.specs.Factors.{content, core}
use Rattle.eps_poly.proofs.Coefficients.{same_from}
use Rattle.eps_poly.proofs.Validity.{negate_valid}
use Rattle.eps_poly.proofs.SumLaws.{sum_polynomial, sum_is_exact}
use Rattle.eps_poly.proofs.ProductLaws.{product_polynomial, product_is_exact}
use Rattle.eps_quotient.specs.Lowering.{one_polynomial, zero_quotient, one_quotient, lower, norm}
use Rattle.eps_quotient.specs.Quotients.{is_one, opposite, inverse, product_of, written_product, sum_over, sum_of, written_sum, written_quotient, quotients}
use Rattle.eps_quotient.specs.Stored.{IsQuotient}
use Rattle.eps_quotient.specs.Laws.QuotientLaws.{same_nonzero, product_value, sum_over_same, sum_value, zero_value, one_value, inverse_value}
use Rattle.eps_quotient.specs.Laws.QuotientLaws.{divide_value, sign_value}
use Rattle.eps_quotient.specs.Laws.LimitTerms.{first_below, first_above, limit_terms-reduced, limit_terms-value}
use Rattle.eps_quotient.specs.Laws.LowerLaws.{IsLowered, lower_is, zeros_lowest, others_lowest, either_branch, one_some, one_held, one_is, one_first}
use Rattle.eps_quotient.specs.Laws.LowerLaws.{zero_lowest, zero_quotient_is, gcd_one}
use Rattle.eps_quotient.specs.Laws.Cuts.{one_core}
use Rattle.eps_quotient.specs.Laws.NormLaws.{IsStoredOf, norm_is, upright, lowest_one, negated_none, content-negate, core-negate}
use Rattle.field_core.proofs.Results.{bind_some}

-- ---- tests

either : (s t : Bool) → (s || t) ≡ true → (s ≡ true) ⊎ (t ≡ true)
either true t e = inl refl
either false t e = inr e

-- ---- what is stored

positive_some : (p : List ℤ) → int_sign (lowest p) ≡ Greater → IsNonZero p
unfolding int_sign
positive_some p e z = let f : int_sign (pos 0) ≡ Greater = ap int_sign (sym z) ∙ e in cc

pub some_below : (x : Parts) → IsQuotient x → IsNonZero x.denominator
some_below x s = positive_some x.denominator s.positive

null_value : (x : Parts) → IsQuotient x → is_zero x ≡ true → value_of x ≡ number_zero
unfolding value_of is_zero
null_value x s e = zero_value x.numerator x.denominator (some_below x s) (zeros_lowest x.numerator e)

sign_is : (x : Parts) → IsQuotient x → sign_of x ≡ number_sign (value_of x)
unfolding value_of sign_of
sign_is x s = sym (sign_value x.numerator x.denominator s.positive (some_below x s))

pub some_value : (x : Parts) → IsQuotient x → is_zero x ≡ false → ¬ (value_of x ≡ number_zero)
unfolding is_zero sign_of
some_value x s e z = others_lowest x.numerator e (none (lowest x.numerator) (sign_is x s ∙ ap number_sign z ∙ number_sign_zero))
  where
    none : (c : ℤ) → int_sign c ≡ Equal → c ≡ pos 0
    none c h = int_sign-none c h

-- ---- results

gives : (a b : List ℤ) (v : Number) → IsPolynomial a → IsPolynomial b → IsNonZero b → quotient a b ≡ v → Gives IsQuotient (norm a b) v
gives a b v ka kb hb e =
    let s = norm_is a b ka kb hb in
    record { stored = s.stored; value = sym s.value ∙ e }

gives_same : (x y : Parts) (v : Number) → Path (Option Parts) (Some x) (Some y) → Gives IsQuotient x v → Gives IsQuotient y v
gives_same x y v e g = let f : x ≡ y = cc in subst (λ z. Gives IsQuotient z v) f g

-- what a result that is there gives
GivesSome : Option Parts → Number → Type 0
GivesSome r v = (z : Parts) → r ≡ Some z → Gives IsQuotient z v

some_gives : (x : Parts) (v : Number) → Gives IsQuotient x v → GivesSome (Some x) v
unfolding GivesSome
some_gives x v g z e = gives_same x z v e g

-- ---- products

product_of_is : (n1 d1 n2 d2 : List ℤ) (x y : Parts) → IsNonZero d1 → IsNonZero d2 → IsLowered n1 d2 x → IsLowered n2 d1 y
    → GivesSome (product_of x y) (quotient n1 d1 *ε quotient n2 d2)
unfolding GivesSome product_of
product_of_is n1 d1 n2 d2 x y h1 h2 s t z e =
    let u = bind_some _ _ z e in
    let v = bind_some _ _ z u.2 in
    let top = product_is_exact x.numerator y.numerator u.0 u.1 in
    let low = product_is_exact y.denominator x.denominator v.0 v.1 in
    let some = same_nonzero _ v.0 (same_sym v.0 _ low) (nonzero-multiply y.denominator x.denominator t.some s.some) in
    gives_same _ z _ v.2
    (gives u.0 v.0 _ (product_polynomial _ _ u.0 u.1) (product_polynomial _ _ v.0 v.1) some
    (product_value n1 d1 n2 d2 x.numerator x.denominator y.numerator y.denominator u.0 v.0 h1 h2 s.some t.some s.value t.value top low))

product_value_of : (x y : Parts) → IsQuotient x → IsQuotient y
    → GivesSome (product_of (lower x.numerator y.denominator) (lower y.numerator x.denominator)) (value_of x *ε value_of y)
unfolding value_of
product_value_of x y f g =
    product_of_is x.numerator x.denominator y.numerator y.denominator (lower x.numerator y.denominator)
    (lower y.numerator x.denominator) (some_below x f) (some_below y g)
    (lower_is x.numerator y.denominator f.above g.below (some_below y g)) (lower_is y.numerator x.denominator g.above f.below (some_below x f))

zero_quotient-value : value_of zero_quotient ≡ number_zero
unfolding value_of
zero_quotient-value = zero_value zero_polynomial one_polynomial one_some zero_lowest

one_quotient-value : value_of one_quotient ≡ number_one
unfolding value_of
one_quotient-value = one_value one_polynomial one_some

pub zero_stored : IsQuotient zero_quotient
zero_stored = (upright zero_polynomial one_polynomial zero_quotient
    (zero_quotient_is zero_polynomial one_polynomial one_some zero_lowest) (ap is_negative lowest_one)).stored

pub one_stored : IsQuotient one_quotient
one_stored = record {
  above = one_held;
  below = one_held;
  positive = ap int_sign lowest_one ∙ positive_in (pos 1) (omega (arith, ints));
  zero_over_one = λ e. refl;
  no_power = λ z. one_first z.1;
  no_content = gcd_one (content one_polynomial) (content one_polynomial) one_core.divisor;
  no_core = λ e. one_is.core_of;
}

one_is_one : (x : Parts) → is_one x ≡ true → value_of x ≡ number_one
unfolding is_one value_of
one_is_one x e =
    let b = and_parts (is_same x.numerator one_polynomial) (is_same x.denominator one_polynomial) e in
    ap₂ quotient (same_from x.numerator one_polynomial b.0) (same_from x.denominator one_polynomial b.1) ∙ one_value one_polynomial one_some

zero_product : (x y : Parts) → IsQuotient x → IsQuotient y → (is_zero x || is_zero y) ≡ true → number_zero ≡ value_of x *ε value_of y
zero_product x y f g e = elim (either (is_zero x) (is_zero y) e) [
  | inl h ↦ sym (ap (λ v. v *ε value_of y) (null_value x f h) ∙ number_zero_multiply (value_of y))
  | inr h ↦ sym (ap (λ v. value_of x *ε v) (null_value y g h) ∙ number_multiply_zero (value_of x))
]

product_gives : (x y : Parts) → IsQuotient x → IsQuotient y → GivesSome (written_product x y) (value_of x *ε value_of y)
unfolding written_product
product_gives x y f g =
    let P = λ (r : Option Parts). GivesSome r (value_of x *ε value_of y) in
    either_branch P (is_zero x || is_zero y) _ _
    (λ e. some_gives zero_quotient _ (record { stored = zero_stored; value = zero_quotient-value ∙ zero_product x y f g e }))
    (λ e. either_branch P (is_one x) _ _
    (λ h. some_gives y _ (record { stored = g; value = sym (ap (λ v. v *ε value_of y) (one_is_one x h) ∙ number_one_multiply (value_of y)) }))
    (λ h. either_branch P (is_one y) _ _
    (λ k. some_gives x _ (record { stored = f; value = sym (ap (λ v. value_of x *ε v) (one_is_one y k) ∙ number_multiply_one (value_of x)) }))
    (λ k. product_value_of x y f g)))

-- ---- sums

sum_over_gives : (n m d : List ℤ) (v : Number) → IsPolynomial n → IsPolynomial m → IsPolynomial d → IsNonZero d
    → quotient n d +ε quotient m d ≡ v → GivesSome (sum_over n m d) v
unfolding GivesSome sum_over
sum_over_gives n m d v kn km kd h e z r =
    let u = bind_some _ _ z r in
    gives_same _ z _ u.2
    (gives u.0 d v (sum_polynomial n m u.0 u.1) kd h (sum_over_same n m d u.0 h (sum_is_exact n m u.0 kn.count km.count u.1) ∙ e))

-- the numerator of what equals a quotient that isn't 0
numerator_some : (n d m e : List ℤ) → IsNonZero n → IsNonZero d → IsNonZero e → quotient n d ≡ quotient m e → IsNonZero m
numerator_some n d m e hn hd he same z =
    nonzero-multiply n e hn he (lowest-same _ _ (cross_of_quotients n d m e hd he same) ∙ lowest-multiply m d ∙ ap (λ x. x *ℤ lowest d) z
    ∙ zero-*ℤ (lowest d))

sum_of_gives : (x y e : Parts) → IsQuotient x → IsQuotient y → IsLowered x.denominator y.denominator e
    → GivesSome (sum_of x y e) (value_of x +ε value_of y)
unfolding GivesSome sum_of sum_over value_of
sum_of_gives x y e f g s z r =
    let u = bind_some _ _ z r in
    let v = bind_some _ _ z u.2 in
    let d = bind_some _ _ z v.2 in
    let t = bind_some _ _ z d.2 in
    let su = product_is_exact x.numerator e.denominator u.0 u.1 in
    let sv = product_is_exact y.numerator e.numerator v.0 v.1 in
    let sd = product_is_exact x.denominator e.denominator d.0 d.1 in
    let ku = product_polynomial _ _ u.0 u.1 in
    let kv = product_polynomial _ _ v.0 v.1 in
    let some = same_nonzero _ d.0 (same_sym d.0 _ sd) (nonzero-multiply x.denominator e.denominator (some_below x f) s.some) in
    gives_same _ z _ t.2
    (gives t.0 d.0 _ (sum_polynomial u.0 v.0 t.0 t.1) (product_polynomial _ _ d.0 d.1) some
    (sum_value x.numerator x.denominator y.numerator y.denominator e.numerator e.denominator u.0 v.0 t.0 d.0 (some_below x f) (some_below y g)
    (numerator_some _ _ _ _ (some_below x f) (some_below y g) s.some s.value) s.some s.value su sv (sum_is_exact u.0 v.0 t.0 ku.count kv.count t.1) sd))

over_both : (x y : Parts) → is_same x.denominator y.denominator ≡ true
    → quotient x.numerator x.denominator +ε quotient y.numerator x.denominator ≡ value_of x +ε value_of y
unfolding value_of
over_both x y e = ap (λ d. quotient x.numerator x.denominator +ε quotient y.numerator d) (same_from x.denominator y.denominator e)

sum_gives : (x y : Parts) → IsQuotient x → IsQuotient y → GivesSome (written_sum x y) (value_of x +ε value_of y)
unfolding written_sum
sum_gives x y f g =
    let P = λ (r : Option Parts). GivesSome r (value_of x +ε value_of y) in
    either_branch P (is_zero x) _ _
    (λ e. some_gives y _ (record { stored = g; value = sym (ap (λ v. v +ε value_of y) (null_value x f e) ∙ number_zero_add (value_of y)) }))
    (λ e. either_branch P (is_zero y) _ _
    (λ h. some_gives x _ (record { stored = f; value = sym (ap (λ v. value_of x +ε v) (null_value y g h) ∙ number_add_zero (value_of x)) }))
    (λ h. either_branch P (is_same x.denominator y.denominator) _ _
    (λ k. sum_over_gives x.numerator y.numerator x.denominator _ f.above g.above f.below (some_below x f) (over_both x y k))
    (λ k. sum_of_gives x y _ f g (lower_is x.denominator y.denominator f.below g.below (some_below y g)))))

-- ---- opposites and inverses

pub opposite_stored : (x : Parts) → IsQuotient x → IsQuotient (opposite x)
opposite_stored x s = record {
  above = negate_valid x.numerator s.above;
  below = s.below;
  positive = s.positive;
  zero_over_one = λ z. s.zero_over_one (negated_none _ (sym (lowest-negate x.numerator) ∙ z));
  no_power = λ z. s.no_power (negated_none _ (sym (coefficient-negate x.numerator 0) ∙ z.0), z.1);
  no_content = ap (λ n. gcd n (content x.denominator)) (content-negate x.numerator) ∙ s.no_content;
  no_core = λ z. elim (ℤ_discrete (lowest x.numerator) (pos 0)) [
    | yes e ↦ ap core (s.zero_over_one e) ∙ one_is.core_of
    | no h ↦ s.no_core (sym (core-negate x.numerator s.above.count h) ∙ z)
  ];
}

opposite_value : (x : Parts) → IsQuotient x → value_of (opposite x) ≡ number_negate (value_of x)
unfolding value_of
opposite_value x s = sym (quotient-negate x.numerator x.denominator (some_below x s))

pub inverse_is : (x : Parts) → IsQuotient x → is_zero x ≡ false → IsStoredOf x.denominator x.numerator (inverse x)
unfolding inverse is_zero
inverse_is x s e = norm_is x.denominator x.numerator s.below s.above (others_lowest x.numerator e)

inverse_times : (x : Parts) → IsQuotient x → is_zero x ≡ false → value_of (inverse x) *ε value_of x ≡ number_one
unfolding value_of is_zero
inverse_times x s e =
    ap (λ v. v *ε value_of x) (sym (inverse_is x s e).value) ∙ inverse_value x.numerator x.denominator (others_lowest x.numerator e) (some_below x s)

-- ---- the written operations

gives_value : (r : Option Parts) (v w : Number) → v ≡ w → GivesSome r v → GivesSome r w
gives_value r v w e g = subst (GivesSome r) e g

run : (op : Op) (x y : Parts) → IsQuotient x → IsQuotient y → MayTake op y
    → GivesSome (written_quotient op x y) (exact_result op (value_of x) (value_of y))
run Add x y f g t = sum_gives x y f g
run Sub x y f g t =
    gives_value _ _ _ (ap (λ v. value_of x +ε v) (opposite_value y g)
    ∙ sym (number_subtract_is (value_of x) (value_of y))) (sum_gives x (opposite y) f (opposite_stored y g))
run Mul x y f g t = product_gives x y f g
run Div x y f g t =
    gives_value _ _ _ (divide_value (value_of x) (value_of y) _ (value_of (inverse y)) (some_value y g t) (inverse_times y g t) refl)
    (product_gives x (inverse y) f (inverse_is y g t).stored)

-- ---- comparisons and limits

compared : (r : Option Parts) (x y : Number) → GivesSome r (x -ε y) → IfOk (ok_map sign_of (or_wide Sub r)) (λ o. o ≡ number_compare x y)
unfolding GivesSome number_compare
compared (Some z) x y g = let s = g z refl in sign_is z s.stored ∙ ap number_sign s.value
compared None x y g = tt

pub below_first : (x : Parts) → IsQuotient x → IsUnit (value_of x) → ¬ (coefficient x.denominator 0 ≡ pos 0)
unfolding value_of
below_first x s unit = first_below x.numerator x.denominator (some_below x s) s.positive s.no_power unit

pub first_positive : (x : Parts) → IsQuotient x → IsUnit (value_of x) → pos 0 <ℤ coefficient x.denominator 0
first_positive x s unit = first_above x.denominator s.positive (below_first x s unit)

pub limit_in_lowest_terms : (x : Parts) → IsQuotient x → IsUnit (value_of x) → IsReduced (limit_terms x)
limit_in_lowest_terms x s unit =
    limit_terms-reduced x.numerator x.denominator s.positive (below_first x s unit) (s.above.sizes 0) (s.below.sizes 0)

pub limit_of_terms : (x : Parts) → IsQuotient x → IsUnit (value_of x) → fraction (limit_terms x).num (limit_terms x).den ≡ limit (value_of x)
unfolding value_of
limit_of_terms x s unit = limit_terms-value x.numerator x.denominator (some_below x s) s.positive (below_first x s unit)

pub quotients_are_exact : IsExact quotients IsQuotient
unfolding GivesSome
quotients_are_exact = record {
  zero_stored = zero_stored;
  one_stored = one_stored;
  zero_value = zero_quotient-value;
  one_value = one_quotient-value;
  nonzero = some_value;
  is_null = null_value;
  stored = λ op x y z f g t h. (run op x y f g t z h).stored;
  exact = λ op x y z f g t h. (run op x y f g t z h).value;
  compare = λ x y f g. compared (written_quotient Sub x y) (value_of x) (value_of y) (run Sub x y f g tt);
  sign = sign_is;
  limit_reduced = limit_in_lowest_terms;
  limit_value = limit_of_terms;
}
