-- The plain kind is exact.
use Rattle.std.proofs.Common.{◌≡◌, ◌≢◌, refl, sym, ap, ap₂, subst, ◌∙◌, ℤ, pos, negsuc, zero, suc, neg_ℤ, ◌*ℤ◌, ◌<ℤ◌, []}
use Rattle.std.proofs.Common.{◌∷◌, Option, Some, None, arith}
use Rattle.std.specs.Option.{option_map}
use Rattle.std.proofs.lemmas.Int.{ints}
use Rattle.field_core.specs.declared.place.Op.{Op}
use Rattle.field_core.specs.declared.place.Op.TheVariants.{Add, Sub, Mul, Div}
use Rattle.field_core.specs.Terms.{Terms, IsReduced}
use Rattle.fraction.specs.Written.{opposite, inverse, inverse_of}
use Rattle.fraction.specs.Laws.CrossProducts.{sum_of, product_of}
use Rattle.fraction.specs.Laws.Turned.{opposite_reduced, inverse_reduced}
use Rattle.field_core.specs.Laws.Integers.{integers, int_negate_multiply, int_multiply_negate, int_negate_negate, int_multiply_one}
use Rattle.field_core.specs.Number.{Number}
use Rattle.field_core.specs.Arithmetic.{number_zero, number_one, number_negate, number_sign, ◌+ε◌, ◌*ε◌, ◌/ε◌, number_compare}
use Rattle.field_core.specs.Laws.PolynomialLaws.{nonzero-one, int_sign-scale, positive_in}
use Rattle.field_core.specs.Polynomial.{int_sign}
use Rattle.field_core.specs.Laws.NumberLaws.{number_multiply_assoc, number_multiply_one}
use Rattle.field_core.specs.Laws.Order.{number_subtract_is, divide_unique}
use Rattle.field_core.specs.Fractions.{fraction}
use Rattle.field_core.specs.Laws.FractionLaws.{quotient-pair, fraction-equal, fraction-add, fraction-multiply, fraction-negate, fraction-zero, fraction-sign}
use Rattle.field_core.specs.Laws.FractionLaws.{lowest-constant}
use Rattle.field_core.specs.Laws.Effective.{positive_nonzero, product_positive, fraction-cross, fraction-compare}
use Rattle.field_core.specs.Limit.{limit}
use Rattle.field_core.specs.Laws.LimitLaws.{limit-fraction}
use Rattle.field_core.specs.Kind.{Parts, is_zero, is_zero_integer, sign_of}
use Rattle.field_core.specs.Exact.{IsExact, MayTake, value_of, exact_result}
use Rattle.fraction.specs.Plain.{plain, IsFraction, pair_of, single, zero_reduced, one_reduced}
use Rattle.fraction.specs.Laws.WrittenLaws.{Makes, add_says, mul_says}
use Rattle.fraction.specs.Laws.PlainLimits.{limit_pair}
use Rattle.field_core.proofs.Wholes.{is_zero_true, is_zero_false}

abbrev value : Terms → Number
value p = fraction p.num p.den

some : (p : Terms) → IsReduced p → ¬ (p.den ≡ pos 0)
some p r = positive_nonzero p.den r.positive

some_product : (x y : Terms) → IsReduced x → IsReduced y → ¬ (x.den *ℤ y.den ≡ pos 0)
some_product x y r s = positive_nonzero _ (product_positive x.den y.den r.positive s.positive)

add_value : (x y z : Terms) → IsReduced x → IsReduced y → Makes z (sum_of x y) → value z ≡ value x +ε value y
add_value x y z r s m = fraction-equal z.num z.den _ _ (some z m.reduced) (some_product x y r s) m.same
    ∙ sym (fraction-add x.num x.den y.num y.den (some x r) (some y s))

mul_value : (x y z : Terms) → IsReduced x → IsReduced y → Makes z (product_of x y) → value z ≡ value x *ε value y
mul_value x y z r s m = fraction-equal z.num z.den _ _ (some z m.reduced) (some_product x y r s) m.same
    ∙ sym (fraction-multiply x.num x.den y.num y.den (some x r) (some y s))

opposite_value : (y : Terms) → IsReduced y → value (opposite y) ≡ number_negate (value y)
unfolding opposite
opposite_value y r = sym (fraction-negate y.num y.den (some y r))

one_is : fraction (pos 1) (pos 1) ≡ number_one
unfolding number_one
one_is = quotient-pair (pos 1 ∷ []) (pos 1 ∷ []) nonzero-one

int_comm : (a b : ℤ) → a *ℤ b ≡ b *ℤ a
unfolding integers
int_comm = integers.multiply_comm

crossed : (d s : ℤ) → (d *ℤ s) *ℤ pos 1 ≡ pos 1 *ℤ (s *ℤ d)
crossed d s = int_multiply_one (d *ℤ s) ∙ int_comm d s ∙ sym (int_comm (pos 1) (s *ℤ d) ∙ int_multiply_one (s *ℤ d))

signs : (d s : ℤ) → neg_ℤ d *ℤ neg_ℤ s ≡ d *ℤ s
signs d s = int_negate_multiply d (neg_ℤ s) ∙ ap neg_ℤ (int_multiply_negate d s) ∙ int_negate_negate (d *ℤ s)

one_above : ¬ (pos 1 ≡ pos 0)
one_above e = cc

inverse_times_of : (n d : ℤ) → ¬ (d ≡ pos 0) → pos 0 <ℤ d → n ≢ pos 0 → value (inverse_of n d) *ε fraction n d ≡ number_one
inverse_times_of (pos zero) d s p h = absurd (h refl)
inverse_times_of (pos (suc n)) d s p h =
    let q : ¬ (pos (suc n) ≡ pos 0) = λ e. cc in
    fraction-multiply d (pos (suc n)) (pos (suc n)) d q s
    ∙ fraction-equal _ _ (pos 1) (pos 1) (positive_nonzero _ (product_positive (pos (suc n)) d (omega (arith, ints)) p)) one_above (crossed d (pos (suc n)))
    ∙ one_is
inverse_times_of (negsuc n) d s p h =
    let q : ¬ (pos (suc n) ≡ pos 0) = λ e. cc in
    fraction-multiply (neg_ℤ d) (pos (suc n)) (negsuc n) d q s
    ∙ fraction-equal _ _ (pos 1) (pos 1) (positive_nonzero _ (product_positive (pos (suc n)) d (omega (arith, ints)) p)) one_above
    (ap (λ a. a *ℤ pos 1) (signs d (pos (suc n))) ∙ crossed d (pos (suc n)))
    ∙ one_is

div_value : (x y z : Terms) → IsReduced x → IsReduced y → y.num ≢ pos 0 → ¬ (value y ≡ number_zero) → Makes z (product_of x (inverse y))
    → value z ≡ value x /ε value y
unfolding inverse
div_value x y z r s h n m =
    sym (divide_unique (value x) (value y) (value z) n
    (ap (λ v. v *ε value y) (mul_value x (inverse y) z r (inverse_reduced y s h) m)
    ∙ number_multiply_assoc (value x) (value (inverse y)) (value y)
    ∙ ap (λ v. value x *ε v) (inverse_times_of y.num y.den (some y s) s.positive h)
    ∙ number_multiply_one (value x)))

-- ---- of parts

value_single : (p : Terms) → value_of (single p) ≡ value p
unfolding value_of
value_single p = refl

shown : (x : Parts) → IsFraction x → value_of x ≡ value (pair_of x)
shown x f = ap value_of f.shape ∙ value_single (pair_of x)

zero_integer : (n : ℤ) → is_zero (single (record { num = n; den = pos 1 })) ≡ is_zero_integer n
unfolding is_zero
zero_integer (pos zero) = refl
zero_integer (pos (suc n)) = refl
zero_integer (negsuc n) = refl

zero_first : (x : Parts) → IsFraction x → is_zero x ≡ is_zero_integer (pair_of x).num
unfolding is_zero
zero_first x f = ap is_zero f.shape ∙ zero_integer (pair_of x).num

value_nonzero : (n d : ℤ) → ¬ (d ≡ pos 0) → n ≢ pos 0 → ¬ (fraction n d ≡ number_zero)
value_nonzero n d s h e =
    let c = fraction-cross n d (pos 0) (pos 1) s one_above (e ∙ sym (fraction-zero (pos 1) one_above)) in
    h (sym (int_multiply_one n) ∙ c ∙ zero_times d)
  where
    zero_times : (d : ℤ) → pos 0 *ℤ d ≡ pos 0
    zero_times d = omega (arith, ints)

pub record Mapped (r : Option Terms) (z : Parts) : Type 0 where
  pub pair : Terms
  pub is : r ≡ Some pair
  pub seen : z ≡ single pair

mapped : (r : Option Terms) (z : Parts) → option_map single r ≡ Some z → Mapped r z
mapped (Some p) z h = record { pair = p; is = refl; seen = cc }
mapped None z h = absurd (cc)

stored_of : (z : Parts) (p : Terms) → z ≡ single p → IsReduced p → IsFraction z
stored_of z p e r = record { reduced = rw e r; shape = rw e refl }

value_from : (z : Parts) (p : Terms) → z ≡ single p → value_of z ≡ value p
value_from z p e = ap value_of e ∙ value_single p

-- A stored result of this value.
pub record Result_is (z : Parts) (v : Number) : Type 0 where
  pub stored : IsFraction z
  pub value : value_of z ≡ v

made : (z : Parts) (p : Terms) (v : Number) → z ≡ single p → IsReduced p → value p ≡ v → Result_is z v
made z p v e r h = record { stored = stored_of z p e r; value = value_from z p e ∙ h }

run : (op : Op) (x y z : Parts) → IsFraction x → IsFraction y → MayTake op y → plain.written op x y ≡ Some z
    → Result_is z (exact_result op (value_of x) (value_of y))
run Add x y z f g t h =
    let m = mapped _ z h in
    let s = add_says _ _ m.pair f.reduced g.reduced m.is in
    made z m.pair _ m.seen s.reduced (add_value _ _ m.pair f.reduced g.reduced s ∙ ap₂ ◌+ε◌ (sym (shown x f)) (sym (shown y g)))
run Sub x y z f g t h =
    let m = mapped _ z h in
    let o = opposite_reduced _ g.reduced in
    let s = add_says _ _ m.pair f.reduced o m.is in
    made z m.pair _ m.seen s.reduced (add_value _ _ m.pair f.reduced o s
    ∙ ap₂ ◌+ε◌ (sym (shown x f)) (opposite_value _ g.reduced ∙ ap number_negate (sym (shown y g))) ∙ sym (number_subtract_is _ _))
run Mul x y z f g t h =
    let m = mapped _ z h in
    let s = mul_says _ _ m.pair f.reduced g.reduced m.is in
    made z m.pair _ m.seen s.reduced (mul_value _ _ m.pair f.reduced g.reduced s ∙ ap₂ ◌*ε◌ (sym (shown x f)) (sym (shown y g)))
run Div x y z f g t h =
    let m = mapped _ z h in
    let n = is_zero_false _ (sym (zero_first y g) ∙ t) in
    let i = inverse_reduced _ g.reduced n in
    let s = mul_says _ _ m.pair f.reduced i m.is in
    made z m.pair _ m.seen s.reduced (div_value _ _ m.pair f.reduced g.reduced n (value_nonzero _ _ (some _ g.reduced) n) s
    ∙ ap₂ ◌/ε◌ (sym (shown x f)) (sym (shown y g)))

sign_first : (x : Parts) → IsFraction x → sign_of x ≡ int_sign (pair_of x).num
unfolding sign_of
sign_first x f = ap sign_of f.shape ∙ ap int_sign (lowest-constant (pair_of x).num)

sign_is : (x : Parts) → IsFraction x → sign_of x ≡ number_sign (value_of x)
sign_is x f = sign_first x f ∙ sym (ap number_sign (shown x f) ∙ fraction-sign _ _ (some _ f.reduced)
    ∙ int_sign-scale (pair_of x).num (pair_of x).den (positive_in (pair_of x).den f.reduced.positive))

pub plain_is_exact : IsExact plain IsFraction
plain_is_exact = record {
  zero_stored = record { reduced = zero_reduced; shape = refl };
  one_stored = record { reduced = one_reduced; shape = refl };
  zero_value = value_single _ ∙ fraction-zero (pos 1) one_above;
  one_value = value_single _ ∙ one_is;
  nonzero = λ x f h e. value_nonzero _ _ (some _ f.reduced) (is_zero_false _ (sym (zero_first x f) ∙ h)) (sym (shown x f) ∙ e);
  is_null = λ x f h. shown x f ∙ ap (λ n. fraction n (pair_of x).den) (is_zero_true _ (sym (zero_first x f) ∙ h)) ∙ fraction-zero _ (some _ f.reduced);
  stored = λ op x y z f g t h. (run op x y z f g t h).stored;
  exact = λ op x y z f g t h. (run op x y z f g t h).value;
  compare = λ x y f g. sym (ap₂ number_compare (shown x f) (shown y g) ∙ fraction-compare _ _ _ _ f.reduced.positive g.reduced.positive);
  sign = λ x f. sign_is x f;
  limit_reduced = λ x f _. subst IsReduced (sym (limit_pair x f)) f.reduced;
  limit_value = λ x f _. ap value (limit_pair x f) ∙ sym (limit-fraction _ _ (some _ f.reduced)) ∙ ap limit (sym (shown x f));
}
