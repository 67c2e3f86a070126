use Rattle.std.proofs.Common.{◌≡◌, refl, sym, ap, ap₂, subst, subst₂, ◌∙◌, ℕ, zero, suc, ◌*◌, ◌/◌, ◌^◌, ◌<◌, ◌≤◌, inl}
use Rattle.std.proofs.Common.{inr, ℤ, pos, negsuc, neg_ℤ, ◌*ℤ◌, ◌≤ℤ◌, unsigned_abs, int_div, Some, None, true, false, not, arith, lit<}
use Rattle.std.proofs.Common.{nat_le, ◌&&◌}
use Rattle.std.proofs.lemmas.Int.{ints}
use Rattle.std.proofs.lemmas.Bool.Decides.{nat_tests}
use Rattle.std.specs.Ordering.{is_le, int_cmp}
use Rattle.field_core.specs.Terms.{Terms}
use Rattle.field_core.specs.View.{terms}
use Rattle.field_core.specs.declared.ratio.Ratio.{Ratio}
use Rattle.field_core.specs.Sized.{sized}
use Rattle.field_core.specs.Divisor.{gcd}
use Rattle.field_core.specs.Number.{Number}
use Rattle.field_core.specs.Arithmetic.{number_zero, number_one, number_sign, number_compare, ◌*ε◌, ◌/ε◌}
use Rattle.field_core.specs.NumberField.{number_field}
use Rattle.field_core.specs.Field.{AtMost}
use Rattle.field_core.specs.Kind.{is_zero}
use Rattle.field_core.specs.Laws.Order.{divide_multiply, subtract_zero}
use Rattle.field_core.proofs.Orders.{mul_le_right, mul_le_cancel}
use Rattle.field_core.proofs.Live.{true_or_false}
use Rattle.std.specs.declared.cmp.Ordering.{Ordering}
use Rattle.std.specs.declared.cmp.Ordering.TheVariants.{Less, Equal, Greater}
use Rattle.field_core.specs.declared.place.Op.TheVariants.{Div}
use Rattle.field_core.proofs.Sized.{sized_small}
use Rattle.fraction.specs.Written.{written_mul, inverse, inverse_of}
use Rattle.fraction.specs.Plain.{plain, single, fraction_parts, fraction_stored}
use Rattle.fraction.specs.Laws.PlainLaws.{plain_is_exact}
use Rattle.fraction.specs.Tests.{is_within}
use Rattle.fraction.specs.View.{number_of}
use Rattle.case_model.specs.Sums.{zero_ratio, one_ratio}
use Rattle.case_model.specs.Draft.{at_most, is_p_value, is_level, is_unit}
use Rattle.case_model.specs.ClosedTest.{Passes}
use Rattle.case_model.proofs.Comparisons.{le_is, at_most_is, zero_is, one_is}
use Rattle.field_core.specs.Laws.NumberFieldLaws.{field_zero, field_product}
use Rattle.case_model.proofs.Holding.{both}
use Rattle.case_model.proofs.NoFaults.{nothing_mapped, not_true}
use Rattle.case_model.proofs.ExactSums.{value_single}
use Rattle.fraction.proofs.ShortTerms.{abs_quotients}

int_le : (a b : ℤ) → is_le (int_cmp a b) ≡ true → a ≤ℤ b
int_le a b h = grind (arith, nat_tests, ints)

-- the numerator of a number from 0 to 1 is at most the denominator
pub unit_parts : (x : Ratio) → is_unit (number_of x) ≡ true → unsigned_abs x.num ≤ unsigned_abs x.den
unit_parts x h =
    let b = both (at_most number_zero (number_of x)) (at_most (number_of x) number_one) h in
    let low : (pos 0 *ℤ x.den) ≤ℤ (x.num *ℤ pos 1) = int_le _ _
    (le_is zero_ratio x ∙ ap (λ z. at_most z (number_of x)) (zero_is zero_ratio refl) ∙ b.left) in
    let high : (x.num *ℤ pos 1) ≤ℤ (pos 1 *ℤ x.den) =
    int_le _ _ (le_is x one_ratio ∙ ap (at_most (number_of x)) (one_is one_ratio refl) ∙ b.right) in
    let some = x.valid.positive in
    omega (arith, ints)

fits : (u v : ℤ) (g h a b : ℕ) → unsigned_abs u ≤ a → unsigned_abs v ≤ b → a * b < 2 ^ 127
    → sized (int_div u (pos g) *ℤ int_div v (pos h)) ≡ Some (int_div u (pos g) *ℤ int_div v (pos h))
fits u v g h a b p q small =
    let size = abs_quotients u v g h a b p q in
    sized_small _ (omega arith)

-- what is known of a number with small parts
pub record IsShort (t : Terms) (limit : ℕ) : Type 0 where
  pub num : unsigned_abs t.num ≤ limit
  pub den : unsigned_abs t.den ≤ limit

pub short_within : (t : Terms) (limit : ℕ) → is_within limit t ≡ true → IsShort t limit
short_within t limit h = let b = both (nat_le (unsigned_abs t.num) limit) (nat_le (unsigned_abs t.den) limit) h in
    record { num = grind (arith, nat_tests, b.left); den = grind (arith, nat_tests, b.right) }

pub within_short : (t : Terms) (limit : ℕ) → IsShort t limit → is_within limit t ≡ true
within_short t limit s =
    let a : nat_le (unsigned_abs t.num) limit ≡ true = (let q = s.num in grind (arith, nat_tests)) in
    let b : nat_le (unsigned_abs t.den) limit ≡ true = (let q = s.den in grind (arith, nat_tests)) in
    ap (λ x. x && nat_le (unsigned_abs t.den) limit) a ∙ b

-- the parts of a product of small parts
pub product_short : (x y z : Terms) (a b : ℕ) → IsShort x a → IsShort y b → a * b < 2 ^ 127 → written_mul x y ≡ Some z → IsShort z (a * b)
unfolding written_mul
product_short x y z a b p q small h =
    let g = gcd (unsigned_abs x.num) (unsigned_abs y.den) in
    let k = gcd (unsigned_abs y.num) (unsigned_abs x.den) in
    let top = fits x.num y.num g k a b p.num q.num small in
    let low = fits x.den y.den k g a b p.den q.den small in
    let same = rw (top, low) at h in
    let e : record { num = int_div x.num (pos g) *ℤ int_div y.num (pos k); den = int_div x.den (pos k) *ℤ int_div y.den (pos g) } ≡ z = cc in
    subst (λ t. IsShort t (a * b)) e (record { num = abs_quotients x.num y.num g k a b p.num q.num; den = abs_quotients x.den y.den k g a b p.den q.den })

-- a product of small parts is never too wide
pub product_fits : (x y : Terms) (a b : ℕ) → unsigned_abs x.num ≤ a → unsigned_abs x.den ≤ a → unsigned_abs y.num ≤ b → unsigned_abs y.den ≤ b
    → a * b < 2 ^ 127 → written_mul x y ≡ None → ⊥
unfolding written_mul
product_fits x y a b xn xd yn yd small h =
    let top = fits x.num y.num (gcd (unsigned_abs x.num) (unsigned_abs y.den)) (gcd (unsigned_abs y.num) (unsigned_abs x.den)) a b xn yn small in
    let low = fits x.den y.den (gcd (unsigned_abs y.num) (unsigned_abs x.den)) (gcd (unsigned_abs x.num) (unsigned_abs y.den)) a b xd yd small in
    let e' = rw (top, low) at h in
    cc

pub inverse_size : (n d : ℤ) (b : ℕ) → unsigned_abs n ≤ b → unsigned_abs d ≤ b → (unsigned_abs (inverse_of n d).num ≤ b)
    × (unsigned_abs (inverse_of n d).den ≤ b)
inverse_size (pos n) d b h k = (k, h)
inverse_size (negsuc n) d b h k = (same d k, h)
  where
    same : (d : ℤ) → unsigned_abs d ≤ b → unsigned_abs (neg_ℤ d) ≤ b
    same (pos zero) k = k
    same (pos (suc n)) k = k
    same (negsuc n) k = k

-- what is known of a p-value and a level
pub p_short : (x : Ratio) → is_p_value x ≡ true → IsShort (terms x) (10 ^ 30)
unfolding is_p_value
p_short x h =
    let b = both (nat_le (unsigned_abs x.den) (10 ^ 30)) (is_unit (number_of x)) h in
    let den : unsigned_abs x.den ≤ 10 ^ 30 = grind (arith, nat_tests, b.left) in
    let num = unit_parts x b.right in
    record { num = omega arith; den = den }

pub record IsLevel (x : Ratio) : Type 0 where
  pub short : IsShort (terms x) 10000
  positive : at_most (number_of x) number_zero ≡ false
  high : at_most (number_of x) number_one ≡ true

pub level_of : (x : Ratio) → is_level x ≡ true → IsLevel x
unfolding is_level
level_of x h =
    let a = both (is_within 10000 (terms x)) (not (at_most (number_of x) number_zero) && at_most (number_of x) number_one) h in
    let b = both (not (at_most (number_of x) number_zero)) (at_most (number_of x) number_one) a.right in
    let c = both (nat_le (unsigned_abs x.num) 10000) (nat_le (unsigned_abs x.den) 10000) a.left in
    record { short = record { num = grind (arith, nat_tests, c.left); den = grind (arith, nat_tests, c.right) }; positive = not_true _ b.left; high = b.right }

nothing_below : at_most number_zero number_zero ≡ true
nothing_below = number_field.le_refl number_zero

-- a level isn't zero
level_nonzero : (a : Ratio) → is_level a ≡ true → ¬ (number_of a ≡ number_zero)
level_nonzero a k e =
    let p = (level_of a k).positive in
    let q : true ≡ false = sym nothing_below ∙ ap (λ z. at_most z number_zero) (sym e) ∙ p in
    cc

pub stored_nonzero : (a : Ratio) → ¬ (number_of a ≡ number_zero) → is_zero (fraction_parts a) ≡ false
stored_nonzero a some = elim (true_or_false (is_zero (fraction_parts a))) [
  | inl z ↦ absurd (some (sym (value_single (terms a)) ∙ plain_is_exact.is_null (fraction_parts a) (fraction_stored a) z))
  | inr n ↦ n
]

pub level_stored_nonzero : (a : Ratio) → is_level a ≡ true → is_zero (fraction_parts a) ≡ false
level_stored_nonzero a k = stored_nonzero a (level_nonzero a k)

-- a p-value over a number with small parts always fits
pub quotient_fits : (p a : Ratio) (limit : ℕ) → is_p_value p ≡ true → IsShort (terms a) limit → 10 ^ 30 * limit < 2 ^ 127
    → plain.written Div (fraction_parts p) (fraction_parts a) ≡ None → ⊥
unfolding inverse
quotient_fits p a limit h l small w =
    let s = p_short p h in
    let i = inverse_size a.num a.den limit l.num l.den in
    product_fits (terms p) (inverse (terms a)) (10 ^ 30) limit s.num s.den i.0 i.1 small (nothing_mapped single _ w)

pub threshold_fits : (p a : Ratio) → is_p_value p ≡ true → is_level a ≡ true → plain.written Div (fraction_parts p) (fraction_parts a) ≡ None
    → ⊥
threshold_fits p a h k w = quotient_fits p a 10000 h (level_of a k).short (lit< tt) w

-- the threshold times the level is the p-value
pub quotient_times : (p a t : Ratio) → ¬ (number_of a ≡ number_zero)
    → plain.written Div (fraction_parts p) (fraction_parts a) ≡ Some (fraction_parts t) → number_of t *ε number_of a ≡ number_of p
quotient_times p a t some e =
    let quotient = plain_is_exact.exact Div (fraction_parts p) (fraction_parts a) (fraction_parts t) (fraction_stored p) (fraction_stored a)
    (stored_nonzero a some) e in
    ap (λ z. z *ε number_of a) (sym (value_single (terms t)) ∙ quotient ∙ ap₂ ◌/ε◌ (value_single (terms p)) (value_single (terms a)))
    ∙ divide_multiply (number_of p) (number_of a) some

pub threshold_times : (p a t : Ratio) → is_level a ≡ true → plain.written Div (fraction_parts p) (fraction_parts a) ≡ Some (fraction_parts t)
    → number_of t *ε number_of a ≡ number_of p
threshold_times p a t k e = quotient_times p a t (level_nonzero a k) e

level_nonneg : (a : Ratio) → is_level a ≡ true → AtMost number_field number_field.𝟘 (number_of a)
level_nonneg a k = elim (number_field.le_total number_field.𝟘 (number_of a)) [
  | inl h ↦ h
  | inr h ↦ absurd (let e : true ≡ false = sym h ∙ ap (at_most (number_of a)) field_zero ∙ (level_of a k).positive in cc)
]

-- a threshold is at most a weight exactly where the p-value is at most weight times level
pub below_threshold : (p a t w : Number) → t *ε a ≡ p → AtMost number_field number_field.𝟘 a → at_most t w ≡ true → at_most p (w *ε a) ≡ true
below_threshold p a t w e n h = subst₂ (λ x y. at_most x y ≡ true) (field_product t a ∙ e) (field_product w a) (mul_le_right number_field t w a n h)

pub above_threshold : (p a t w : Number) → t *ε a ≡ p → AtMost number_field number_field.𝟘 a → ¬ (a ≡ number_field.𝟘)
    → at_most p (w *ε a) ≡ true → at_most t w ≡ true
above_threshold p a t w e n some h =
    let turned : (x : Number) → number_field.◌⊗◌ a x ≡ x *ε a = λ x. number_field.mul_comm a x ∙ field_product x a in
    mul_le_cancel number_field a t w n some (subst₂ (λ x y. at_most x y ≡ true) (sym (turned t ∙ e)) (sym (turned w)) h)

pub record IsGoodLevel (a : Ratio) : Type 0 where
  pub nonneg : AtMost number_field number_field.𝟘 (number_of a)
  pub nonzero : ¬ (number_of a ≡ number_field.𝟘)

pub good_level : (a : Ratio) → is_level a ≡ true → IsGoodLevel a
good_level a k = record { nonneg = level_nonneg a k; nonzero = λ e. level_nonzero a k (e ∙ field_zero) }

-- a weight is above 0 where it isn't at most 0
positive_is : (x : Number) → at_most x number_zero ≡ is_le (number_sign x)
unfolding number_compare
positive_is x = at_most_is x number_zero ∙ ap (λ z. is_le (number_sign z)) (subtract_zero x)

positive_in : (o : Ordering) → not (is_le o) ≡ true → o ≡ Greater
positive_in Less h = absurd (cc)
positive_in Equal h = absurd (cc)
positive_in Greater h = refl

positive_out : (o : Ordering) → o ≡ Greater → not (is_le o) ≡ true
positive_out Less h = absurd (cc)
positive_out Equal h = absurd (cc)
positive_out Greater h = refl

-- a p-value passes at a weight above 0 exactly where the threshold is at most the weight
pub passes_is : (p a t w : Ratio) → is_level a ≡ true → number_of t *ε number_of a ≡ number_of p → not (at_most (number_of w) number_zero) ≡ true
    → (at_most (number_of t) (number_of w) ≡ true → Passes (number_of p) (number_of w) (number_of a))
    × (Passes (number_of p) (number_of w) (number_of a) → at_most (number_of t) (number_of w) ≡ true)
passes_is p a t w k times some =
    let level = good_level a k in (
      λ h. record {
        positive = positive_in _ (ap not (sym (positive_is (number_of w))) ∙ some);
        small = below_threshold (number_of p) (number_of a) (number_of t) (number_of w) times level.nonneg h;
      },
      λ h. above_threshold (number_of p) (number_of a) (number_of t) (number_of w) times level.nonneg level.nonzero h.small,
    )

-- and at no other weight
pub not_passes : (p w a : Number) → not (at_most w number_zero) ≡ false → ¬ Passes p w a
not_passes p w a none h = let e : true ≡ false = sym (positive_out _ h.positive) ∙ ap not (sym (positive_is w)) ∙ none in cc
