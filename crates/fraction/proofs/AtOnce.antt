-- Written operations with 0, which need no step.
use Rattle.std.proofs.Common.{◌≡◌, ℕ, ◌/◌, ◌<◌, ◌^◌, ℤ, pos, negsuc, ◌+ℤ◌, ◌*ℤ◌, ◌<ℤ◌, unsigned_abs, int_div}
use Rattle.std.proofs.Common.{Some, refl, sym, ◌∙◌, ap, arith, lit<}
use Rattle.std.proofs.lemmas.Int.{ints}
use Rattle.std.proofs.Math.IntN.{*ℤ_comm}
use Rattle.std.proofs.Math.Nat.{zero-div, div_self}
use Rattle.field_core.specs.Divisor.{gcd}
use Rattle.field_core.specs.Terms.{Terms, IsReduced}
use Rattle.fraction.specs.declared.short.ShortRatio.{ShortRatio}
use Rattle.fraction.specs.Short.{short_terms}
use Rattle.field_core.specs.Sized.{gcd_of}
use Rattle.field_core.proofs.Sized.{sized_small}
use Rattle.field_core.proofs.Stein.{gcd_of_zero}
use Rattle.fraction.specs.Written.{written_mul, written_add}
use Rattle.field_core.proofs.Wholes.{over_one}
use Rattle.field_core.proofs.Coprime.{gcd_one, one_gcd}
use lib.IntN.{zero-*ℤ}

-- 0 in lowest terms is over 1
pub den_of_zero : (x : Terms) → IsReduced x → x.num ≡ pos 0 → x.den ≡ pos 1
den_of_zero x r e =
    let one : unsigned_abs x.den ≡ 1 = gcd_of_zero (unsigned_abs x.num) (unsigned_abs x.den) (ap unsigned_abs e) ∙ r.reduced in
    let some : pos 0 <ℤ x.den = r.positive in
    omega (arith, ints)

zero_over : (k : ℕ) (z : ℤ) → int_div (pos 0) (pos k) *ℤ z ≡ pos 0
zero_over k z = ap (λ n. pos n *ℤ z) (zero-div k) ∙ (omega (arith, ints))

one_over : (z : ℤ) → pos 0 <ℤ z → int_div z (gcd_of (pos 0) z) ≡ pos 1
one_over (pos n) some = let up : 0 < n = omega (arith, ints) in ap (λ g. pos (n / g)) (sym (gcd_of_zero 0 n refl)) ∙ ap pos (div_self up)
one_over (negsuc n) some = absurd (omega (arith, ints))

written_mul_comm : (x y : Terms) → written_mul x y ≡ written_mul y x
unfolding written_mul
written_mul_comm x y =
    rw (
      *ℤ_comm (int_div x.num (gcd_of x.num y.den)) (int_div y.num (gcd_of y.num x.den)),
      *ℤ_comm (int_div x.den (gcd_of y.num x.den)) (int_div y.den (gcd_of x.num y.den)),
    ) refl

mul_is : (x y z : Terms) → int_div x.num (gcd_of x.num y.den) *ℤ int_div y.num (gcd_of y.num x.den) ≡ z.num
    → int_div x.den (gcd_of y.num x.den) *ℤ int_div y.den (gcd_of x.num y.den) ≡ z.den → IsReduced z → written_mul x y ≡ Some z
unfolding written_mul
mul_is x y z e f r = rw (e, sized_small z.num r.num_size, f, sized_small z.den r.den_size) refl

zero_times_terms : (x y : Terms) → IsReduced x → IsReduced y → x.num ≡ pos 0 → Some x ≡ written_mul x y
zero_times_terms x y r s e =
    let d = den_of_zero x r e in
    let first : int_div x.den (gcd_of y.num x.den) ≡ pos 1 = rw (d, gcd_one (unsigned_abs y.num)) refl in
    let second : int_div y.den (gcd_of x.num y.den) ≡ pos 1 = rw e (one_over y.den s.positive) in
    sym (mul_is x y x (rw e (zero_over (gcd 0 (unsigned_abs y.den)) (int_div y.num (gcd_of y.num x.den)))) (rw (first, second) (sym d)) r)

times_zero_terms : (x y : Terms) → IsReduced x → IsReduced y → y.num ≡ pos 0 → Some y ≡ written_mul x y
times_zero_terms x y r s e = zero_times_terms y x s r e ∙ written_mul_comm y x

add_is : (x y z : Terms) (u v : ℤ) → gcd (unsigned_abs x.den) (unsigned_abs y.den) ≡ 1 → x.num *ℤ int_div y.den (pos 1) ≡ u
    → y.num *ℤ int_div x.den (pos 1) ≡ v → unsigned_abs u < 2 ^ 127 → unsigned_abs v < 2 ^ 127 → u +ℤ v ≡ z.num
    → int_div x.den (pos 1) *ℤ int_div y.den (pos 1) ≡ z.den → IsReduced z → written_add x y ≡ Some z
unfolding written_add
add_is x y z u v g e f small low t d r =
    rw (
      g,
      e,
      sized_small u small,
      f,
      sized_small v low,
      t,
      sized_small z.num r.num_size,
      gcd_one (unsigned_abs z.num),
      d,
      sized_small z.den r.den_size,
      over_one z.num,
    ) refl

zero_plus_terms : (x y : Terms) → IsReduced x → IsReduced y → x.num ≡ pos 0 → Some y ≡ written_add x y
zero_plus_terms x y r s e =
    let d = den_of_zero x r e in
    sym (add_is x y y (pos 0) y.num (rw (d, one_gcd (unsigned_abs y.den)) refl) (rw e (zero-*ℤ (int_div y.den (pos 1)))) (rw d (omega (arith, ints)))
    (lit< tt) s.num_size (omega (arith, ints)) (rw d (omega (arith, ints))) s)

plus_zero_terms : (x y : Terms) → IsReduced x → IsReduced y → y.num ≡ pos 0 → Some x ≡ written_add x y
plus_zero_terms x y r s e =
    let d = den_of_zero y s e in
    sym (add_is x y x x.num (pos 0) (rw (d, gcd_one (unsigned_abs x.den)) refl) (rw d (omega (arith, ints)))
    (rw e (zero-*ℤ (int_div x.den (pos 1)))) r.num_size (lit< tt) (omega (arith, ints)) (rw d (omega (arith, ints))) r)

pub zero_times : (x y : ShortRatio) → x.num ≡ pos 0 → Some (short_terms x) ≡ written_mul (short_terms x) (short_terms y)
zero_times x y e = zero_times_terms (short_terms x) (short_terms y) x.valid y.valid e

pub times_zero : (x y : ShortRatio) → y.num ≡ pos 0 → Some (short_terms y) ≡ written_mul (short_terms x) (short_terms y)
times_zero x y e = times_zero_terms (short_terms x) (short_terms y) x.valid y.valid e

pub zero_plus : (x y : ShortRatio) → x.num ≡ pos 0 → Some (short_terms y) ≡ written_add (short_terms x) (short_terms y)
zero_plus x y e = zero_plus_terms (short_terms x) (short_terms y) x.valid y.valid e

pub plus_zero : (x y : ShortRatio) → y.num ≡ pos 0 → Some (short_terms x) ≡ written_add (short_terms x) (short_terms y)
plus_zero x y e = plus_zero_terms (short_terms x) (short_terms y) x.valid y.valid e

-- products with 0
pub ruleset zero_products = (zero_times, times_zero)
