-- What reading a text gives.
use Rattle.std.proofs.Common.{◌≡◌, ℕ, ◌*◌, ◌/◌, ◌<◌, ◌++◌, Bool, true, false, List, length, ℤ, pos, negsuc, ◌*ℤ◌, ◌-ℤ◌}
use Rattle.std.proofs.Common.{◌^◌, suc, Option, None, Result, Ok, Err, refl, sym, ap, subst, ◌∙◌, arith}
use Rattle.std.specs.Str.Parse.{starts_with_minus, without_leading_sign, digits_value}
use Rattle.std.proofs.Math.Nat.{div-mul_cancel, eq_of_mul-eq-mul_right}
use Rattle.field_core.specs.Divisor.{gcd}
use Rattle.field_core.specs.Terms.{Terms}
use Rattle.field_core.specs.View.{terms}
use Rattle.field_core.specs.declared.ratio.Ratio.{Ratio}
use Rattle.field_core.proofs.Divisors.{gcd_is}
use Rattle.field_core.proofs.Coprime.{gcd_bounds}
use Rattle.field_core.proofs.Wholes.{neg_times}
use Rattle.numerals.specs.declared.fault.NumberFault.{NumberFault}
use Rattle.numerals.specs.declared.fault.NumberFault.TheVariants.{Empty, BadByte, ZeroDenominator, TooManyDigits}
use Rattle.numerals.specs.declared.size.Size.{Size}
use Rattle.numerals.specs.Numeral.{is_minus, with_sign, Body, Plain, Pointed, Pair, exponent_of, over_power, value_of, IsNumeral, IsNumeralOf, IsParseFault}
use Rattle.numerals.specs.Numeral.{Same}
use Rattle.numerals.specs.Checking.{IsChecked}
use Rattle.numerals.specs.Sizes.{quotient_of, IsBodySize, GivesBody}
use Rattle.numerals.specs.Lowest.{lowest_of}
use Rattle.numerals.proofs.SignedTexts.{numeral_split}

-- ---- the sign of a value

-- the value of a body without a sign, and with one
pub record IsSigned (negative : Bool) (bare whole : Terms) : Type 0 where
  top : ℕ
  low : ℕ
  bare_is : bare ≡ record { num = pos top; den = pos low }
  whole_is : whole ≡ record { num = with_sign negative top; den = pos low }

times_sign : (negative : Bool) (n m : ℕ) → with_sign negative n *ℤ pos m ≡ with_sign negative (n * m)
times_sign true n m = neg_times n m
times_sign false n m = refl

power_signed : (negative : Bool) (n : ℕ) (s : ℤ) → IsSigned negative (over_power (pos n) s) (over_power (with_sign negative n) s)
power_signed negative n (pos s) = record { top = n; low = 10 ^ s; bare_is = refl; whole_is = refl }
power_signed negative n (negsuc s) =
    record { top = n * 10 ^ suc s; low = 1; bare_is = refl; whole_is = ap (λ z. record { num = z; den = pos 1 }) (times_sign negative n (10 ^ suc s)) }

pub value_signed : (sign : Option ℕ) (body : Body) → IsSigned (is_minus sign) (value_of None body) (value_of sign body)
unfolding value_of
value_signed sign (Plain whole e) = power_signed (is_minus sign) (digits_value 10 whole) (pos 0 -ℤ exponent_of e)
value_signed sign (Pointed whole fraction e) = power_signed (is_minus sign) (digits_value 10 (whole ++ fraction)) (pos (length fraction) -ℤ exponent_of e)
value_signed sign (Pair over under) = record { top = digits_value 10 over; low = digits_value 10 under; bare_is = refl; whole_is = refl }

-- ---- a value in lowest terms

divided_cross : (n d a b p q g : ℕ) → 0 < g → p * g ≡ n → q * g ≡ d → n * b ≡ a * d → p * b ≡ a * q
divided_cross n d a b p q g some e f h =
    let both : (p * b) * g ≡ (a * q) * g = omega (arith, ap (λ x. x * b) e, ap (λ x. a * x) f) in
    eq_of_mul-eq-mul_right g some _ _ both

lowest_same : (negative : Bool) (x : Size) (a b : ℕ) → x.num * b ≡ a * x.den
    → Same (lowest_of negative x.num x.den) (record { num = with_sign negative a; den = pos b })
unfolding lowest_of
lowest_same negative x a b h =
    let e : x.num / gcd x.num x.den * gcd x.num x.den ≡ x.num = div-mul_cancel (gcd x.num x.den) (gcd_is x.num x.den).0 in
    let f : x.den / gcd x.num x.den * gcd x.num x.den ≡ x.den = div-mul_cancel (gcd x.num x.den) (gcd_is x.num x.den).1 in
    let cross = divided_cross x.num x.den a b (x.num / gcd x.num x.den) (x.den / gcd x.num x.den) (gcd x.num x.den) (gcd_bounds x.num x.den x.some).0 e f h in
    times_sign negative (x.num / gcd x.num x.den) b ∙ ap (with_sign negative) cross ∙ sym (times_sign negative a (x.den / gcd x.num x.den))

same_sizes : (x : Size) (v : Terms) (a b : ℕ) → v ≡ record { num = pos a; den = pos b } → Same (quotient_of x) v → x.num * b ≡ a * x.den
same_sizes x v a b e h = let f : pos (x.num * b) ≡ pos (a * x.den) = subst (λ w. Same (quotient_of x) w) e h in cc

pub signed_lowest : (negative : Bool) (x : Size) (bare whole : Terms) → IsSigned negative bare whole → Same (quotient_of x) bare
    → Same (lowest_of negative x.num x.den) whole
signed_lowest negative x bare whole s h = subst (λ w. Same (lowest_of negative x.num x.den) w) (sym s.whole_is)
    (lowest_same negative x s.top s.low (same_sizes x bare s.top s.low s.bare_is h))

-- ---- a text

pub checked_fault : (text : List ℕ) (f : NumberFault) → IsChecked text (Err f) → IsParseFault text f
unfolding IsChecked IsParseFault
checked_fault text Empty h = h
checked_fault text (BadByte n) h = h
checked_fault text ZeroDenominator h = absurd h
checked_fault text TooManyDigits h = absurd h

given : (text body : List ℕ) (r : Result Size NumberFault) (n : IsNumeral text) → body ≡ without_leading_sign text → GivesBody body r
    → IsBodySize n.body r
unfolding GivesBody
given text body r n e g = g n.body n.is_body (e ∙ (numeral_split text n).behind)

pub size_fault : (text : List ℕ) (n : IsNumeral text) (f : NumberFault) → IsBodySize n.body (Err f) → IsParseFault text f
unfolding IsBodySize IsParseFault
size_fault text n ZeroDenominator h = (n, h)
size_fault text n TooManyDigits h = (n, h)
size_fault text n Empty h = absurd h
size_fault text n (BadByte m) h = absurd h

pub body_fault : (text body : List ℕ) (f : NumberFault) → IsChecked text (Ok tt) → body ≡ without_leading_sign text → GivesBody body (Err f)
    → IsParseFault text f
unfolding IsChecked
body_fault text body f n e g = size_fault text n f (given text body (Err f) n e g)

size_ok : (text : List ℕ) (n : IsNumeral text) (negative : Bool) (x : Size) (r : Ratio) → negative ≡ is_minus n.sign → IsBodySize n.body (Ok x)
    → terms r ≡ lowest_of negative x.num x.den → IsNumeralOf text (terms r)
unfolding IsBodySize
size_ok text n negative x r m h e =
    let same : Same (lowest_of (is_minus n.sign) x.num x.den) (value_of n.sign n.body) =
    signed_lowest (is_minus n.sign) x _ _ (value_signed n.sign n.body) h.1.1 in
    record {
      numeral = n;
      defined = h.0;
      within = h.1.0;
      lowest = r.valid;
      same = subst (λ t. Same t (value_of n.sign n.body)) (sym (e ∙ ap (λ b. lowest_of b x.num x.den) m)) same;
    }

pub body_ok : (text body : List ℕ) (negative : Bool) (x : Size) (r : Ratio) → IsChecked text (Ok tt) → negative ≡ starts_with_minus text
    → body ≡ without_leading_sign text → GivesBody body (Ok x) → terms r ≡ lowest_of negative x.num x.den → IsNumeralOf text (terms r)
unfolding IsChecked
body_ok text body negative x r n m e g t = size_ok text n negative x r (m ∙ (numeral_split text n).minus) (given text body (Ok x) n e g) t
