-- Numbers divided by powers of ten.
use Rattle.std.proofs.Common.{◌≡◌, ℕ, suc, ◌+◌, ◌-◌, ◌*◌, ◌^◌, ◌<◌, ◌≤◌, inl, inr, Bool, true, false, IsTrue, List, length}
use Rattle.std.proofs.Common.{take, ℤ, pos, negsuc, ◌-ℤ◌, Result, Ok, Err, refl, sym, ap, subst, ◌∙◌, arith}
use Rattle.std.specs.Str.Parse.{digits_value}
use Rattle.std.proofs.lemmas.Bool.{cases_lt}
use Rattle.std.proofs.lemmas.Int.{ints}
use Rattle.std.proofs.lemmas.Nat.{pow-add}
use Rattle.std.proofs.Math.Nat.{mul_assoc, mul-le-mul_right, pow-le-pow_right, one-le-pow}
use Rattle.field_core.specs.Terms.{Terms}
use Rattle.numerals.specs.declared.fault.NumberFault.{NumberFault}
use Rattle.numerals.specs.declared.fault.NumberFault.TheVariants.{Empty, BadByte, ZeroDenominator, TooManyDigits}
use Rattle.numerals.specs.declared.size.Size.{Size}
use Rattle.numerals.specs.Numeral.{over_power, PassesLimit, IsTooLong, without_leading_zeros, trailing_zeros, Same}
use Rattle.numerals.specs.declared.decimal.Decimal.{Decimal}
use Rattle.numerals.specs.declared.shift.Shift.{Shift}
use Rattle.numerals.specs.Sizes.{quotient_of, digits_in, IsShift, IsScaled, IsDecimalSize, GivesDecimal}
use Rattle.numerals.proofs.Zeros.{no_value, trailing_value, without_value}

-- ---- the limit

pub inside_limit : (len up down : ℕ) → len ≤ 38 → down ≤ up + 38 → len + up ≤ down + 38 → ¬ PassesLimit len (pos down -ℤ pos up)
inside_limit len up down h k l (inl e) = omega arith
inside_limit len up down h k l (inr (inl e)) = omega (arith, ints)
inside_limit len up down h k l (inr (inr e)) = omega (arith, ints, e.1)

pub past_low : (len up down : ℕ) → up + 38 < down → PassesLimit len (pos down -ℤ pos up)
past_low len up down h = inr (inl (omega (arith, ints)))

pub past_high : (len up down : ℕ) → down + 38 < len + up → PassesLimit len (pos down -ℤ pos up)
past_high len up down h = elim (cases_lt 38 len) [ inl more ↦ inl more | inr few ↦ inr (inr (omega (arith, ints), omega (arith, ints))) ]

-- the limit isn't passed where a test says so
pub limits : (len up down : ℕ) (b : Bool) → b ≡ false → (PassesLimit len (pos down -ℤ pos up) → IsTrue b) → (len ≤ 38)
    × ((down ≤ up + 38) × (len + up ≤ down + 38))
limits len up down b e f =
    let no_more : ¬ PassesLimit len (pos down -ℤ pos up) = λ h. (let t : b ≡ true = f h in absurd (cc)) in
    let few : len ≤ 38 = elim (cases_lt 38 len) [ inl h ↦ absurd (no_more (inl h)) | inr h ↦ h ] in
    let low : down ≤ up + 38 = elim (cases_lt (up + 38) down) [ inl h ↦ absurd (no_more (past_low len up down h)) | inr h ↦ h ] in
    let high : len + up ≤ down + 38 = elim (cases_lt (down + 38) (len + up)) [ inl h ↦ absurd (no_more (past_high len up down h)) | inr h ↦ h ] in
    (few, (low, high))

-- ---- powers

below_both : (n a b : ℕ) → n < 10 ^ a → n * 10 ^ b < 10 ^ (a + b)
below_both n a b h =
    let p : 1 ≤ 10 ^ b = one-le-pow b 10 (omega arith) in
    let step : suc n * 10 ^ b ≤ 10 ^ a * 10 ^ b = mul-le-mul_right (10 ^ b) (omega arith) in
    rw pow-add (omega arith)

pub raised_small : (n len k : ℕ) → n < 10 ^ len → len + k ≤ 38 → n * 10 ^ k < 10 ^ 38
raised_small n len k h l = let p : 10 ^ (len + k) ≤ 10 ^ 38 = pow-le-pow_right (omega arith) l in omega (arith, below_both n len k h)

pub raised : (n up down num den : ℕ) → down < up → num ≡ n * 10 ^ (up - down) → den ≡ 1
    → record { num = pos num; den = pos den } ≡ over_power (pos n) (pos down -ℤ pos up)
raised n up down num den h e f =
    let s : pos down -ℤ pos up ≡ negsuc (up - down - 1) = omega (arith, ints) in
    let k : suc (up - down - 1) ≡ up - down = omega arith in
    rw (s, e, f) (ap (λ m. record { num = pos (n * 10 ^ m); den = pos 1 }) (sym k))

pub lowered : (n up down num den : ℕ) → up ≤ down → num ≡ n → den ≡ 10 ^ (down - up)
    → record { num = pos num; den = pos den } ≡ over_power (pos n) (pos down -ℤ pos up)
lowered n up down num den h e f =
    let s : pos down -ℤ pos up ≡ pos (down - up) = omega (arith, ints) in
    rw (s, e, f) refl

-- ---- trailing zeros

-- equal cross products of whole numbers
cross : (a b c d : ℕ) → a * d ≡ c * b → Same (record { num = pos a; den = pos b }) (record { num = pos c; den = pos d })
cross a b c d e = ap pos e

split_power : (m a b c : ℕ) → a + b ≡ c → m * 10 ^ c ≡ (m * 10 ^ a) * 10 ^ b
split_power m a b c e = rw (← e, pow-add) (sym (mul_assoc m (10 ^ a) (10 ^ b)))

shifted_to : (m z : ℕ) (s t : ℤ) → t ≡ s -ℤ pos z → Same (over_power (pos m) t) (over_power (pos (m * 10 ^ z)) s)
shifted_to m z (pos s) (pos t) e = cross m (10 ^ t) (m * 10 ^ z) (10 ^ s) (split_power m z t s (omega (arith, ints)))
shifted_to m z (pos s) (negsuc t) e =
    cross (m * 10 ^ suc t) 1 (m * 10 ^ z) (10 ^ s) (sym (split_power m (suc t) s z (omega (arith, ints))) ∙ omega arith)
shifted_to m z (negsuc s) (pos t) e = absurd (omega (arith, ints))
shifted_to m z (negsuc s) (negsuc t) e =
    cross (m * 10 ^ suc t) 1 (m * 10 ^ z * 10 ^ suc s) 1 (ap (λ n. n * 1) (split_power m z (suc s) (suc t) (omega (arith, ints))))

-- digits without their trailing zeros
pub shifted : (ds : List ℕ) (s : ℤ) → Same (over_power (pos (digits_value 10 (take (length ds - trailing_zeros ds) ds))) (s -ℤ pos (trailing_zeros ds)))
    (over_power (pos (digits_value 10 ds)) s)
shifted ds s =
    subst (λ n. Same (over_power (pos (digits_value 10 (take (length ds - trailing_zeros ds) ds))) (s -ℤ pos (trailing_zeros ds))) (over_power (pos n) s))
    (sym (trailing_value ds)) (shifted_to _ (trailing_zeros ds) s _ refl)

-- ---- decimals

pub scaled_ok : (len number : ℕ) (s : ℤ) (x : Size) → ¬ PassesLimit len s → quotient_of x ≡ over_power (pos number) s
    → IsScaled len number s (Ok x)
unfolding IsScaled
scaled_ok len number s x h e = (h, e)

pub scaled_fault : (len number : ℕ) (s : ℤ) → PassesLimit len s → IsScaled len number s (Err TooManyDigits)
unfolding IsScaled
scaled_fault len number s h = h

zero_over : (s : ℤ) (x : Size) → x.num ≡ 0 → Same (quotient_of x) (over_power (pos 0) s)
zero_over (pos s) x e = rw e (cross 0 x.den 0 (10 ^ s) (omega arith))
zero_over (negsuc s) x e = rw e (cross 0 x.den (0 * 10 ^ suc s) 1 (omega arith))

pub decimal_zero : (ds : List ℕ) (s : ℤ) (x : Size) → length (without_leading_zeros ds) ≡ 0 → x.num ≡ 0 → IsDecimalSize ds s (Ok x)
unfolding IsDecimalSize IsTooLong
decimal_zero ds s x h e = ((λ t. let some = t.0 in omega arith), rw (no_value ds h) (zero_over s x e))

scaled_decimal_ok : (ds : List ℕ) (s : ℤ) (x : Size) → 0 < length (without_leading_zeros ds)
    → IsScaled (length (without_leading_zeros ds) - trailing_zeros (without_leading_zeros ds))
    (digits_value 10 (take (length (without_leading_zeros ds) - trailing_zeros (without_leading_zeros ds)) (without_leading_zeros ds)))
    (s -ℤ pos (trailing_zeros (without_leading_zeros ds))) (Ok x)
    → IsDecimalSize ds s (Ok x)
unfolding IsScaled IsDecimalSize IsTooLong
scaled_decimal_ok ds s x some h = (
  (λ t. h.0 t.1),
  subst (λ (q : Terms). Same q (over_power (pos (digits_value 10 ds)) s)) (sym h.1)
      (subst (λ n. Same (over_power
      (pos (digits_value 10 (take (length (without_leading_zeros ds) - trailing_zeros (without_leading_zeros ds)) (without_leading_zeros ds))))
      (s -ℤ pos (trailing_zeros (without_leading_zeros ds)))) (over_power (pos n) s)) (without_value ds) (shifted (without_leading_zeros ds) s)),
)

scaled_decimal_fault : (ds : List ℕ) (number : ℕ) (s : ℤ) (f : NumberFault) → 0 < length (without_leading_zeros ds)
    → IsScaled (length (without_leading_zeros ds) - trailing_zeros (without_leading_zeros ds)) number (s -ℤ pos (trailing_zeros (without_leading_zeros ds)))
    (Err f) → IsDecimalSize ds s (Err f)
unfolding IsScaled IsDecimalSize IsTooLong
scaled_decimal_fault ds number s TooManyDigits some h = (some, h)
scaled_decimal_fault ds number s Empty some h = h
scaled_decimal_fault ds number s (BadByte n) some h = h
scaled_decimal_fault ds number s ZeroDenominator some h = h

-- the digits of a decimal without their leading and trailing zeros, scaled
pub scaled_decimal : (ds : List ℕ) (s : ℤ) (r : Result Size NumberFault) → 0 < length (without_leading_zeros ds)
    → IsScaled (length (without_leading_zeros ds) - trailing_zeros (without_leading_zeros ds))
    (digits_value 10 (take (length (without_leading_zeros ds) - trailing_zeros (without_leading_zeros ds)) (without_leading_zeros ds)))
    (s -ℤ pos (trailing_zeros (without_leading_zeros ds))) r
    → IsDecimalSize ds s r
scaled_decimal ds s (Ok x) some h = scaled_decimal_ok ds s x some h
scaled_decimal ds s (Err f) some h = scaled_decimal_fault ds _ s f some h

-- ---- exponents past all lengths

-- two shifts past the limit give one result
same_past : (len number : ℕ) (s t : ℤ) (r : Result Size NumberFault) → PassesLimit len s → PassesLimit len t → IsScaled len number s r
    → IsScaled len number t r
unfolding IsScaled
same_past len number s t (Ok x) h k r = absurd (r.0 h)
same_past len number s t (Err TooManyDigits) h k r = k
same_past len number s t (Err Empty) h k r = r
same_past len number s t (Err (BadByte n)) h k r = r
same_past len number s t (Err ZeroDenominator) h k r = r

-- what a shift gives is what its exponent gives
pub exact_shift : (len number behind dropped up down : ℕ) (z : ℤ) (r : Result Size NumberFault) → behind < 2 ^ 64 → dropped < 2 ^ 65
    → IsShift up down z → IsScaled len number (pos (behind + down) -ℤ pos (up + dropped)) r
    → IsScaled len number ((pos behind -ℤ z) -ℤ pos dropped) r
exact_shift len number behind dropped up down z r f k (inl e) h =
    let same : pos (behind + down) -ℤ pos (up + dropped) ≡ (pos behind -ℤ z) -ℤ pos dropped = omega (arith, ints) in
    subst (λ s. IsScaled len number s r) same h
exact_shift len number behind dropped up down z r f k (inr (inl e)) h =
    same_past len number _ _ r (inr (inr (omega (arith, ints, e.0, e.1), omega (arith, ints, e.0, e.1))))
    (inr (inr (omega (arith, ints, e.2), omega (arith, ints, e.2)))) h
exact_shift len number behind dropped up down z r f k (inr (inr e)) h =
    same_past len number _ _ r (inr (inl (omega (arith, ints, e.0, e.1)))) (inr (inl (omega (arith, ints, e.2)))) h

-- ---- a decimal d, of which the digits are ds without leading zeros, with z trailing ones

pub gives_zero : (d : Decimal) (shift : Shift) (x : Size) (ds : List ℕ) → ds ≡ without_leading_zeros (digits_in d) → length ds ≡ 0 → x.num ≡ 0
    → GivesDecimal d shift (Ok x)
unfolding GivesDecimal
gives_zero d shift x ds e h f exponent is = decimal_zero (digits_in d) (pos (length d.fraction.now) -ℤ exponent) x (rw (← e) h) f

pub gives_scaled : (d : Decimal) (shift : Shift) (r : Result Size NumberFault) (ds : List ℕ) (len z : ℕ) → ds ≡ without_leading_zeros (digits_in d)
    → len ≡ length ds → z ≡ trailing_zeros ds → 0 < len → length d.fraction.now < 2 ^ 64 → z < 2 ^ 65
    → IsScaled (len - z) (digits_value 10 (take (len - z) ds)) (pos (length d.fraction.now + shift.down) -ℤ pos (shift.up + z)) r → GivesDecimal d shift r
unfolding GivesDecimal
gives_scaled d shift r ds len z e f g some behind few h exponent is =
    let scaled : IsScaled (length ds - trailing_zeros ds) (digits_value 10 (take (length ds - trailing_zeros ds) ds))
    ((pos (length d.fraction.now) -ℤ exponent) -ℤ pos (trailing_zeros ds)) r =
    rw (← f, ← g) (exact_shift (len - z) _ (length d.fraction.now) z shift.up shift.down exponent r behind few is h) in
    scaled_decimal (digits_in d) (pos (length d.fraction.now) -ℤ exponent) r (rw (← e, ← f) some) (rw (← e) scaled)
