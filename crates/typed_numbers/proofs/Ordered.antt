-- Readings keep the order of doubles.
use Rattle.std.proofs.Common.{◌≡◌, ℕ, zero, suc, ◌+◌, ◌*◌, ◌-◌, ◌/◌, ◌%◌, ◌^◌, ◌<◌, ◌≤◌, pos, ◌*ℤ◌, ◌+ℤ◌, arith, ap, subst, sym, inl, inr, ◌∙◌, true, false, Some}
use Rattle.std.proofs.lemmas.Bool.{cases_lt, cases_order}
use Rattle.std.proofs.lemmas.Nat.{pow_pos, pow-add}
use Rattle.std.proofs.lemmas.Int.{ints}
use Rattle.std.proofs.Math.Nat.{mul-le-mul_left, mul-le-mul, mul-pos, pow-le-pow_right, le_of_mul-le-mul_right}
use mathlib.Core.Bool.{Bool}
use lib.Dec.{T, eqb, eqb→eq}
use lib.Ieee.{Float, nan, inf, fin, binary64, up, down, le, lt, eq, round, of_bits}
use lib.Ieee.Fits.{and_l, down_pos}
use lib.Ieee.Exact.{HasValue}
use lib.Ieee.Scale.{grid, round_val}
use lib.Ieee.Order.{round_mono}
use Rattle.field_core.specs.Divisor.{gcd}
use Rattle.field_core.specs.Arithmetic.{number_zero, ◌+ε◌}
use Rattle.field_core.specs.Number.{Number}
use Rattle.field_core.specs.Order.{◌≤ε◌}
use Rattle.field_core.specs.Fractions.{fraction}
use Rattle.field_core.specs.Laws.AtMostLaws.{at_most_refl, at_most_equal, at_most_add, positive-at_least_zero}
use Rattle.field_core.specs.Laws.FractionLaws.{fraction-equal, fraction-add, fraction-sign, fraction-zero}
use Rattle.field_core.specs.Laws.Order.{number_laws}
use Rattle.field_core.specs.Laws.PolynomialLaws.{positive_in}
use Rattle.field_core.specs.Laws.Effective.{product_positive}
use Rattle.numerals.specs.Lowest.{lowest_terms}
use Rattle.numerals.proofs.LowestTerms.{divided, lowest_cross}
use Rattle.numerals.proofs.DigitNumbers.{power_some}
use Rattle.fraction.specs.View.{terms_of, number_of}
use Rattle.fraction.specs.declared.fraction.Fraction.{Fraction}
use Rattle.typed_numbers.specs.Intervals.{IsInside, range_of, below_by, mantissa_by, shift_by, exponent_of, digits_of}
use Rattle.typed_numbers.specs.Rounding.{RoundsTo, units_of}
use Rattle.typed_numbers.specs.Rules.{HasNoSimple, IsShortest, IsRoundedUp, IsReadAs, simplest, shortest, rounded_up, IsReading, IsReadable, IsReadingOf}
use Rattle.typed_numbers.specs.Laws.Values.{grid_of, intervals_round, units_are, bits_value, fields_value}
use Rattle.typed_numbers.specs.Laws.Total.{small}
use Rattle.typed_numbers.proofs.Readable.{is_at_most}
use Rattle.typed_numbers.proofs.Unique.{one_pair}
use Rattle.typed_numbers.proofs.Units.{lowest_is}

-- ---- the order of values

cross_at_most : (a b c x y u v : ℕ) → 0 < c → 0 < u → 0 < v → x * c ≡ a * u → y * c ≡ b * v → x * v ≤ y * u → a ≤ b
cross_at_most a b c x y u v hc hu hv e f h =
    let k = mul-le-mul_left {m = x * v} {n = y * u} c h in
    let g = ap (λ z. z * v) e in
    let i = ap (λ z. z * u) f in
    le_of_mul-le-mul_right {m = a} {n = b} {k = u * v} (omega arith) (mul-pos hu hv)

-- Of two values, each of which is without a sign or 0, the one is at most the other.
values_at_most : (x y : Float) (s t : Bool) (a b : ℕ) → HasValue x s a (2 ^ 1074) → HasValue y t b (2 ^ 1074) → (s ≡ true → a ≡ 0)
    → T (le x y) → a ≤ b
unfolding le lt eq
values_at_most nan y s t a b h k z l = absurd h
values_at_most (inf s) y r t a b h k z l = absurd h
values_at_most (fin s m e) nan r t a b h k z l = absurd k
values_at_most (fin s m e) (inf u) r t a b h k z l = absurd k
values_at_most (fin true m e) (fin u n d) r t a b h k z l = let g = z (sym h.0) in omega (arith, g)
values_at_most (fin false m e) (fin false n d) r t a b h k z l =
    cross_at_most a b (2 ^ 1074) (m * up e) (n * up d) (down e) (down d) (omega arith) (down_pos e) (down_pos d) h.1 k.1
    (is_at_most (m * up e * down d) (n * up d * down e) l)
values_at_most (fin false m e) (fin true n d) r t a b h k z l =
    let same : m * up e * down d ≡ n * up d * down e = eqb→eq (m * up e * down d) (n * up d * down e) (and_l (eqb (m * up e * down d) (n * up d * down e)) (eqb (m * up e * down d) 0) l) in
    cross_at_most a b (2 ^ 1074) (m * up e) (n * up d) (down e) (down d) (omega arith) (down_pos e) (down_pos d) h.1 k.1 (omega (arith, same))

-- the value of a double from 0 to 1, and its sign, which only 0 may have
record ValueOf (bits : ℕ) : Type 0 where
  sign : Bool
  is_value : HasValue (of_bits binary64 bits) sign (units_of (bits % 2 ^ 63)) (2 ^ 1074)
  none : sign ≡ true → units_of (bits % 2 ^ 63) ≡ 0

no_units : units_of 0 ≡ 0
no_units = let v = units_are 0 (omega arith) in omega (arith, v)

minus_zero : HasValue (of_bits binary64 0x8000_0000_0000_0000) true 0 (2 ^ 1074)
unfolding of_bits
minus_zero = fields_value true 0 0 (omega arith)

value_of : (bits : ℕ) → IsReadable bits → ValueOf bits
value_of bits (inl h) =
    let same : bits % 2 ^ 63 ≡ bits = omega arith in
    let v = units_are bits (omega arith) in
    record {
      sign = false;
      is_value = subst (λ z. HasValue (of_bits binary64 bits) false (units_of z) (2 ^ 1074)) (sym same)
          (subst (λ z. HasValue (of_bits binary64 bits) false z (2 ^ 1074)) (sym v) (bits_value bits (omega arith)));
      none = λ e. absurd (cc);
    }
value_of bits (inr e) =
    let none : units_of (bits % 2 ^ 63) ≡ 0 = ap units_of (let f : bits % 2 ^ 63 ≡ 0 = omega arith in f) ∙ no_units in
    record {
      sign = true;
      is_value = subst (λ z. HasValue (of_bits binary64 z) true (units_of (bits % 2 ^ 63)) (2 ^ 1074)) (sym e)
          (subst (λ z. HasValue (of_bits binary64 0x8000_0000_0000_0000) true z (2 ^ 1074)) (sym none) minus_zero);
      none = λ _. none;
    }

units_at_most : (x y : ℕ) → IsReadable x → IsReadable y → T (le (of_bits binary64 x) (of_bits binary64 y)) → units_of (x % 2 ^ 63) ≤ units_of (y % 2 ^ 63)
units_at_most x y h k l =
    let v = value_of x h in
    let w = value_of y k in
    values_at_most (of_bits binary64 x) (of_bits binary64 y) v.sign w.sign (units_of (x % 2 ^ 63)) (units_of (y % 2 ^ 63)) v.is_value w.is_value v.none l

-- ---- greater bits are a greater value

rises_by : (e d i k : ℕ) → d < 2 ^ 52 → k < 2 ^ 52 → 2 ^ 52 * e + d < 2 ^ 52 * i + k → mantissa_by e d * 2 ^ shift_by e < mantissa_by i k * 2 ^ shift_by i
rises_by zero d zero k hd hk h = omega arith
rises_by zero d (suc i) k hd hk h =
    let some = pow_pos i in
    let f : (2 ^ 52 + k) * 1 ≤ (2 ^ 52 + k) * 2 ^ i = mul-le-mul_left {m = 1} {n = 2 ^ i} (2 ^ 52 + k) (omega arith) in
    omega arith
rises_by (suc e) d zero k hd hk h = absurd (omega arith)
rises_by (suc e) d (suc i) k hd hk h = elim (cases_order e i) [
  | inl same ↦
      let some = pow_pos e in
      let f : 2 ^ e * suc (2 ^ 52 + d) ≤ 2 ^ e * (2 ^ 52 + k) = mul-le-mul_left {m = suc (2 ^ 52 + d)} {n = 2 ^ 52 + k} (2 ^ e) (omega arith) in
      let g : (2 ^ 52 + k) * 2 ^ e ≡ (2 ^ 52 + k) * 2 ^ i = ap (λ z. (2 ^ 52 + k) * 2 ^ z) same in
      omega arith
  | inr other ↦ elim other [
    | inl less ↦
        let some = pow_pos e in
        let f : 2 ^ suc e ≤ 2 ^ i = pow-le-pow_right {n = 2} (omega arith) {i = suc e} {j = i} less in
        let two : 2 ^ suc e ≡ 2 * 2 ^ e = omega arith in
        let g : 2 ^ e * suc (2 ^ 52 + d) ≤ 2 ^ e * 2 ^ 53 = mul-le-mul_left {m = suc (2 ^ 52 + d)} {n = 2 ^ 53} (2 ^ e) (omega arith) in
        let l : 2 ^ 52 * (2 * 2 ^ e) ≤ (2 ^ 52 + k) * 2 ^ i = mul-le-mul (let m : 2 ^ 52 ≤ 2 ^ 52 + k = omega arith in m) (omega (arith, f, two)) in
        omega arith
    | inr more ↦ absurd (omega arith)
  ]
]

rises : (x y : ℕ) → x < y → y < 2047 * 2 ^ 52 → units_of x < units_of y
rises x y h k =
    let a = units_are x (omega arith) in
    let b = units_are y k in
    let f = rises_by (exponent_of x) (digits_of x) (exponent_of y) (digits_of y) (omega arith) (omega arith) (omega arith) in
    rw (a, b) f

-- ---- rounding keeps order

grid_is : (bits n q : ℕ) → bits < 2047 * 2 ^ 52 → 0 < q → RoundsTo bits n q → grid binary64 n q ≡ units_of bits
unfolding range_of
grid_is bits n q short hq k =
    let i = (intervals_round bits n q short hq).1 k in
    (grid_of (exponent_of bits) (digits_of bits) n q (omega arith) hq).0 i ∙ sym (units_are bits short)

small_value : (e d : ℕ) → d < 2 ^ 52 → e ≤ 1023 → mantissa_by e d * 2 ^ shift_by e < 2 ^ 2098
small_value zero d h k = omega arith
small_value (suc e) d h k =
    let f : 2 ^ e ≤ 2 ^ 1023 = pow-le-pow_right {n = 2} (omega arith) {i = e} {j = 1023} (omega arith) in
    let g : (2 ^ 52 + d) * 2 ^ e ≤ 2 ^ 53 * 2 ^ 1023 = mul-le-mul (let m : 2 ^ 52 + d ≤ 2 ^ 53 = omega arith in m) f in
    omega arith

small_units : (bits : ℕ) → bits ≤ 0x3ff0_0000_0000_0000 → units_of bits < 2 ^ 2098
small_units bits h = rw (units_are bits (omega arith)) (small_value (exponent_of bits) (digits_of bits) (omega arith) (omega arith))

rounded_value : (bits n q : ℕ) → bits ≤ 0x3ff0_0000_0000_0000 → 0 < q → RoundsTo bits n q
    → HasValue (round binary64 false n q) false (units_of bits) (2 ^ 1074)
rounded_value bits n q h hq k =
    let g = grid_is bits n q (omega arith) hq k in
    let s = small_units bits h in
    subst (λ z. HasValue (round binary64 false n q) false z (2 ^ 1074)) g (round_val binary64 n q (subst (λ z. z < 2 ^ 2098) (sym g) s))

rounding_at_most : (x y n q m p : ℕ) → x ≤ 0x3ff0_0000_0000_0000 → y ≤ 0x3ff0_0000_0000_0000 → 0 < q → 0 < p → RoundsTo x n q → RoundsTo y m p
    → n * p ≤ m * q → units_of x ≤ units_of y
rounding_at_most x y n q m p hx hy hq hp k l h =
    values_at_most (round binary64 false n q) (round binary64 false m p) false false (units_of x) (units_of y)
    (rounded_value x n q hx hq k) (rounded_value y m p hy hp l) (λ e. absurd (cc)) (round_mono binary64 n q m p hq hp h)

-- what rounds to a lesser double is less
below : (x y n q m p : ℕ) → x ≤ 0x3ff0_0000_0000_0000 → y ≤ 0x3ff0_0000_0000_0000 → 0 < q → 0 < p → RoundsTo x n q → RoundsTo y m p
    → units_of x < units_of y → n * p < m * q
below x y n q m p hx hy hq hp k l h = elim (cases_lt (n * p) (m * q)) [
  | inl g ↦ g
  | inr g ↦ absurd (let f = rounding_at_most y x m p n q hy hx hp hq l k g in omega (arith, f, h))
]

-- a double rounds to itself
some_below : (e d : ℕ) → 0 < below_by e d
some_below zero d = omega arith
some_below (suc zero) d = omega arith
some_below (suc (suc e)) zero = omega arith
some_below (suc (suc e)) (suc d) = omega arith

itself_at : (m b f c v : ℕ) → 0 < m → 0 < b → 0 < f → 0 < c → ((4 * m - b) * f * c < m * f * (4 * c) + v) × (m * f * (4 * c) < (4 * m + 2) * f * c + v)
itself_at m b f c v hm hb hf hc =
    let some = mul-pos hf hc in
    let l : 4 * m - b + 1 ≤ 4 * m = omega (arith, hm, hb) in
    let g = mul-le-mul_left {m = 4 * m - b + 1} {n = 4 * m} (f * c) l in
    (omega (arith, g, some), omega (arith, some))

itself_by : (e d c : ℕ) → 0 < c → ((4 * mantissa_by e d - below_by e d) * 2 ^ shift_by e * c < mantissa_by e d * 2 ^ shift_by e * (4 * c) + (1 - d % 2))
    × (mantissa_by e d * 2 ^ shift_by e * (4 * c) < (4 * mantissa_by e d + 2) * 2 ^ shift_by e * c + (1 - d % 2))
itself_by zero zero c hc = (omega arith, omega arith)
itself_by zero (suc d) c hc = itself_at (suc d) 2 1 c (1 - suc d % 2) (omega arith) (omega arith) (omega arith) hc
itself_by (suc e) d c hc = itself_at (2 ^ 52 + d) (below_by (suc e) d) (2 ^ e) c (1 - d % 2) (omega arith) (some_below (suc e) d) (pow_pos e) hc

itself : (bits : ℕ) → bits < 2047 * 2 ^ 52 → RoundsTo bits (units_of bits) (2 ^ 1074)
unfolding range_of
itself bits short =
    let i = itself_by (exponent_of bits) (digits_of bits) (2 ^ 1074) (pow_pos 1074) in
    (intervals_round bits (units_of bits) (2 ^ 1074) short (pow_pos 1074)).0
    (subst (λ z. IsInside (range_of bits) z (2 ^ 1074)) (sym (units_are bits short)) (record { from_low = i.0; to_high = i.1 }))

-- ---- readings as pairs

some_power : (bits n q : ℕ) → IsShortest bits n q → 0 < q
some_power bits n q k = subst (λ z. 0 < z) (sym k.power) (power_some k.places)

cancelled : (a b c : ℕ) → 0 < c → a * c ≤ b * c → a ≤ b
cancelled a b c some h = le_of_mul-le-mul_right {m = a} {n = b} {k = c} h some

-- through a value between: n / q is below u / t, and that is at most m / p
through : (n q u t m p : ℕ) → 0 < t → n * t ≤ u * q → u * p ≤ m * t → n * p ≤ m * q
through n q u t m p some low high =
    let f = mul-le-mul_left {m = n * t} {n = u * q} p low in
    let g = mul-le-mul_left {m = u * p} {n = m * t} q high in
    cancelled (n * p) (m * q) t some (omega (arith, f, g))

-- n / q rounds to the lesser double, and m / p is the other one rounded up
up_after : (x y n q m p : ℕ) → x ≤ 0x3ff0_0000_0000_0000 → y ≤ 0x3ff0_0000_0000_0000 → 0 < q → RoundsTo x n q → IsRoundedUp y m p
    → units_of x < units_of y → n * p ≤ m * q
up_after x y n q m p hx hy hq k l h =
    let f = below x y n q (units_of y) (2 ^ 1074) hx hy hq (pow_pos 1074) k (itself y (omega arith)) h in
    through n q (units_of y) (2 ^ 1074) m p (pow_pos 1074) (omega (arith, f)) l.above

-- n / t is the lesser double rounded up, and m / p a decimal that rounds to the other one
longer_decimal : (u n m p r t s : ℕ) → p * r ≡ t → ((k : ℕ) → u * t ≤ k * s → n ≤ k) → u * p ≤ m * s → n * p ≤ m * t
longer_decimal u n m p r t s all least h =
    let f = mul-le-mul_left {m = u * p} {n = m * s} r h in
    let e = ap (λ z. u * z) all in
    let g = least (m * r) (omega (arith, f, e)) in
    let i = mul-le-mul_left {m = n} {n = m * r} p g in
    let d = ap (λ z. m * z) all in
    omega (arith, i, d)

decimal_after : (u n m p j : ℕ) → p ≡ 10 ^ j → j ≤ 30 → ((k : ℕ) → u * 10 ^ 30 ≤ k * 2 ^ 1074 → n ≤ k) → u * p ≤ m * 2 ^ 1074 → n * p ≤ m * 10 ^ 30
decimal_after u n m p j is few least h =
    let split : 10 ^ (j + (30 - j)) ≡ 10 ^ j * 10 ^ (30 - j) = pow-add 10 j (30 - j) in
    let whole : 10 ^ (j + (30 - j)) ≡ 10 ^ 30 = ap (λ z. 10 ^ z) (let e : j + (30 - j) ≡ 30 = omega arith in e) in
    longer_decimal u n m p (10 ^ (30 - j)) (10 ^ 30) (2 ^ 1074) (ap (λ z. z * 10 ^ (30 - j)) is ∙ sym split ∙ whole) least h

-- ---- a fraction with a small denominator just above a double rounds to it

-- the least multiple of 1 / t that is not below u / s is above it by less than 1 / t
less_than_one : (u n s : ℕ) → 0 < s → ((k : ℕ) → u ≤ k * s → n ≤ k) → n * s < u + s
less_than_one u zero s some least = omega arith
less_than_one u (suc n) s some least = elim (cases_lt (n * s) u) [
  | inl k ↦ omega arith
  | inr k ↦ absurd (let f = least n k in omega arith)
]

-- With a denominator of at most 10,000, and above u / s by less than 10 ^ -30: the last place of u is wide.
wide_place : (u f m p s : ℕ) → u ≤ 9007199254740992 * f → 0 < m → p ≤ 10000 → m * 10 ^ 30 * s < p * (u * 10 ^ 30 + s) → 4 * s ≤ 2 * f * 10 ^ 30
wide_place u f m p s short some few near =
    let a = mul-le-mul_left {m = 1} {n = m} (10 ^ 30 * s) some in
    let b = mul-le-mul_left {m = p} {n = 10000} (u * 10 ^ 30 + s) few in
    omega (arith, a, b, near, short)

-- so the fraction is below the end of the interval
before_end : (u f m p s : ℕ) → 4 * s ≤ 2 * f * 10 ^ 30 → m * 10 ^ 30 * s < p * (u * 10 ^ 30 + s) → m * (4 * s) < (4 * u + 2 * f) * p
before_end u f m p s wide near =
    let a = mul-le-mul_left {m = 4 * s} {n = 2 * f * 10 ^ 30} p wide in
    elim (cases_lt (m * (4 * s)) ((4 * u + 2 * f) * p)) [
      | inl k ↦ k
      | inr k ↦ absurd (let b = mul-le-mul_left {m = (4 * u + 2 * f) * p} {n = m * (4 * s)} (10 ^ 30) k in omega (arith, a, b, near))
    ]

mantissa_short : (e d : ℕ) → d < 2 ^ 52 → mantissa_by e d * 2 ^ shift_by e ≤ 9007199254740992 * 2 ^ shift_by e
mantissa_short zero d h = omega arith
mantissa_short (suc e) d h = let f = mul-le-mul_left {m = 2 ^ 52 + d} {n = 9007199254740992} (2 ^ e) (omega arith) in omega (arith, f)

-- from the value of a double on, and below the end of its interval
within_by : (e d m p c : ℕ) → mantissa_by e d * 2 ^ shift_by e * p < m * c
    → m * (4 * c) < (4 * (mantissa_by e d * 2 ^ shift_by e) + 2 * 2 ^ shift_by e) * p
    → ((4 * mantissa_by e d - below_by e d) * 2 ^ shift_by e * p < m * (4 * c) + (1 - d % 2))
    × (m * (4 * c) < (4 * mantissa_by e d + 2) * 2 ^ shift_by e * p + (1 - d % 2))
within_by e d m p c low high =
    let l : 4 * mantissa_by e d - below_by e d ≤ 4 * mantissa_by e d = omega arith in
    let f = mul-le-mul_left {m = 4 * mantissa_by e d - below_by e d} {n = 4 * mantissa_by e d} (2 ^ shift_by e * p) l in
    (omega (arith, f, low), omega (arith, high))

just_above : (bits m p : ℕ) → bits ≤ 0x3ff0_0000_0000_0000 → 0 < p → p ≤ 10000 → units_of bits * p < m * 2 ^ 1074
    → m * 10 ^ 30 * 2 ^ 1074 < p * (units_of bits * 10 ^ 30 + 2 ^ 1074) → RoundsTo bits m p
unfolding range_of
just_above bits m p h hp few low near =
    let e = exponent_of bits in
    let d = digits_of bits in
    let u = mantissa_by (exponent_of bits) (digits_of bits) * 2 ^ shift_by (exponent_of bits) in
    let is = units_are bits (omega arith) in
    let low' : u * p < m * 2 ^ 1074 = subst (λ z. z * p < m * 2 ^ 1074) is low in
    let near' : m * 10 ^ 30 * 2 ^ 1074 < p * (u * 10 ^ 30 + 2 ^ 1074) = subst (λ z. m * 10 ^ 30 * 2 ^ 1074 < p * (z * 10 ^ 30 + 2 ^ 1074)) is near in
    let some : 0 < m = some_numerator m (2 ^ 1074) (u * p) low' in
    let wide = wide_place u (2 ^ shift_by e) m p (2 ^ 1074) (mantissa_short e d (omega arith)) some few near' in
    let i = within_by e d m p (2 ^ 1074) low' (before_end u (2 ^ shift_by e) m p (2 ^ 1074) wide near') in
    (intervals_round bits m p (omega arith) hp).0 (record { from_low = i.0; to_high = i.1 })
  where
    some_numerator : (m s a : ℕ) → a < m * s → 0 < m
    some_numerator zero s a h = absurd (omega arith)
    some_numerator (suc m) s a h = omega arith

-- n / 10 ^ 30 is the lesser double rounded up, and m / p a simple fraction that rounds to the other one
simple_after : (bits n m p : ℕ) → bits ≤ 0x3ff0_0000_0000_0000 → HasNoSimple bits → ((k : ℕ) → units_of bits * 10 ^ 30 ≤ k * 2 ^ 1074 → n ≤ k)
    → 0 < p → p ≤ 10000 → units_of bits * p < m * 2 ^ 1074 → n * p ≤ m * 10 ^ 30
simple_after bits n m p h none least hp few low = elim (cases_lt (m * 10 ^ 30) (n * p)) [
  | inr k ↦ k
  | inl k ↦ absurd (
      let one = less_than_one (units_of bits * 10 ^ 30) n (2 ^ 1074) (pow_pos 1074) least in
      let r = just_above bits m p h hp few low (near (units_of bits * 10 ^ 30) n m p (10 ^ 30) (2 ^ 1074) (pow_pos 1074) hp k one) in
      let f : 10000 < p = none m p hp r in
      omega (arith, f, few))
]
  where
    near : (u n m p t s : ℕ) → 0 < s → 0 < p → m * t < n * p → n * s < u + s → m * t * s < p * (u + s)
    near u n m p t s hs hp h k =
        let a = mul-le-mul_left {m = suc (m * t)} {n = n * p} s h in
        let b = mul-le-mul_left {m = suc (n * s)} {n = u + s} p k in
        omega (arith, a, b)

-- ---- all pairs of rules

-- the lesser double is read as what rounds to it
rounds_before : (x y n q m p : ℕ) → x ≤ 0x3ff0_0000_0000_0000 → y ≤ 0x3ff0_0000_0000_0000 → 0 < q → RoundsTo x n q → IsReadAs y m p
    → units_of x < units_of y → n * p ≤ m * q
rounds_before x y n q m p hx hy hq k (simplest l) h = let f = below x y n q m p hx hy hq l.some k l.rounds h in omega (arith, f)
rounds_before x y n q m p hx hy hq k (shortest none l) h =
    let f = below x y n q m p hx hy hq (some_power y m p l) k l.nearest.rounds h in omega (arith, f)
rounds_before x y n q m p hx hy hq k (rounded_up none no_decimal l) h = up_after x y n q m p hx hy hq k l h

-- the lesser double is rounded up
up_before : (x y n m p : ℕ) → x ≤ 0x3ff0_0000_0000_0000 → y ≤ 0x3ff0_0000_0000_0000 → HasNoSimple x
    → ((k : ℕ) → units_of x * 10 ^ 30 ≤ k * 2 ^ 1074 → n ≤ k) → IsReadAs y m p → units_of x < units_of y → n * p ≤ m * 10 ^ 30
up_before x y n m p hx hy none least (simplest l) h =
    simple_after x n m p hx none least l.some l.within (below x y (units_of x) (2 ^ 1074) m p hx hy (pow_pos 1074) l.some (itself x (omega arith)) l.rounds h)
up_before x y n m p hx hy none least (shortest _ l) h =
    let f = below x y (units_of x) (2 ^ 1074) m p hx hy (pow_pos 1074) (some_power y m p l) (itself x (omega arith)) l.nearest.rounds h in
    decimal_after (units_of x) n m p l.places l.power l.within least (omega (arith, f))
up_before x y n m p hx hy none least (rounded_up _ no_decimal l) h =
    let is : p ≡ 10 ^ 30 = l.power in
    let f : n ≤ m = least m (more (units_of x) (units_of y) m p (10 ^ 30) (2 ^ 1074) is h l.above) in
    let g = mul-le-mul_left {m = n} {n = m} (10 ^ 30) f in
    let e = ap (λ z. n * z) is in
    omega (arith, g, e)
  where
    more : (u w m p t s : ℕ) → p ≡ t → u < w → w * p ≤ m * s → u * t ≤ m * s
    more u w m p t s e h k =
        let f = mul-le-mul_left {m = u} {n = w} t (omega (arith, h)) in
        let g = ap (λ z. w * z) e in
        omega (arith, f, g, k)

pairs_ordered : (x y n q m p : ℕ) → x ≤ 0x3ff0_0000_0000_0000 → y ≤ 0x3ff0_0000_0000_0000 → IsReadAs x n q → IsReadAs y m p
    → units_of x < units_of y → n * p ≤ m * q
pairs_ordered x y n q m p hx hy (simplest k) l h = rounds_before x y n q m p hx hy k.some k.rounds l h
pairs_ordered x y n q m p hx hy (shortest none k) l h = rounds_before x y n q m p hx hy (some_power x n q k) k.nearest.rounds l h
pairs_ordered x y n q m p hx hy (rounded_up none no_decimal k) l h =
    let is : q ≡ 10 ^ 30 = k.power in
    let f = up_before x y n m p hx hy none (λ i g. k.least i (subst (λ z. units_of x * z ≤ i * 2 ^ 1074) (sym is) g)) l h in
    subst (λ z. n * p ≤ m * z) (sym is) f

parts_ordered : (x y n q m p : ℕ) → x ≤ 0x3ff0_0000_0000_0000 → y ≤ 0x3ff0_0000_0000_0000 → IsReadAs x n q → IsReadAs y m p
    → units_of x ≤ units_of y → n * p ≤ m * q
parts_ordered x y n q m p hx hy k l h = elim (cases_order x y) [
  | inl same ↦
      let w = one_pair y n q m p hy (subst (λ z. IsReadAs z n q) same k) l in
      let e = w.0 in
      let f = w.1 in
      equal n q m p e f
  | inr other ↦ elim other [
    | inl less ↦ pairs_ordered x y n q m p hx hy k l (rises x y less (omega arith))
    | inr more ↦ absurd (let f = rises y x more (omega arith) in omega (arith, f, h))
  ]
]
  where
    equal : (n q m p : ℕ) → n ≡ m → q ≡ p → n * p ≤ m * q
    equal n q m p e f = rw (e, f) (omega arith)

-- ---- readings as fractions

not_zero : (n : ℕ) → 0 < n → ¬ (pos n ≡ pos 0)
not_zero n h e = absurd (omega (arith, ints, h, e))

plus_nothing : (x : Number) → x +ε number_zero ≡ x
plus_nothing x = simp number_laws

-- a fraction of natural numbers isn't below 0
fraction_low : (k d : ℕ) → 0 < d → number_zero ≤ε fraction (pos k) (pos d)
fraction_low zero d h = at_most_equal _ _ (sym (fraction-zero (pos d) (not_zero d h)))
fraction_low (suc k) d h = positive-at_least_zero (fraction (pos (suc k)) (pos d))
    (fraction-sign (pos (suc k)) (pos d) (not_zero d h) ∙ positive_in _ (product_positive (pos (suc k)) (pos d) (omega (arith, ints)) (omega (arith, ints, h))))

-- the order of two fractions by their cross products
crossed : (n q m p : ℕ) → 0 < q → 0 < p → n * p ≤ m * q → fraction (pos n) (pos q) ≤ε fraction (pos m) (pos p)
crossed n q m p hq hp h =
    let k = m * q - n * p in
    let whole : k + n * p ≡ m * q = omega arith in
    let e : fraction (pos n) (pos q) +ε fraction (pos k) (pos (q * p)) ≡ fraction (pos m) (pos p) =
    fraction-add (pos n) (pos q) (pos k) (pos (q * p)) (not_zero q hq) (not_zero (q * p) (mul-pos hq hp))
    ∙ fraction-equal (pos n *ℤ pos (q * p) +ℤ pos k *ℤ pos q) (pos q *ℤ pos (q * p)) (pos m) (pos p)
    (not_zero (q * (q * p)) (mul-pos hq (mul-pos hq hp))) (not_zero p hp) (ap pos (same n q m p k whole)) in
    subst (λ z. fraction (pos n) (pos q) ≤ε z) e
    (subst (λ z. z ≤ε (fraction (pos n) (pos q) +ε fraction (pos k) (pos (q * p)))) (plus_nothing (fraction (pos n) (pos q)))
    (at_most_add _ _ _ _ (at_most_refl (fraction (pos n) (pos q))) (fraction_low k (q * p) (mul-pos hq hp))))
  where
    same : (n q m p k : ℕ) → k + n * p ≡ m * q → (n * (q * p) + k * q) * p ≡ m * (q * (q * p))
    same n q m p k e = let f = ap (λ z. z * (q * p)) e in omega (arith, f)

-- the number that lowest terms are
lowest_number : (f : Fraction) (n q : ℕ) → 0 < q → terms_of f ≡ lowest_terms (pos n) (pos q) → number_of f ≡ fraction (pos n) (pos q)
lowest_number f n q some e =
    ap (λ t. fraction t.num t.den) e
    ∙ fraction-equal (lowest_terms (pos n) (pos q)).num (lowest_terms (pos n) (pos q)).den (pos n) (pos q)
    (subst (λ t. ¬ (t.den ≡ pos 0)) (sym (lowest_is n q)) (not_zero (q / gcd n q) (divided n q some).1.some)) (not_zero q some) (lowest_cross (pos n) (pos q))

reading_some : (bits n q : ℕ) → IsReadAs bits n q → 0 < q
reading_some bits n q (simplest k) = k.some
reading_some bits n q (shortest none k) = some_power bits n q k
reading_some bits n q (rounded_up none no_decimal k) = let e : q ≡ 10 ^ 30 = k.power in omega (arith, e)

pub keep_order : (x y : ℕ) (f g : Fraction) → IsReadingOf x (Some f) → IsReadingOf y (Some g)
    → T (le (of_bits binary64 x) (of_bits binary64 y)) → number_of f ≤ε number_of g
keep_order x y f g k l h =
    let r : IsReading (x % 2 ^ 63) f = k.1 in
    let s : IsReading (y % 2 ^ 63) g = l.1 in
    let order = parts_ordered (x % 2 ^ 63) (y % 2 ^ 63) r.n r.q s.n s.q (small x k.0) (small y l.0) r.read s.read (units_at_most x y k.0 l.0 h) in
    let some = reading_some (x % 2 ^ 63) r.n r.q r.read in
    let other = reading_some (y % 2 ^ 63) s.n s.q s.read in
    subst (λ z. z ≤ε number_of g) (sym (lowest_number f r.n r.q some r.lowest))
    (subst (λ z. fraction (pos r.n) (pos r.q) ≤ε z) (sym (lowest_number g s.n s.q other s.lowest)) (crossed r.n r.q s.n s.q some other order))
