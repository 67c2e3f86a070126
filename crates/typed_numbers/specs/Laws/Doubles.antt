-- Doubles from 0 to 1: their intervals in units of 2 ^ -1076.
use Rattle.std.proofs.Common.{◌≡◌, ℕ, zero, suc, ◌+◌, ◌*◌, ◌-◌, ◌^◌, ◌<◌, ◌≤◌, arith, ap, subst, sym, inl, inr}
use Rattle.std.proofs.Math.Nat.{mul-le-mul_left, mul-le-mul, pow-le-pow_right}
use Rattle.std.proofs.lemmas.Bool.{cases_lt}
use Rattle.typed_numbers.specs.Intervals.{range_of, mantissa_by, below_by, shift_by, exponent_of, digits_of}
use Rattle.typed_numbers.specs.Rounding.{RoundsTo, units_of}
use Rattle.typed_numbers.specs.Laws.Values.{intervals_round, units_are}

pub below_two : (e d : ℕ) → below_by e d ≤ 2
below_two zero d = omega arith
below_two (suc zero) d = omega arith
below_two (suc (suc e)) zero = omega arith
below_two (suc (suc e)) (suc d) = omega arith

-- the interval reaches up no less than down
lopsided_by : (m b s : ℕ) → b ≤ 2 → 2 * (4 * (m * s)) ≤ (4 * m - b) * s + (4 * m + 2) * s
lopsided_by m b s h =
    let f : 4 * m ≤ 4 * m - b + 2 = omega arith in
    let g : s * (4 * m) ≤ s * (4 * m - b + 2) = mul-le-mul_left {m = 4 * m} {n = 4 * m - b + 2} s f in
    omega arith

pub lopsided : (bits : ℕ) → bits < 2047 * 2 ^ 52 → 2 * (4 * units_of bits) ≤ (range_of bits).low + (range_of bits).high
unfolding range_of
lopsided bits short = rw (units_are bits short)
    (lopsided_by (mantissa_by (exponent_of bits) (digits_of bits)) (below_by (exponent_of bits) (digits_of bits)) (2 ^ shift_by (exponent_of bits))
    (below_two (exponent_of bits) (digits_of bits)))

pub ends_few : (bits : ℕ) → (range_of bits).ends ≤ 1
unfolding range_of
ends_few bits = omega arith

pub scale_is : (bits : ℕ) → (range_of bits).scale ≡ 4 * 2 ^ 1074
unfolding range_of
scale_is bits = omega arith

-- ---- doubles up to 1

high_by : (e d : ℕ) → e ≤ 1022 → d < 2 ^ 52 → (4 * mantissa_by e d + 2) * 2 ^ shift_by e + 1 ≤ 4 * 2 ^ 1074
high_by zero d h short = omega arith
high_by (suc e) d h short =
    let f : 2 ^ e ≤ 2 ^ 1021 = pow-le-pow_right {n = 2} (omega arith) {i = e} {j = 1021} (omega arith) in
    let m : 4 * (2 ^ 52 + d) + 2 ≤ 2 ^ 55 - 2 = omega arith in
    let g : (4 * (2 ^ 52 + d) + 2) * 2 ^ e ≤ (2 ^ 55 - 2) * 2 ^ 1021 = mul-le-mul m f in
    omega arith

-- the interval of a double below 1 ends below 1
pub high_below : (bits : ℕ) → bits < 0x3ff0_0000_0000_0000 → (range_of bits).high + 1 ≤ 4 * 2 ^ 1074
unfolding range_of
high_below bits h = high_by (exponent_of bits) (digits_of bits) (omega arith) (omega arith)

units_below : (bits : ℕ) → bits < 0x3ff0_0000_0000_0000 → units_of bits ≤ 2 ^ 1074
units_below bits h =
    let e = exponent_of bits in
    let d = digits_of bits in
    let v = units_are bits (omega arith) in
    let f = high_by e d (omega arith) (omega arith) in
    omega (arith, v, f)

one_units : units_of 0x3ff0_0000_0000_0000 ≡ 2 ^ 1074
one_units = let v = units_are 0x3ff0_0000_0000_0000 (omega arith) in omega (arith, v)

pub units_at_most_one : (bits : ℕ) → bits ≤ 0x3ff0_0000_0000_0000 → units_of bits ≤ 2 ^ 1074
units_at_most_one bits h = elim (cases_lt bits 0x3ff0_0000_0000_0000) [
  | inl k ↦ units_below bits k
  | inr k ↦
      let same : bits ≡ 0x3ff0_0000_0000_0000 = omega arith in
      let one = one_units in
      subst (λ z. units_of z ≤ 2 ^ 1074) (sym same) (omega (arith, one))
]

-- what rounds to a double below 1 is at most 1
pub below_one : (bits n q : ℕ) → bits < 0x3ff0_0000_0000_0000 → 0 < q → RoundsTo bits n q → n ≤ q
below_one bits n q h hq k =
    let i = (intervals_round bits n q (omega arith) hq).1 k in
    let high = i.to_high in
    let few = ends_few bits in
    let top : q * ((range_of bits).high + 1) ≤ q * (4 * 2 ^ 1074) = mul-le-mul_left {m = (range_of bits).high + 1} {n = 4 * 2 ^ 1074} q (high_below bits h) in
    at_most n q ((range_of bits).high) (range_of bits).ends (range_of bits).scale few (scale_is bits) top high
  where
    at_most : (n q h v s : ℕ) → v ≤ 1 → s ≡ 4 * 2 ^ 1074 → q * (h + 1) ≤ q * (4 * 2 ^ 1074) → n * s < h * q + v → n ≤ q
    at_most n q h v s hv is top high =
        let e : n * s ≡ n * (4 * 2 ^ 1074) = ap (λ z. n * z) is in
        elim (cases_lt q n) [
          | inl k ↦ absurd (let f = mul-le-mul_left {m = suc q} {n = n} (4 * 2 ^ 1074) k in omega arith)
          | inr k ↦ k
        ]

-- 0 / 1 rounds to the double 0, and 1 / 1 to the double 1.
pub zero_rounds : RoundsTo 0 0 1
unfolding range_of
zero_rounds = (intervals_round 0 0 1 (omega arith) (omega arith)).0 (record { from_low = omega arith; to_high = omega arith })

pub one_rounds : RoundsTo 0x3ff0_0000_0000_0000 1 1
unfolding range_of
one_rounds = (intervals_round 0x3ff0_0000_0000_0000 1 1 (omega arith) (omega arith)).0 (record { from_low = omega arith; to_high = omega arith })

pub one_alone : (n : ℕ) → RoundsTo 0x3ff0_0000_0000_0000 n 1 → n ≡ 1
unfolding range_of
one_alone n k =
    let i = (intervals_round 0x3ff0_0000_0000_0000 n 1 (omega arith) (omega arith)).1 k in
    let low = i.from_low in
    let high = i.to_high in
    omega (arith, low, high)
