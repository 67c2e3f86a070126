-- Doubles by their values.
use Rattle.std.proofs.Common.{◌≡◌, ◌↔◌, ℕ, zero, suc, ◌+◌, ◌*◌, ◌-◌, ◌/◌, ◌%◌, ◌^◌, ◌<◌, ◌≤◌, ap, arith, true, false, ◌∙◌}
use Rattle.std.proofs.Math.Nat.{mul-pos, pow-le-pow_right, eq_of_mul-eq-mul_right, mul-le-mul, mul-div_cancel}
use Rattle.std.proofs.lemmas.Nat.{pow_pos}
use mathlib.Core.Bool.{Bool, cond}
use lib.Dec.{T, eqb, eqb→eq, leb, leb→le}
use lib.Ieee.{Float, nan, inf, fin, binary64, up, down, eq, round, of_bits, of_fields, odd}
use lib.Ieee.Fits.{and_i, and_l, eq→eqb, down_pos}
use lib.Ieee.Exact.{HasValue, odd_sign}
use lib.Ieee.Scale.{grid, finite, round_val, round_under}
use Rattle.typed_numbers.specs.Intervals.{IsInside, range_of, range_by, mantissa_by, shift_by, exponent_of, digits_of}
use Rattle.typed_numbers.specs.Rounding.{RoundsTo, units, units_of}
use Rattle.typed_numbers.specs.Laws.Grids.{forward, backward, forward_finest, backward_finest}

cross : (a b c u v x y : ℕ) → 0 < c → 0 < u → 0 < v → x * c ≡ a * u → y * c ≡ b * v → (x * v ≡ y * u) ↔ (a ≡ b)
cross a b c u v x y hc hu hv e f = (
  λ g. eq_of_mul-eq-mul_right (u * v) (mul-pos hu hv) a b (
      let p = ap (λ z. z * v) e in let q = ap (λ z. z * u) f in let r = ap (λ z. z * c) g in omega arith),
  λ g. eq_of_mul-eq-mul_right c hc (x * v) (y * u) (
      let p = ap (λ z. z * v) e in let q = ap (λ z. z * u) f in let r = ap (λ z. z * u * v) g in omega arith),
)

-- two finite numbers with the same sign are equal exactly if their values are
equal_values : (x y : Float) (a b c : ℕ) → 0 < c → HasValue x false a c → HasValue y false b c → T (eq x y) ↔ (a ≡ b)
unfolding eq
equal_values nan y a b c hc h k = absurd h
equal_values (inf s) y a b c hc h k = absurd h
equal_values (fin s m e) nan a b c hc h k = absurd k
equal_values (fin s m e) (inf t) a b c hc h k = absurd k
equal_values (fin true m e) (fin t n d) a b c hc h k = absurd (let z = h.0 in cc)
equal_values (fin false m e) (fin true n d) a b c hc h k = absurd (let z = k.0 in cc)
equal_values (fin false m e) (fin false n d) a b c hc h k =
    let w = cross a b c (down e) (down d) (m * up e) (n * up d) hc (down_pos e) (down_pos d) h.1 k.1 in
    (λ t. w.0 (eqb→eq (m * up e * down d) (n * up d * down e) (and_l _ _ t)), λ g. and_i _ _ (eq→eqb (w.1 g)) tt)

equal-finite : (x y : Float) (b c : ℕ) → HasValue y false b c → T (eq x y) → T (finite x)
unfolding eq
equal-finite nan y b c k t = t
equal-finite (inf s) nan b c k t = absurd k
equal-finite (inf s) (inf u) b c k t = absurd k
equal-finite (inf s) (fin u m e) b c k t = t
equal-finite (fin s m e) y b c k t = tt

pub fields_value : (s : Bool) (e d : ℕ) → e < 2047 → HasValue (of_fields binary64 s e d) s (mantissa_by e d * 2 ^ shift_by e) (2 ^ 1074)
unfolding of_fields
fields_value s zero d h = odd_sign 53 s d 0 1074
fields_value s (suc e) d h = go (eqb (suc e) 2047) (λ t. let f = eqb→eq (suc e) 2047 t in omega arith)
  where
    go : (b : Bool) → (T b → ⊥) → HasValue (cond b (cond (eqb d 0) (inf s) nan) (odd 53 s (2 ^ 52 + d) e 1074)) s ((2 ^ 52 + d) * 2 ^ e) (2 ^ 1074)
    go true h = absurd (h tt)
    go false h = odd_sign 53 s (2 ^ 52 + d) e 1074

-- the value of a finite double without a sign, by its fields
pub bits_value : (bits : ℕ) → bits < 2047 * 2 ^ 52
    → HasValue (of_bits binary64 bits) false (mantissa_by (exponent_of bits) (digits_of bits) * 2 ^ shift_by (exponent_of bits)) (2 ^ 1074)
unfolding of_bits
bits_value bits short = go (leb (2 ^ 63) bits) (λ t. let f = leb→le (2 ^ 63) bits t in omega arith)
  where
    go : (s : Bool) → (T s → ⊥) → HasValue (of_fields binary64 s (bits % 2 ^ 63 / 2 ^ 52) (bits % 2 ^ 52)) false
        (mantissa_by (exponent_of bits) (digits_of bits) * 2 ^ shift_by (exponent_of bits)) (2 ^ 1074)
    go true h = absurd (h tt)
    go false h =
        let same : bits % 2 ^ 63 / 2 ^ 52 ≡ bits / 2 ^ 52 = omega arith in
        rw same (fields_value false (bits / 2 ^ 52) (bits % 2 ^ 52) (omega arith))

value_units : (x : Float) (a : ℕ) → HasValue x false a (2 ^ 1074) → units x ≡ a
value_units nan a h = absurd h
value_units (inf s) a h = absurd h
value_units (fin s m e) a h = ap (λ z. z / down e) h.1 ∙ mul-div_cancel a (down_pos e)

pub units_are : (bits : ℕ) → bits < 2047 * 2 ^ 52 → units_of bits ≡ mantissa_by (exponent_of bits) (digits_of bits) * 2 ^ shift_by (exponent_of bits)
unfolding units_of
units_are bits short = value_units (of_bits binary64 bits) (mantissa_by (exponent_of bits) (digits_of bits) * 2 ^ shift_by (exponent_of bits)) (bits_value bits short)

-- the rounded value in units of 2 ^ -1074, which is that of the double exactly for fractions in its interval
pub grid_of : (e d n q : ℕ) → d < 2 ^ 52 → 0 < q → IsInside (range_by e d) n q ↔ (grid binary64 n q ≡ mantissa_by e d * 2 ^ shift_by e)
grid_of zero d n q short hq = (
  λ k. let g = forward_finest d n q (1 - d % 2) (omega arith) hq (omega arith) (omega (arith, k.from_low)) (omega (arith, k.to_high)) in omega (arith, g),
  λ e. let r = backward_finest d n q (1 - d % 2) (omega arith) hq (omega arith) (omega (arith, e)) in
      record { from_low = omega (arith, r.from_low); to_high = omega (arith, r.to_high) },
)
grid_of (suc zero) d n q short hq = (
  λ k. let g = forward_finest (2 ^ 52 + d) n q (1 - d % 2) (omega arith) hq (omega arith) (omega (arith, k.from_low)) (omega (arith, k.to_high)) in
      omega (arith, g),
  λ e. let r = backward_finest (2 ^ 52 + d) n q (1 - d % 2) (omega arith) hq (omega arith) (omega (arith, e)) in
      record { from_low = omega (arith, r.from_low); to_high = omega (arith, r.to_high) },
)
grid_of (suc (suc e)) d n q short hq = (λ k. forward e d n q short hq k, λ g. backward e d n q short hq g)

small_mantissa : (e d : ℕ) → d < 2 ^ 52 → mantissa_by e d ≤ 2 ^ 53 - 1
small_mantissa zero d h = omega arith
small_mantissa (suc e) d h = omega arith

small_shift : (e : ℕ) → e < 2047 → shift_by e ≤ 2045
small_shift zero h = omega arith
small_shift (suc e) h = omega arith

by_fields : (e d n q : ℕ) (y : Float) → e < 2047 → d < 2 ^ 52 → 0 < q → HasValue y false (mantissa_by e d * 2 ^ shift_by e) (2 ^ 1074)
    → IsInside (range_by e d) n q ↔ T (eq (round binary64 false n q) y)
by_fields e d n q y he hd hq hy =
    let v = mantissa_by e d * 2 ^ shift_by e in
    let x = round binary64 false n q in
    let w = grid_of e d n q hd hq in
    let top : 2 ^ shift_by e ≤ 2 ^ 2045 = pow-le-pow_right {n = 2} (omega arith) {i = shift_by e} {j = 2045} (small_shift e he) in
    let all : v ≤ (2 ^ 53 - 1) * 2 ^ 2045 = mul-le-mul (small_mantissa e d hd) top in (
      λ k. let g = w.0 k in
          let hx = round_val binary64 n q (small (grid binary64 n q) v g all) in
          (equal_values x y (grid binary64 n q) v (2 ^ 1074) (pow_pos 1074) hx hy).1 g,
      λ t. let f = equal-finite x y v (2 ^ 1074) hy t in
          let hx = round_val binary64 n q (round_under binary64 n q f) in
          w.1 ((equal_values x y (grid binary64 n q) v (2 ^ 1074) (pow_pos 1074) hx hy).0 t),
    )
  where
    small : (g v : ℕ) → g ≡ v → v ≤ (2 ^ 53 - 1) * 2 ^ 2045 → g < 2 ^ 2098
    small g v e h = omega arith

pub intervals_round : (bits n q : ℕ) → bits < 2047 * 2 ^ 52 → 0 < q → IsInside (range_of bits) n q ↔ RoundsTo bits n q
unfolding range_of RoundsTo
intervals_round bits n q most hq = by_fields (exponent_of bits) (digits_of bits) n q (of_bits binary64 bits) (omega arith) (omega arith) hq (bits_value bits most)
