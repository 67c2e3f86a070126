-- The interval of a double in quarters of its last place, and its decimals by powers of 5.
use Rattle.std.proofs.Common.{◌≡◌, ℕ, zero, suc, ◌+◌, ◌*◌, ◌-◌, ◌%◌, ◌^◌, ◌<◌, ◌≤◌, ap, arith, inl, inr, sym, ◌∙◌}
use Rattle.std.proofs.lemmas.Bool.{cases_lt}
use Rattle.std.proofs.lemmas.Nat.{pow-add, pow_pos, mul-pow}
use Rattle.std.proofs.Math.Nat.{mul-le-mul_left, mul-pos, eq_of_mul-eq-mul_right}
use Rattle.typed_numbers.specs.Intervals.{Range, IsInside, range_of, range_by, mantissa_by, below_by, shift_by, exponent_of, digits_of}
use Rattle.typed_numbers.specs.Rounding.{RoundsTo, units_of, distance}
use Rattle.typed_numbers.specs.Rules.{IsNearest}
use Rattle.typed_numbers.specs.Searches.{IsIntervalBy, IsIntervalOf, IsWithin, IsDecimalIn, IsNearestDecimal, gap}
use Rattle.typed_numbers.specs.Laws.Values.{intervals_round, units_are}
use Rattle.numerals.proofs.DigitNumbers.{power_some}

-- ---- a common factor of both sides

shorter : (x y e f : ℕ) → e ≤ 1 → 0 < f → x * f < y * f + e → x < y + e
shorter x y zero f u hf h = elim (cases_lt x y) [ inl k ↦ omega arith | inr k ↦ absurd (let m = mul-le-mul_left {m = y} {n = x} f k in omega arith) ]
shorter x y (suc zero) f u hf h = elim (cases_lt x (suc y)) [ inl k ↦ omega arith | inr k ↦ absurd (let m = mul-le-mul_left {m = suc y} {n = x} f k in omega arith) ]
shorter x y (suc (suc e)) f u hf h = absurd (omega arith)

longer : (x y e f : ℕ) → e ≤ 1 → 0 < f → x < y + e → x * f < y * f + e
longer x y zero f u hf h = let m = mul-le-mul_left {m = suc x} {n = y} f (omega arith) in omega arith
longer x y (suc zero) f u hf h = let m = mul-le-mul_left {m = x} {n = y} f (omega arith) in omega arith
longer x y (suc (suc e)) f u hf h = absurd (omega arith)

-- ---- from units of 2 ^ -1076 to units that are g * p times as large, and back

module _ (l h v p unit t g whole q n : ℕ) (few : v ≤ 1) (some : 0 < g * p) (split : q ≡ t * g) (units : unit * (g * p) ≡ whole) where
  coarse : IsInside (record { scale = whole; low = l * p; high = h * p; ends = v }) n q → IsWithin (l * t) (h * t) v unit n
  coarse k =
      let e : n * (unit * (g * p)) ≡ n * whole = ap (λ z. n * z) units in
      let a : l * p * q ≡ l * p * (t * g) = ap (λ z. l * p * z) split in
      let b : h * p * q ≡ h * p * (t * g) = ap (λ z. h * p * z) split in
      let low = k.from_low in
      let high = k.to_high in
      record {
        from_low = shorter (l * t) (n * unit) v (g * p) few some (omega (arith, low, e, a));
        to_high = shorter (n * unit) (h * t) v (g * p) few some (omega (arith, high, e, b));
      }

  fine : IsWithin (l * t) (h * t) v unit n → IsInside (record { scale = whole; low = l * p; high = h * p; ends = v }) n q
  fine k =
      let e : n * (unit * (g * p)) ≡ n * whole = ap (λ z. n * z) units in
      let a : l * p * q ≡ l * p * (t * g) = ap (λ z. l * p * z) split in
      let b : h * p * q ≡ h * p * (t * g) = ap (λ z. h * p * z) split in
      let low = longer (l * t) (n * unit) v (g * p) few some k.from_low in
      let high = longer (n * unit) (h * t) v (g * p) few some k.to_high in
      record { from_low = omega (arith, low, e, a); to_high = omega (arith, high, e, b) }

-- ---- the double's interval by the parts that the code has

abbrev by_parts : ℕ → ℕ → ℕ → ℕ → Range
by_parts e l h v = record { scale = 4 * 2 ^ 1074; low = l * 2 ^ shift_by e; high = h * 2 ^ shift_by e; ends = v }

to_parts : (e d places l m h v n q : ℕ) → IsIntervalBy e d places l m h v → IsInside (range_by e d) n q → IsInside (by_parts e l h v) n q
to_parts e d places l m h v n q i k =
    let a : 4 * mantissa_by e d - below_by e d ≡ l = let x = i.value in let y = i.down in omega arith in
    let b : 4 * mantissa_by e d + 2 ≡ h = let x = i.value in let y = i.up in omega arith in
    let c : v ≡ 1 - d % 2 = i.parity in
    let f : (4 * mantissa_by e d - below_by e d) * 2 ^ shift_by e * q ≡ l * 2 ^ shift_by e * q = ap (λ z. z * 2 ^ shift_by e * q) a in
    let g : (4 * mantissa_by e d + 2) * 2 ^ shift_by e * q ≡ h * 2 ^ shift_by e * q = ap (λ z. z * 2 ^ shift_by e * q) b in
    let low : (4 * mantissa_by e d - below_by e d) * 2 ^ shift_by e * q < n * (4 * 2 ^ 1074) + (1 - d % 2) = k.from_low in
    let high : n * (4 * 2 ^ 1074) < (4 * mantissa_by e d + 2) * 2 ^ shift_by e * q + (1 - d % 2) = k.to_high in
    record { from_low = joined _ _ _ _ _ f c low; to_high = joined' _ _ _ _ _ g c high }
  where
    joined : (x y z v w : ℕ) → x ≡ y → v ≡ w → x < z + w → y < z + v
    joined x y z v w e f h = omega arith

    joined' : (x y z v w : ℕ) → x ≡ y → v ≡ w → z < x + w → z < y + v
    joined' x y z v w e f h = omega arith

of_parts : (e d places l m h v n q : ℕ) → IsIntervalBy e d places l m h v → IsInside (by_parts e l h v) n q → IsInside (range_by e d) n q
of_parts e d places l m h v n q i k =
    let a : l ≡ 4 * mantissa_by e d - below_by e d = let x = i.value in let y = i.down in omega arith in
    let b : h ≡ 4 * mantissa_by e d + 2 = let x = i.value in let y = i.up in omega arith in
    let c : 1 - d % 2 ≡ v = sym i.parity in
    let f : l * 2 ^ shift_by e * q ≡ (4 * mantissa_by e d - below_by e d) * 2 ^ shift_by e * q = ap (λ z. z * 2 ^ shift_by e * q) a in
    let g : h * 2 ^ shift_by e * q ≡ (4 * mantissa_by e d + 2) * 2 ^ shift_by e * q = ap (λ z. z * 2 ^ shift_by e * q) b in
    let low : l * 2 ^ shift_by e * q < n * (4 * 2 ^ 1074) + v = k.from_low in
    let high : n * (4 * 2 ^ 1074) < h * 2 ^ shift_by e * q + v = k.to_high in
    record { from_low = joined _ _ _ _ _ f c low; to_high = joined' _ _ _ _ _ g c high }
  where
    joined : (x y z v w : ℕ) → x ≡ y → v ≡ w → x < z + w → y < z + v
    joined x y z v w e f h = omega arith

    joined' : (x y z v w : ℕ) → x ≡ y → v ≡ w → z < x + w → z < y + v
    joined' x y z v w e f h = omega arith

pub unit_at : (places j s : ℕ) → j ≤ places → places + s ≡ 1076 → 2 ^ (places - j) * (2 ^ j * 2 ^ s) ≡ 4 * 2 ^ 1074
unit_at places j s few is =
    let a : 2 ^ (places - j) * 2 ^ j ≡ 2 ^ places = sym (pow-add 2 (places - j) j) ∙ ap (λ z. 2 ^ z) (let e : places - j + j ≡ places = omega arith in e) in
    let b : 2 ^ places * 2 ^ s ≡ 2 ^ 1076 = sym (pow-add 2 places s) ∙ ap (λ z. 2 ^ z) is in
    let c : 2 ^ (places - j) * 2 ^ j * 2 ^ s ≡ 2 ^ places * 2 ^ s = ap (λ z. z * 2 ^ s) a in
    omega (arith, b, c)

whole_unit : (places s : ℕ) → places + s ≡ 1076 → 2 ^ places * (2 ^ 0 * 2 ^ s) ≡ 4 * 2 ^ 1074
whole_unit places s is = let b : 2 ^ places * 2 ^ s ≡ 2 ^ 1076 = sym (pow-add 2 places s) ∙ ap (λ z. 2 ^ z) is in omega (arith, b)

ten_split : (j : ℕ) → 10 ^ j ≡ 5 ^ j * 2 ^ j
ten_split j = mul-pow 5 2 j

parity_few : (d v : ℕ) → v ≡ 1 - d % 2 → v ≤ 1
parity_few d v e = omega arith

-- ---- distances

gap_times : (a b f : ℕ) → gap a b * f ≡ gap (a * f) (b * f)
gap_times a b f = elim (cases_lt a b) [
  | inl h ↦
      let w = b - a in
      let e : b ≡ a + w = omega arith in
      let g : gap a b ≡ w = omega arith in
      let x : gap a b * f ≡ w * f = ap (λ z. z * f) g in
      let y : b * f ≡ (a + w) * f = ap (λ z. z * f) e in
      omega arith
  | inr h ↦
      let w = a - b in
      let e : a ≡ b + w = omega arith in
      let g : gap a b ≡ w = omega arith in
      let x : gap a b * f ≡ w * f = ap (λ z. z * f) g in
      let y : a * f ≡ (b + w) * f = ap (λ z. z * f) e in
      omega arith
]

four_times : (a b c d : ℕ) → c ≡ 4 * a → d ≡ 4 * b → gap c d ≡ 4 * gap a b
four_times a b c d h k = omega arith

pub value_at : (m mantissa s j u : ℕ) → m ≡ 4 * mantissa → u ≡ mantissa * 2 ^ s → m * 5 ^ j * (2 ^ j * 2 ^ s) ≡ 4 * (u * 10 ^ j)
value_at m mantissa s j u is units =
    let a : m * (5 ^ j * (2 ^ j * 2 ^ s)) ≡ 4 * mantissa * (5 ^ j * (2 ^ j * 2 ^ s)) = ap (λ z. z * (5 ^ j * (2 ^ j * 2 ^ s))) is in
    let b : u * 10 ^ j ≡ mantissa * 2 ^ s * 10 ^ j = ap (λ z. z * 10 ^ j) units in
    let c : mantissa * 2 ^ s * 10 ^ j ≡ mantissa * 2 ^ s * (5 ^ j * 2 ^ j) = ap (λ z. mantissa * 2 ^ s * z) (ten_split j) in
    omega (arith, a, b, c)

pub number_at : (n unit f : ℕ) → unit * f ≡ 4 * 2 ^ 1074 → n * unit * f ≡ 4 * (n * 2 ^ 1074)
number_at n unit f is = let a : n * (unit * f) ≡ n * (4 * 2 ^ 1074) = ap (λ z. n * z) is in omega (arith, a)

-- ---- what rounds to a double, by its parts

module _ (bits places l m h v : ℕ) (finite : bits < 2047 * 2 ^ 52) (i : IsIntervalOf bits places l m h v) where
  few : v ≤ 1
  few = parity_few (digits_of bits) v i.parity

  pub rounds_in : (n q : ℕ) → 0 < q → RoundsTo bits n q → IsInside (record { scale = 2 ^ places; low = l; high = h; ends = v }) n q
  unfolding range_of
  rounds_in n q hq k =
      let s = shift_by (exponent_of bits) in
      let some : 0 < 2 ^ 0 * 2 ^ s = mul-pos (pow_pos 0) (pow_pos s) in
      let r = to_parts (exponent_of bits) (digits_of bits) places l m h v n q i ((intervals_round bits n q finite hq).1 k) in
      let w = coarse l h v (2 ^ s) (2 ^ places) q (2 ^ 0) (4 * 2 ^ 1074) q n few some (omega arith) (whole_unit places s i.unit) r in
      let low = w.from_low in
      let high = w.to_high in
      record { from_low = low; to_high = high }

  pub in_rounds : (n q : ℕ) → 0 < q → IsInside (record { scale = 2 ^ places; low = l; high = h; ends = v }) n q → RoundsTo bits n q
  unfolding range_of
  in_rounds n q hq k =
      let s = shift_by (exponent_of bits) in
      let some : 0 < 2 ^ 0 * 2 ^ s = mul-pos (pow_pos 0) (pow_pos s) in
      let w : IsWithin (l * q) (h * q) v (2 ^ places) n = record { from_low = k.from_low; to_high = k.to_high } in
      let r = fine l h v (2 ^ s) (2 ^ places) q (2 ^ 0) (4 * 2 ^ 1074) q n few some (omega arith) (whole_unit places s i.unit) w in
      (intervals_round bits n q finite hq).0 (of_parts (exponent_of bits) (digits_of bits) places l m h v n q i r)

  pub rounds_decimal : (n j : ℕ) → j ≤ places → RoundsTo bits n (10 ^ j) → IsDecimalIn places l h v j n
  unfolding range_of
  rounds_decimal n j hj k =
      let s = shift_by (exponent_of bits) in
      let some : 0 < 2 ^ j * 2 ^ s = mul-pos (pow_pos j) (pow_pos s) in
      let r = to_parts (exponent_of bits) (digits_of bits) places l m h v n (10 ^ j) i ((intervals_round bits n (10 ^ j) finite (power_some j)).1 k) in
      coarse l h v (2 ^ s) (2 ^ (places - j)) (5 ^ j) (2 ^ j) (4 * 2 ^ 1074) (10 ^ j) n few some (ten_split j) (unit_at places j s hj i.unit) r

  pub decimal_rounds : (n j : ℕ) → j ≤ places → IsDecimalIn places l h v j n → RoundsTo bits n (10 ^ j)
  unfolding range_of
  decimal_rounds n j hj k =
      let s = shift_by (exponent_of bits) in
      let some : 0 < 2 ^ j * 2 ^ s = mul-pos (pow_pos j) (pow_pos s) in
      let r = fine l h v (2 ^ s) (2 ^ (places - j)) (5 ^ j) (2 ^ j) (4 * 2 ^ 1074) (10 ^ j) n few some (ten_split j) (unit_at places j s hj i.unit) k in
      (intervals_round bits n (10 ^ j) finite (power_some j)).0 (of_parts (exponent_of bits) (digits_of bits) places l m h v n (10 ^ j) i r)

  distance_is : (n j : ℕ) → j ≤ places
      → gap (n * 2 ^ (places - j)) (m * 5 ^ j) * (2 ^ j * 2 ^ shift_by (exponent_of bits)) ≡ 4 * distance bits n (10 ^ j)
  distance_is n j hj =
      let s = shift_by (exponent_of bits) in
      let f = 2 ^ j * 2 ^ s in
      let a = number_at n (2 ^ (places - j)) f (unit_at places j s hj i.unit) in
      let b = value_at m (mantissa_by (exponent_of bits) (digits_of bits)) s j (units_of bits) i.value (units_are bits finite) in
      gap_times (n * 2 ^ (places - j)) (m * 5 ^ j) f
      ∙ four_times (n * 2 ^ 1074) (units_of bits * 10 ^ j) (n * 2 ^ (places - j) * f) (m * 5 ^ j * f) a b

  pub nearest_rounds : (n j : ℕ) → j ≤ places → IsNearestDecimal places l m h v j n → IsNearest bits n (10 ^ j)
  nearest_rounds n j hj k =
      let f = 2 ^ j * 2 ^ shift_by (exponent_of bits) in
      let some : 0 < f = mul-pos (pow_pos j) (pow_pos (shift_by (exponent_of bits))) in
      let gap_of = λ (z : ℕ). gap (z * 2 ^ (places - j)) (m * 5 ^ j) in
      record {
        rounds = decimal_rounds n j hj k.inside;
        nearest = λ z r.
            let g = k.nearest z (rounds_decimal z j hj r) in
            let x = mul-le-mul_left {m = gap_of n} {n = gap_of z} f g in
            nearer _ _ _ _ f (distance_is n j hj) (distance_is z j hj) x;
        even = λ z r tie.
            let e : gap_of z * f ≡ gap_of n * f = distance_is z j hj ∙ ap (λ d. 4 * d) tie ∙ sym (distance_is n j hj) in
            k.even z (rounds_decimal z j hj r) (eq_of_mul-eq-mul_right f some (gap_of z) (gap_of n) e);
      }
    where
      nearer : (a b c d f : ℕ) → a * f ≡ 4 * c → b * f ≡ 4 * d → f * a ≤ f * b → c ≤ d
      nearer a b c d f x y h = omega arith
