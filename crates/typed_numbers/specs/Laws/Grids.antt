-- A fraction is in the interval of a double exactly if it is rounded to it.
use Rattle.std.proofs.Common.{◌≡◌, ℕ, zero, suc, ◌+◌, ◌*◌, ◌-◌, ◌/◌, ◌%◌, ◌^◌, ◌<◌, ◌≤◌, ◌⊎◌, ap, arith, inl, inr, sym, refl, subst, ◌∙◌}
use Rattle.std.proofs.lemmas.Bool.{cases_lt}
use Rattle.std.proofs.lemmas.Nat.{pow-add, pow_pos, le-div, div_below}
use Rattle.std.proofs.Math.Nat.{mul-le-mul_left, mul-pos, pow-le-pow_right, div-mul-le_self, div-add-mod, mod-lt, eq_of_mul-eq-mul_right}
use lib.Ieee.{size, binary64}
use lib.Ieee.Nearest.{closest}
use lib.Ieee.Digits.{size-lt, size_reaches, size-le}
use lib.Ieee.Scale.{grid}
use Rattle.typed_numbers.specs.Intervals.{IsInside, range_by, below_of}
use Rattle.typed_numbers.specs.Laws.Nearest.{nearest_is, nearest_within}

-- how many digits are dropped
drop_is : (w s : ℕ) → 2 ^ 52 * 2 ^ s ≤ w → w < 2 ^ 53 * 2 ^ s → size w - 53 ≡ s
drop_is w s low high =
    let up : 2 ^ (53 + s) ≡ 2 ^ 53 * 2 ^ s = pow-add 2 53 s in
    let down : 2 ^ (52 + s) ≡ 2 ^ 52 * 2 ^ s = pow-add 2 52 s in
    let most : size w ≤ 53 + s = size-le w (53 + s) (omega arith) in
    elim (cases_lt (size w) (53 + s)) [
      | inl k ↦ absurd (
          let f = size-lt w in
          let g : 2 ^ size w ≤ 2 ^ (52 + s) = pow-le-pow_right {n = 2} (omega arith) {i = size w} {j = 52 + s} (omega arith) in
          omega arith)
      | inr k ↦ omega arith
    ]

grid_at : (n q s : ℕ) → size (n * 2 ^ 1074 / q) - 53 ≡ s → grid binary64 n q ≡ closest (n * 2 ^ 1074) (q * 2 ^ s) * 2 ^ s
grid_at n q s e = ap (λ k. closest (n * 2 ^ 1074) (q * 2 ^ k) * 2 ^ k) e

-- at a fraction whose whole part, in units, has 53 digits and s more
grid_in : (n q s m v : ℕ) → 0 < q → 2 ^ 52 * 2 ^ s * q ≤ n * 2 ^ 1074 → n * 2 ^ 1074 < 2 ^ 53 * 2 ^ s * q → v ≡ 1 - m % 2
    → 2 * (m * (q * 2 ^ s)) < 2 * (n * 2 ^ 1074) + q * 2 ^ s + v → 2 * (n * 2 ^ 1074) < 2 * (m * (q * 2 ^ s)) + q * 2 ^ s + v
    → grid binary64 n q ≡ m * 2 ^ s
grid_in n q s m v hq least most hv low high =
    let w = n * 2 ^ 1074 / q in
    let a : 2 ^ 52 * 2 ^ s ≤ w = le-div (2 ^ 52 * 2 ^ s) (n * 2 ^ 1074) q hq least in
    let b : w < 2 ^ 53 * 2 ^ s = div_below (n * 2 ^ 1074) q (2 ^ 53 * 2 ^ s) hq most in
    let some : 0 < q * 2 ^ s = mul-pos hq (pow_pos s) in
    grid_at n q s (drop_is w s a b) ∙ ap (λ z. z * 2 ^ s) (nearest_is (n * 2 ^ 1074) (q * 2 ^ s) m v some hv low high)

below_few : (d : ℕ) → below_of d ≤ 2
below_few zero = omega arith
below_few (suc d) = omega arith

-- a half of the last place down at most
half_down : (d p n v : ℕ) → (4 * (2 ^ 52 + d) - below_of d) * p < 4 * n + v → 4 * ((2 ^ 52 + d) * p) < 4 * n + 2 * p + v
half_down d p n v h =
    let b = below_few d in
    let whole : 4 * (2 ^ 52 + d) - below_of d + below_of d ≡ 4 * (2 ^ 52 + d) = omega arith in
    let f : (4 * (2 ^ 52 + d) - below_of d + below_of d) * p ≡ 4 * (2 ^ 52 + d) * p = ap (λ z. z * p) whole in
    let g : p * below_of d ≤ p * 2 = mul-le-mul_left {m = below_of d} {n = 2} p b in
    omega arith

forward_by : (e d n q v x y : ℕ) → 0 < q → v ≡ 1 - d % 2 → x ≡ n * 2 ^ 1074 → y ≡ 2 ^ e * q → d < 2 ^ 52
    → (4 * (2 ^ 52 + d) - below_of d) * (2 * y) < 4 * x + v → 4 * x < (4 * (2 ^ 52 + d) + 2) * (2 * y) + v
    → (x < 2 ^ 52 * (2 * y)) ⊎ (2 ^ 52 * (2 * y) ≤ x) → grid binary64 n q ≡ (2 ^ 52 + d) * 2 ^ suc e
forward_by e zero n q v x y hq hv ex ey short low high (inl k) =
    let power : 2 ^ suc e ≡ 2 * 2 ^ e = omega arith in
    let g = grid_in n q e (2 ^ 53) 1 hq (omega arith) (omega arith) (omega arith) (omega arith) (omega arith) in
    omega arith
forward_by e (suc d) n q v x y hq hv ex ey short low high (inl k) = absurd (let h = half_down (suc d) (2 * y) x v low in omega arith)
forward_by e d n q v x y hq hv ex ey short low high (inr k) =
    let m = 2 ^ 52 + d in
    let power : 2 ^ suc e ≡ 2 * 2 ^ e = omega arith in
    let unit : q * 2 ^ suc e ≡ 2 * y = let f = ap (λ z. q * z) power in omega arith in
    let times : m * (q * 2 ^ suc e) ≡ m * (2 * y) = ap (λ z. m * z) unit in
    let h = half_down d (2 * y) x v low in
    let least : 2 ^ 52 * 2 ^ suc e * q ≤ n * 2 ^ 1074 = omega arith in
    let wide : d * y ≤ (2 ^ 52 - 1) * y = let f = mul-le-mul_left {m = d} {n = 2 ^ 52 - 1} y (omega arith) in omega arith in
    let some : 0 < y = rw ey (mul-pos (pow_pos e) hq) in
    let most : n * 2 ^ 1074 < 2 ^ 53 * 2 ^ suc e * q = omega arith in
    grid_in n q (suc e) m v hq least most (omega arith) (omega arith) (omega arith)

pub forward : (e d n q : ℕ) → d < 2 ^ 52 → 0 < q → IsInside (range_by (suc (suc e)) d) n q → grid binary64 n q ≡ (2 ^ 52 + d) * 2 ^ suc e
forward e d n q short hq k =
    let v = 1 - d % 2 in
    let l = 4 * (2 ^ 52 + d) - below_of d in
    let power : 2 ^ suc e ≡ 2 * 2 ^ e = omega arith in
    let low : l * 2 ^ suc e * q < n * (4 * 2 ^ 1074) + v = k.from_low in
    let high : n * (4 * 2 ^ 1074) < (4 * (2 ^ 52 + d) + 2) * 2 ^ suc e * q + v = k.to_high in
    let el : l * 2 ^ suc e * q ≡ l * (2 * 2 ^ e) * q = ap (λ z. l * z * q) power in
    let eh : d * 2 ^ suc e * q ≡ d * (2 * 2 ^ e) * q = ap (λ z. d * z * q) power in
    let e1 : 2 ^ suc e * q ≡ 2 * 2 ^ e * q = ap (λ z. z * q) power in
    forward_by e d n q v (n * 2 ^ 1074) (2 ^ e * q) hq (omega arith) (omega arith) (omega arith) short
    (omega (arith, low, el)) (omega (arith, high, eh, e1)) (cases_lt (n * 2 ^ 1074) (2 ^ 52 * (2 * (2 ^ e * q))))

-- what is nearest has 53 digits, or is 2 ^ 53
record Rounded (x q k c : ℕ) : Type 0 where
  at_most : x < 2 ^ 53 * (q * 2 ^ k)
  at_least : 0 < k → 2 ^ 52 * (q * 2 ^ k) ≤ x
  low : 2 * (c * (q * 2 ^ k)) < 2 * x + q * 2 ^ k + (1 - c % 2)
  high : 2 * x < 2 * (c * (q * 2 ^ k)) + q * 2 ^ k + (1 - c % 2)

rounded : (x q k : ℕ) → 0 < q → k ≡ size (x / q) - 53 → Rounded x q k (closest x (q * 2 ^ k))
rounded x q k hq is =
    let w = x / q in
    let u = q * 2 ^ k in
    let some : 0 < u = mul-pos hq (pow_pos k) in
    let near = nearest_within x u (closest x u) (1 - closest x u % 2) some (omega arith) (omega arith) in
    let top : w < 2 ^ (53 + k) =
    let f = size-lt w in
    let g : 2 ^ size w ≤ 2 ^ (53 + k) = pow-le-pow_right {n = 2} (omega arith) {i = size w} {j = 53 + k} (omega arith) in
    omega arith in
    let split : 2 ^ (53 + k) ≡ 2 ^ 53 * 2 ^ k = pow-add 2 53 k in
    let most : q * suc w ≤ q * (2 ^ 53 * 2 ^ k) = mul-le-mul_left {m = suc w} {n = 2 ^ 53 * 2 ^ k} q (omega arith) in
    let over : x < q * w + q = let f = div-add-mod x q in let g = mod-lt x hq in omega arith in
    record {
      at_most = omega arith;
      at_least = λ h.
          let f : 2 ^ (52 + k) ≤ w = size_reaches w (52 + k) (omega arith) in
          let g : 2 ^ (52 + k) ≡ 2 ^ 52 * 2 ^ k = pow-add 2 52 k in
          let i : q * (2 ^ 52 * 2 ^ k) ≤ q * w = mul-le-mul_left {m = 2 ^ 52 * 2 ^ k} {n = w} q (omega arith) in
          let j = div-mul-le_self x q in
          omega arith;
      low = near.0;
      high = near.1;
    }

-- the rounded number is at most 2 ^ 53, and at least 2 ^ 52 if digits were dropped
not_large : (c u x v : ℕ) → 0 < u → v ≤ 1 → 2 * (c * u) < 2 * x + u + v → x < 2 ^ 53 * u → c ≤ 2 ^ 53
not_large c u x v hu hv low most = elim (cases_lt (2 ^ 53) c) [
  | inl k ↦ absurd (let f = mul-le-mul_left {m = suc (2 ^ 53)} {n = c} u k in omega arith)
  | inr k ↦ k
]

not_small : (c u x v : ℕ) → 0 < u → v ≤ 1 → 2 * x < 2 * (c * u) + u + v → 2 ^ 52 * u ≤ x → 2 ^ 52 ≤ c
not_small c u x v hu hv high least = elim (cases_lt c (2 ^ 52)) [
  | inl k ↦ absurd (let f = mul-le-mul_left {m = suc c} {n = 2 ^ 52} u k in omega arith)
  | inr k ↦ k
]

inside : (e d n q y : ℕ) → y ≡ 2 ^ e * q → (4 * (2 ^ 52 + d) - below_of d) * (2 * y) < 4 * (n * 2 ^ 1074) + (1 - d % 2)
    → 4 * (n * 2 ^ 1074) < (4 * (2 ^ 52 + d) + 2) * (2 * y) + (1 - d % 2) → IsInside (range_by (suc (suc e)) d) n q
inside e d n q y ey low high =
    let v = 1 - d % 2 in
    let l = 4 * (2 ^ 52 + d) - below_of d in
    let power : 2 ^ suc e ≡ 2 * 2 ^ e = omega arith in
    let unit : 2 ^ suc e * q ≡ 2 * y = let f = ap (λ z. z * q) power in omega arith in
    let el : l * (2 ^ suc e * q) ≡ l * (2 * y) = ap (λ z. l * z) unit in
    let eh : d * (2 ^ suc e * q) ≡ d * (2 * y) = ap (λ z. d * z) unit in
    record {
      from_low = low_of l (2 ^ suc e) q (n * (4 * 2 ^ 1074)) v (omega (arith, low, el));
      to_high = omega (arith, high, eh, unit);
    }
  where
    low_of : (l f q x v : ℕ) → l * (f * q) < x + v → l * f * q < x + v
    low_of l f q x v h = omega arith

-- k digits are dropped, and the double has the last place 2 ^ (e + 1).
at_place : (e d n q c : ℕ) → d < 2 ^ 52 → Rounded (n * 2 ^ 1074) q (suc e) c → c ≡ 2 ^ 52 + d → IsInside (range_by (suc (suc e)) d) n q
at_place e d n q c short r is =
    let power : 2 ^ suc e ≡ 2 * 2 ^ e = omega arith in
    let y = 2 ^ e * q in
    let unit : q * 2 ^ suc e ≡ 2 * y = let f = ap (λ z. q * z) power in omega arith in
    let m : c * (q * 2 ^ suc e) ≡ (2 ^ 52 + d) * (2 * y) = ap (λ z. z * (q * 2 ^ suc e)) is ∙ ap (λ z. (2 ^ 52 + d) * z) unit in
    let least : 2 ^ 52 * (q * 2 ^ suc e) ≤ n * 2 ^ 1074 = r.at_least (omega arith) in
    let low : 2 * ((2 ^ 52 + d) * (2 * y)) < 2 * (n * 2 ^ 1074) + 2 * y + (1 - d % 2) = omega (arith, r.low, m, unit, is) in
    let high : 2 * (n * 2 ^ 1074) < 2 * ((2 ^ 52 + d) * (2 * y)) + 2 * y + (1 - d % 2) = omega (arith, r.high, m, unit, is) in
    inside e d n q y (omega arith) (low_at d y (n * 2 ^ 1074) (omega (arith, least, unit)) low) (omega arith)
  where
    low_at : (d y x : ℕ) → 2 ^ 52 * (2 * y) ≤ x → 2 * ((2 ^ 52 + d) * (2 * y)) < 2 * x + 2 * y + (1 - d % 2)
        → (4 * (2 ^ 52 + d) - below_of d) * (2 * y) < 4 * x + (1 - d % 2)
    low_at zero y x least low = omega arith
    low_at (suc d) y x least low =
        let l = 4 * (2 ^ 52 + suc d) - below_of (suc d) in
        let b : below_of (suc d) ≡ 2 = refl in
        let whole : l + 2 ≡ 4 * (2 ^ 52 + suc d) = omega (arith, b) in
        let f : (l + 2) * (2 * y) ≡ 4 * (2 ^ 52 + suc d) * (2 * y) = ap (λ z. z * (2 * y)) whole in
        omega arith

-- One digit less is dropped: the fraction is below the power of 2 that it is rounded to.
one_less : (e d n q c : ℕ) → Rounded (n * 2 ^ 1074) q e c → c ≡ 2 ^ 53 → d ≡ 0 → IsInside (range_by (suc (suc e)) d) n q
one_less e (suc d) n q c r is none = absurd (omega arith)
one_less e zero n q c r is none =
    let y = 2 ^ e * q in
    let m : c * (q * 2 ^ e) ≡ 2 ^ 53 * (q * 2 ^ e) = ap (λ z. z * (q * 2 ^ e)) is in
    let most = r.at_most in
    let low : 2 * (2 ^ 53 * (q * 2 ^ e)) < 2 * (n * 2 ^ 1074) + q * 2 ^ e + 1 = omega (arith, r.low, m, is) in
    inside e zero n q y (omega arith) (omega arith) (omega arith)

rest : (j d c : ℕ) → c ≡ (2 ^ 52 + d) * (2 * 2 ^ j) → c ≤ 2 ^ 53 → (j ≡ 0) × (c ≡ 2 ^ 53) × (d ≡ 0)
rest zero d c f small = let g : c ≡ (2 ^ 52 + d) * 2 = f in (omega arith, omega arith, omega arith)
rest (suc j) d c f small = absurd (
    let some = pow_pos j in
    let m = mul-le-mul_left {m = 4} {n = 2 * 2 ^ suc j} (2 ^ 52 + d) (omega arith) in
    omega arith)

-- more than one digit less can't be dropped
fewer : (e j d n q k c : ℕ) → e ≡ j + k → d < 2 ^ 52 → 0 < q → Rounded (n * 2 ^ 1074) q k c → c * 2 ^ k ≡ (2 ^ 52 + d) * 2 ^ suc e
    → (e ≡ k) × (c ≡ 2 ^ 53) × (d ≡ 0)
fewer e j d n q k c is short hq r rounds =
    let m = 2 ^ 52 + d in
    let some : 0 < q * 2 ^ k = mul-pos hq (pow_pos k) in
    let small : c ≤ 2 ^ 53 = not_large c (q * 2 ^ k) (n * 2 ^ 1074) (1 - c % 2) some (omega arith) r.low r.at_most in
    let split : 2 ^ e ≡ 2 ^ j * 2 ^ k = ap (λ z. 2 ^ z) is ∙ pow-add 2 j k in
    let power : 2 ^ suc e ≡ 2 * (2 ^ j * 2 ^ k) = omega arith in
    let times : m * 2 ^ suc e ≡ m * (2 * (2 ^ j * 2 ^ k)) = ap (λ z. m * z) power in
    let all : c * 2 ^ k ≡ m * (2 * 2 ^ j) * 2 ^ k = omega arith in
    let factor : c ≡ m * (2 * 2 ^ j) = eq_of_mul-eq-mul_right (2 ^ k) (pow_pos k) c (m * (2 * 2 ^ j)) all in
    let w = rest j d c factor small in
    (omega (arith, w.0, is), w.1, w.2)

larger : (e j d n q k c : ℕ) → k ≡ suc j + suc e → d < 2 ^ 52 → 0 < q → Rounded (n * 2 ^ 1074) q k c → c * 2 ^ k ≡ (2 ^ 52 + d) * 2 ^ suc e → ⊥
larger e j d n q k c is short hq r rounds =
    let m = 2 ^ 52 + d in
    let some : 0 < q * 2 ^ k = mul-pos hq (pow_pos k) in
    let large : 2 ^ 52 ≤ c = not_small c (q * 2 ^ k) (n * 2 ^ 1074) (1 - c % 2) some (omega arith) r.high (r.at_least (omega arith)) in
    let split : 2 ^ k ≡ 2 ^ suc j * 2 ^ suc e = ap (λ z. 2 ^ z) is ∙ pow-add 2 (suc j) (suc e) in
    let times : c * 2 ^ k ≡ c * (2 ^ suc j * 2 ^ suc e) = ap (λ z. c * z) split in
    let all : c * 2 ^ suc j * 2 ^ suc e ≡ m * 2 ^ suc e = omega arith in
    let factor : c * 2 ^ suc j ≡ m = eq_of_mul-eq-mul_right (2 ^ suc e) (pow_pos (suc e)) (c * 2 ^ suc j) m all in
    let two : 2 ≤ 2 ^ suc j = let f = pow_pos j in omega arith in
    let up = mul-le-mul_left {m = 2} {n = 2 ^ suc j} c two in
    omega arith

backward_by : (e d n q k c : ℕ) → d < 2 ^ 52 → 0 < q → Rounded (n * 2 ^ 1074) q k c → c * 2 ^ k ≡ (2 ^ 52 + d) * 2 ^ suc e
    → (k < suc e) ⊎ (suc e ≤ k) → IsInside (range_by (suc (suc e)) d) n q
backward_by e d n q k c short hq r is (inl h) =
    let w = fewer e (e - k) d n q k c (omega arith) short hq r is in
    one_less e d n q c (subst (λ z. Rounded (n * 2 ^ 1074) q z c) (sym w.0) r) w.1 w.2
backward_by e d n q k c short hq r is (inr h) = elim (cases_lt (suc e) k) [
  | inl g ↦ absurd (larger e (k - suc (suc e)) d n q k c (omega arith) short hq r is)
  | inr g ↦
      let same : k ≡ suc e = omega arith in
      let r' : Rounded (n * 2 ^ 1074) q (suc e) c = subst (λ z. Rounded (n * 2 ^ 1074) q z c) same r in
      let times : c * 2 ^ k ≡ c * 2 ^ suc e = ap (λ z. c * 2 ^ z) same in
      at_place e d n q c short r' (eq_of_mul-eq-mul_right (2 ^ suc e) (pow_pos (suc e)) c (2 ^ 52 + d) (omega arith))
]

pub backward : (e d n q : ℕ) → d < 2 ^ 52 → 0 < q → grid binary64 n q ≡ (2 ^ 52 + d) * 2 ^ suc e → IsInside (range_by (suc (suc e)) d) n q
backward e d n q short hq is =
    let x = n * 2 ^ 1074 in
    let k = size (x / q) - 53 in
    backward_by e d n q k (closest x (q * 2 ^ k)) short hq (rounded x q k hq (omega arith)) is (cases_lt k (suc e))

-- ---- a double whose last place is 2 ^ -1074: no digit is dropped

-- half a last place around m, on both sides
pub record Around (m x q v : ℕ) : Type 0 where
  pub from_low : (4 * m - 2) * q < 4 * x + v
  pub to_high : 4 * x < (4 * m + 2) * q + v

half_below : (m x q v : ℕ) → v ≤ 1 → (4 * m - 2) * q < 4 * x + v → 2 * (m * q) < 2 * x + q + v
half_below zero x q v hv h = omega (arith, h)
half_below (suc m) x q v hv h =
    let whole : 4 * suc m - 2 + 2 ≡ 4 * suc m = omega arith in
    let f : (4 * suc m - 2 + 2) * q ≡ 4 * suc m * q = ap (λ z. z * q) whole in
    omega arith

below_half : (m x q v : ℕ) → v ≡ 1 - m % 2 → 2 * (m * q) < 2 * x + q + v → (4 * m - 2) * q < 4 * x + v
below_half zero x q v hv h = omega arith
below_half (suc m) x q v hv h =
    let whole : 4 * suc m - 2 + 2 ≡ 4 * suc m = omega arith in
    let f : (4 * suc m - 2 + 2) * q ≡ 4 * suc m * q = ap (λ z. z * q) whole in
    omega arith

pub forward_finest : (m n q v : ℕ) → m < 2 ^ 53 → 0 < q → v ≡ 1 - m % 2 → (4 * m - 2) * q < 4 * (n * 2 ^ 1074) + v → 4 * (n * 2 ^ 1074) < (4 * m + 2) * q + v
    → grid binary64 n q ≡ m
forward_finest m n q v short hq hv low high =
    let x = n * 2 ^ 1074 in
    let top : m * q ≤ (2 ^ 53 - 1) * q = let f = mul-le-mul_left {m = m} {n = 2 ^ 53 - 1} q (omega arith) in omega arith in
    let few : x / q < 2 ^ 53 = div_below x q (2 ^ 53) hq (omega arith) in
    let none : size (x / q) - 53 ≡ 0 = let f = size-le (x / q) 53 few in omega arith in
    let near : 2 * (m * q) < 2 * x + q + v = half_below m x q v (omega arith) low in
    let is : closest x (q * 2 ^ 0) ≡ m = nearest_is x (q * 2 ^ 0) m v (omega arith) hv (omega (arith, near)) (omega (arith, high)) in
    let at : grid binary64 n q ≡ closest x (q * 2 ^ 0) * 2 ^ 0 = grid_at n q 0 none in
    omega (arith, at, is)

pub backward_finest : (m n q v : ℕ) → m < 2 ^ 53 → 0 < q → v ≡ 1 - m % 2 → grid binary64 n q ≡ m → Around m (n * 2 ^ 1074) q v
backward_finest m n q v short hq hv is = by_dropped (size (n * 2 ^ 1074 / q) - 53) refl
  where
    by_dropped : (k : ℕ) → size (n * 2 ^ 1074 / q) - 53 ≡ k → Around m (n * 2 ^ 1074) q v
    by_dropped zero e =
        let x = n * 2 ^ 1074 in
        let at : grid binary64 n q ≡ closest x (q * 2 ^ 0) * 2 ^ 0 = grid_at n q 0 e in
        let same : closest x (q * 2 ^ 0) ≡ m = omega (arith, at, is) in
        let w = nearest_within x (q * 2 ^ 0) m v (omega arith) hv same in
        let low : 2 * (m * q) < 2 * x + q + v = omega (arith, w.0) in
        record { from_low = below_half m x q v hv low; to_high = omega (arith, w.1) }
    by_dropped (suc j) e = absurd (
        let x = n * 2 ^ 1074 in
        let c = closest x (q * 2 ^ suc j) in
        let r = rounded x q (suc j) hq (sym e) in
        let large : 2 ^ 52 ≤ c = not_small c (q * 2 ^ suc j) x (1 - c % 2) (mul-pos hq (pow_pos (suc j))) (omega arith) r.high (r.at_least (omega arith)) in
        let at : grid binary64 n q ≡ c * 2 ^ suc j = grid_at n q (suc j) e in
        let two : 2 ≤ 2 ^ suc j = let f = pow_pos j in omega arith in
        let up : c * 2 ≤ c * 2 ^ suc j = mul-le-mul_left {m = 2} {n = 2 ^ suc j} c two in
        omega (arith, at, is, large, up))
