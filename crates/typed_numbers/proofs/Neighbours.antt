-- Neighbours a / b and c / d on two sides of an interval: cb = ad + 1.
use Rattle.std.proofs.Common.{◌≡◌, ℕ, zero, suc, ◌+◌, ◌*◌, ◌-◌, ◌/◌, ◌<◌, ◌≤◌, min, ap, arith, inl, inr}
use Rattle.std.proofs.lemmas.Bool.{cases_lt}
use Rattle.std.proofs.lemmas.Nat.{le-div}
use Rattle.std.proofs.Math.Nat.{mul-le-mul_left, div-mul-le_self}
use Rattle.typed_numbers.specs.Intervals.{Range, IsInside}

-- Of a fraction between neighbours the denominator is at least the sum of theirs.
between : (a b c d m p : ℕ) → c * b ≡ a * d + 1 → a * p < m * b → m * d < c * p → b + d ≤ p
between a b c d m p e low high =
    let f = mul-le-mul_left {m = suc (a * p)} {n = m * b} d (omega arith) in
    let g = mul-le-mul_left {m = suc (m * d)} {n = c * p} b (omega arith) in
    let h = ap (λ x. x * p) e in
    omega arith

not_above : (x y s : ℕ) → y ≤ x → y * s ≤ x * s
not_above x y s k = let m = mul-le-mul_left {m = y} {n = x} s k in omega arith

-- x < y, from the distances to an end between them
apart : (ends x y s b p : ℕ) → ends ≤ 1 → 0 < b → 0 < p → x * s + ends * p + b ≤ y * s + ends * b → x < y
apart zero x y s b p u hb hp h = elim (cases_lt x y) [ inl k ↦ k | inr k ↦ absurd (let m = not_above x y s k in omega arith) ]
apart (suc zero) x y s b p u hb hp h = elim (cases_lt x y) [ inl k ↦ k | inr k ↦ absurd (let m = not_above x y s k in omega arith) ]
apart (suc (suc e)) x y s b p u hb hp h = absurd (omega arith)

-- Of a fraction in an interval between neighbours the denominator is at least the sum of theirs.
pub all_wide : (r : Range) (a b c d : ℕ) → r.ends ≤ 1 → 0 < b → 0 < d → c * b ≡ a * d + 1
    → a * r.scale + r.ends ≤ r.low * b → r.high * d + r.ends ≤ c * r.scale
    → (m p : ℕ) → 0 < p → IsInside r m p → b + d ≤ p
all_wide r a b c d u hb hd e below above m p hp k =
    let low : r.low * p < m * r.scale + r.ends = k.from_low in
    let high : m * r.scale < r.high * p + r.ends = k.to_high in
    let f = mul-le-mul_left {m = a * r.scale + r.ends} {n = r.low * b} p below in
    let g = mul-le-mul_left {m = suc (r.low * p)} {n = m * r.scale + r.ends} b low in
    let v = mul-le-mul_left {m = r.high * d + r.ends} {n = c * r.scale} p above in
    let w = mul-le-mul_left {m = suc (m * r.scale)} {n = r.high * p + r.ends} d high in
    between a b c d m p e
    (apart r.ends (a * p) (m * b) r.scale b p u hb hp (omega arith))
    (apart r.ends (m * d) (c * p) r.scale d p u hd hp (omega arith))

-- A run to the right of a / b: k steps toward c / d, all that stay below low / scale.
pub run_below : (scale low ends a b c d k : ℕ) → a * scale + ends ≤ low * b → low * d ≤ c * scale
    → k ≤ (low * b - a * scale - ends) / (c * scale - low * d)
    → (a + k * c) * scale + ends ≤ low * (b + k * d)
run_below scale low ends a b c d k below order most =
    let x = c * scale - low * d in
    let y = low * b - a * scale - ends in
    let up : k * x ≤ y = let f = mul-le-mul_left {m = k} {n = y / x} x most in let g = div-mul-le_self y x in omega arith in
    let e : k * (x + low * d) ≡ k * (c * scale) = ap (λ z. k * z) (omega arith) in
    omega arith

-- A run to the left of c / d: k steps toward a / b, all that stay above high / scale.
pub run_above : (scale high ends a b c d k : ℕ) → high * d + ends ≤ c * scale → a * scale ≤ high * b
    → k ≤ (c * scale - high * d - ends) / (high * b - a * scale)
    → high * (d + k * b) + ends ≤ (c + k * a) * scale
run_above scale high ends a b c d k above order most =
    let x = high * b - a * scale in
    let y = c * scale - high * d - ends in
    let up : k * x ≤ y = let f = mul-le-mul_left {m = k} {n = y / x} x most in let g = div-mul-le_self y x in omega arith in
    let e : k * (x + a * scale) ≡ k * (high * b) = ap (λ z. k * z) (omega arith) in
    omega arith

-- A run has a step if one step stays on its side.
pub some_step : (x y : ℕ) → 0 < x → x ≤ y → 0 < y / x
some_step x y hx h = le-div 1 y x hx (omega arith)

pub few : (k d l : ℕ) → k ≤ l → d ≤ l → l ≤ 16384 → k * d ≤ 268435456
few k d l hk hd hl =
    let f = mul-le-mul_left {m = k} {n = 16384} d (omega arith) in
    omega arith

-- a product of a number up to 2 ^ 14 and one up to 2 ^ 70
pub product_short : (n s : ℕ) → n ≤ 16384 → s ≤ 1180591620717411303424 → n * s ≤ 19342813113834066795298816
product_short n s hn hs =
    let f = mul-le-mul_left {m = n} {n = 16384} s hn in
    omega arith

-- what is above the upper end is above the lower one
pub over : (scale low high ends c d : ℕ) → low < high → 0 < d → high * d + ends ≤ c * scale → low * d < c * scale
over scale low high ends c d order some above =
    let f = mul-le-mul_left {m = suc low} {n = high} d order in
    omega arith

-- what is below the lower end is below the upper one
pub under : (scale low high ends a b : ℕ) → low < high → 0 < b → a * scale + ends ≤ low * b → a * scale < high * b
under scale low high ends a b order some below =
    let f = mul-le-mul_left {m = suc low} {n = high} b order in
    omega arith

pub min_left : (k x y : ℕ) → k ≡ min x y → k ≤ x
min_left k x y e = omega arith

pub min_right : (k x y : ℕ) → k ≡ min x y → k ≤ y
min_right k x y e = omega arith

pub min_some : (k x y : ℕ) → k ≡ min x y → 0 < x → 0 < y → 0 < k
min_some k x y e hx hy = omega arith
