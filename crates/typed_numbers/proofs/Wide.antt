-- Products of an interval and a power of 5, and units wider than they are.
use Rattle.std.proofs.Common.{◌≡◌, ℕ, zero, suc, ◌+◌, ◌*◌, ◌-◌, ◌%◌, ◌^◌, ◌<◌, ◌≤◌, arith, ap}
use Rattle.std.proofs.lemmas.Nat.{one_shl}
use Rattle.std.proofs.Math.Nat.{mul-le-mul, mul-le-mul_left, pow-le-pow_right}
use Rattle.typed_numbers.specs.Searches.{IsInterval, IsDecimalIn, IsLeastAbove}

pub five_some : (j : ℕ) → 0 < 5 ^ j
five_some zero = omega arith
five_some (suc j) = let f = five_some j in omega arith

five_few : (j : ℕ) → j ≤ 30 → 5 ^ j ≤ 5 ^ 30
five_few j h = pow-le-pow_right {n = 5} (omega arith) {i = j} {j = 30} h

-- a product of a number below 2 ^ 55 with a power of 5 is below 2 ^ 125
pub product_short : (n j five : ℕ) → n ≤ 2 ^ 55 → j ≤ 30 → five ≡ 5 ^ j → n * five < 2 ^ 125
product_short n j five h k is =
    let f : 5 ^ j ≤ 5 ^ 30 = five_few j k in
    let g : n * 5 ^ j ≤ 2 ^ 55 * 5 ^ 30 = mul-le-mul h f in
    let e : n * five ≡ n * 5 ^ j = ap (λ z. n * z) is in
    omega arith

pub shifted : (k : ℕ) → k ≤ 125 → (1 * 2 ^ k) % 340282366920938463463374607431768211456 ≤ 2 ^ 125
shifted k h =
    let e = one_shl k 128 (omega arith) in
    let f : 2 ^ k ≤ 2 ^ 125 = pow-le-pow_right {n = 2} (omega arith) {i = k} {j = 125} h in
    omega arith

-- no multiple of a unit above 2 ^ 125 is in an interval
pub too_wide : (places low middle high ends j m : ℕ) → IsInterval places low middle high ends → j ≤ 30 → 125 < places - j → IsDecimalIn places low high ends j m → ⊥
too_wide places low middle high ends j zero i hj wide k =
    let some = five_some j in
    let f = mul-le-mul_left {m = 1} {n = 5 ^ j} low some in
    let a : low * 5 ^ j < 0 * 2 ^ (places - j) + ends = k.from_low in
    let x : 2 ≤ low = i.some in
    let y : ends ≤ 1 = i.ends_few in
    omega arith
too_wide places low middle high ends j (suc m) i hj wide k =
    let s : high + 1 ≤ 2 ^ 55 = i.short in
    let f = product_short high j (5 ^ j) (omega arith) hj (omega arith) in
    let g : 2 ^ 126 ≤ 2 ^ (places - j) = pow-le-pow_right {n = 2} (omega arith) {i = 126} {j = places - j} wide in
    let h = mul-le-mul_left {m = 1} {n = suc m} (2 ^ (places - j)) (omega arith) in
    let a : suc m * 2 ^ (places - j) < high * 5 ^ j + ends = k.to_high in
    let y : ends ≤ 1 = i.ends_few in
    omega arith

-- one such unit is the least that is not below the middle
pub one_above : (places low middle high ends : ℕ) → IsInterval places low middle high ends → 125 < places - 30 → IsLeastAbove places middle 1
one_above places low middle high ends i wide =
    let a : low < middle = i.below in
    let b : high ≡ middle + 2 = i.above in
    let s : high + 1 ≤ 2 ^ 55 = i.short in
    let g : 2 ^ 126 ≤ 2 ^ (places - 30) = pow-le-pow_right {n = 2} (omega arith) {i = 126} {j = places - 30} wide in
    record { above = omega arith; least = λ m h. some m h }
  where
    some : (m : ℕ) → middle * 5 ^ 30 ≤ m * 2 ^ (places - 30) → 1 ≤ m
    some zero h = absurd (let a : low < middle = i.below in omega arith)
    some (suc m) h = omega arith
