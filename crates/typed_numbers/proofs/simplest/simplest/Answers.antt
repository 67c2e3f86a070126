use Rattle.std.proofs.Common.{ℕ, zero, suc, ◌+◌, ◌*◌, ◌^◌, ◌<◌, ◌≤◌, arith, inl, inr}
use Rattle.std.proofs.lemmas.Bool.{cases_lt}
use Rattle.std.proofs.lemmas.Nat.{one_shl}
use Rattle.std.proofs.Math.Nat.{mul-le-mul_left, mul-le-mul, pow-le-pow_right}
use Rattle.typed_numbers.specs.Intervals.{IsInside}
use Rattle.typed_numbers.specs.Searches.{IsInterval}
use Rattle.typed_numbers.proofs.simplest.simplest.Goals as goal

-- a fraction of a double below 2 ^ -14 has a large denominator
small : (places low middle high ends m p : ℕ) → IsInterval places low middle high ends → 68 < places → 0 < p
    → IsInside (record { scale = 2 ^ places; low = low; high = high; ends = ends }) m p → 10000 < p
small places low middle high ends zero p i tiny hp k = absurd (
    let f = mul-le-mul_left {m = 1} {n = p} low hp in
    let a : low * p < 0 * 2 ^ places + ends = k.from_low in
    let x : 2 ≤ low = i.some in
    let y : ends ≤ 1 = i.ends_few in
    omega arith)
small places low middle high ends (suc m) p i tiny hp k = elim (cases_lt 10000 p) [
  | inl h ↦ h
  | inr h ↦ absurd (
      let s : high + 1 ≤ 2 ^ 55 = i.short in
      let b : high ≤ 2 ^ 55 = omega arith in
      let f : high * p ≤ 2 ^ 55 * 10000 = mul-le-mul b h in
      let g : 2 ^ 69 ≤ 2 ^ places = pow-le-pow_right {n = 2} (omega arith) {i = 69} {j = places} tiny in
      let w = mul-le-mul_left {m = 1} {n = suc m} (2 ^ places) (omega arith) in
      let a : suc m * 2 ^ places < high * p + ends = k.to_high in
      let y : ends ≤ 1 = i.ends_few in
      omega arith)
]

pub returns-then-x-gt-MOST_PLACES-clause-none : goal.returns-then-x-gt-MOST_PLACES-clause-none
returns-then-x-gt-MOST_PLACES-clause-none c = λ is m p hp k.
    let x = c.args.x in
    small x.places x.low x.middle x.high x.ends m p x.valid c.if-x-gt-MOST_PLACES.true hp k

pub simplest_between-requires-clause-below_one : goal.simplest_between-requires-clause-below_one
simplest_between-requires-clause-below_one c =
    let i = c.args.x.valid in
    let e = one_shl c.args.x.places 128 (omega arith) in
    let f : 2 ^ 55 ≤ 2 ^ c.args.x.places = pow-le-pow_right {n = 2} (omega arith) {i = 55} {j = c.args.x.places} i.fine in
    omega arith

pub simplest_between-requires-clause-scale : goal.simplest_between-requires-clause-scale
simplest_between-requires-clause-scale c =
    let e = one_shl c.args.x.places 128 (omega arith) in
    let f : 2 ^ c.args.x.places ≤ 2 ^ 68 = pow-le-pow_right {n = 2} (omega arith) {i = c.args.x.places} {j = 68} c.if-x-gt-MOST_PLACES.false in
    omega arith
