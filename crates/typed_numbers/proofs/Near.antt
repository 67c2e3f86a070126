-- What a double is read as rounds to it, or is just above it.
use Rattle.std.proofs.Common.{◌≡◌, ℕ, zero, suc, ◌*◌, ◌-◌, ◌^◌, ◌<◌, ◌≤◌, ◌⊎◌, arith, inl, inr}
use Rattle.std.proofs.lemmas.Bool.{cases_lt}
use Rattle.typed_numbers.specs.Promises.{IsJustAbove}
use Rattle.typed_numbers.specs.Rounding.{RoundsTo, units_of}
use Rattle.typed_numbers.specs.Rules.{IsReadAs, IsRoundedUp, simplest, shortest, rounded_up}

less_than_one : (u n s : ℕ) → 0 < s → u ≤ n * s → ((m : ℕ) → u ≤ m * s → n ≤ m) → n * s - u < s
less_than_one u zero s some above least = omega arith
less_than_one u (suc n) s some above least = elim (cases_lt (n * s) u) [
  | inl k ↦ omega arith
  | inr k ↦ absurd (let f : suc n ≤ n = least n k in omega arith)
]

just_above : (bits n q : ℕ) → IsRoundedUp bits n q → IsJustAbove bits n q
just_above bits n q k =
    let is : q ≡ 10 ^ 30 = k.power in
    let above : units_of bits * q ≤ n * 2 ^ 1074 = k.above in
    let f = less_than_one (units_of bits * q) n (2 ^ 1074) (omega arith) above k.least in
    record { not_below = above; near = omega (arith, f, is) }

pub near : (bits n q : ℕ) → IsReadAs bits n q → RoundsTo bits n q ⊎ IsJustAbove bits n q
near bits n q (simplest k) = inl k.rounds
near bits n q (shortest none k) = inl k.nearest.rounds
near bits n q (rounded_up none no_decimal k) = inr (just_above bits n q k)
