use Rattle.std.proofs.Common.{◌≡◌, ℕ, ◌*◌, ◌%◌, ◌^◌, ◌≤◌, arith, ap}
use Rattle.std.proofs.lemmas.Nat.{mul-pow}
use Rattle.std.proofs.Math.Nat.{pow-le-pow_right}
use Rattle.typed_numbers.proofs.decimals.shortest.Goals as goal

-- 5 ^ j shifted by j places is 10 ^ j
power_of_ten : (j five : ℕ) → j ≤ 30 → five ≡ 5 ^ j → (five * 2 ^ j) % 340282366920938463463374607431768211456 ≡ 10 ^ j
power_of_ten j five few is =
    let a : 10 ^ j ≡ 5 ^ j * 2 ^ j = mul-pow 5 2 j in
    let b : five * 2 ^ j ≡ 5 ^ j * 2 ^ j = ap (λ z. z * 2 ^ j) is in
    let c : 10 ^ j ≤ 10 ^ 30 = pow-le-pow_right {n = 10} (omega arith) {i = j} {j = 30} few in
    omega arith

pub returns-in-Some-clause-found : goal.returns-in-Some-clause-found
returns-in-Some-clause-found c =
    let i = c.loop-digits.invariant in
    let few : c.loop-digits.digits ≤ 30 = omega arith in
    record {
      digits = c.loop-digits.digits;
      power = power_of_ten c.loop-digits.digits c.loop-digits.five few i.power;
      within = few;
      fewest = i.none;
      nearest = c.in-Some.ensures.found;
    }

pub overflow_mul-five : goal.overflow_mul-five
overflow_mul-five c =
    let i = c.loop-digits.invariant in
    let few : c.loop-digits.digits ≤ 30 = omega arith in
    let f : 5 ^ c.loop-digits.digits ≤ 5 ^ 30 = pow-le-pow_right {n = 5} (omega arith) {i = c.loop-digits.digits} {j = 30} few in
    omega arith
