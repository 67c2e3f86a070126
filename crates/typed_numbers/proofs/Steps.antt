-- What each step of a reading finds is what the rules say.
use Rattle.std.proofs.Common.{◌≡◌, ℕ, suc, ◌*◌, ◌-◌, ◌^◌, ◌<◌, ◌≤◌, arith, inl, inr, sym, subst, refl}
use Rattle.std.proofs.lemmas.Bool.{cases_lt}
use Rattle.std.proofs.lemmas.Nat.{pow_pos}
use Rattle.std.proofs.Math.Nat.{mul-le-mul_left, mul-pos}
use Rattle.typed_numbers.specs.Intervals.{mantissa_by, shift_by, exponent_of, digits_of}
use Rattle.typed_numbers.specs.Rounding.{units_of}
use Rattle.typed_numbers.specs.Rules.{IsSimplest, HasNoSimple, IsNearest, IsShortest, HasNoDecimal, IsRoundedUp, IsReadAs, simplest}
use Rattle.typed_numbers.specs.Searches.{IsIntervalOf, IsSimplestIn, HasNoneIn, IsShortestIn, HasNoDecimalIn, IsLeastAbove}
use Rattle.typed_numbers.specs.Laws.Values.{units_are}
use Rattle.typed_numbers.specs.Laws.Doubles.{zero_rounds, one_rounds}
use Rattle.typed_numbers.proofs.Quarters.{rounds_in, in_rounds, rounds_decimal, nearest_rounds, unit_at, value_at, number_at}

pub zero_read : IsReadAs 0 0 1
zero_read = simplest (record { some = omega arith; within = omega arith; rounds = zero_rounds; least = λ m p hp k. hp })

pub one_read : IsReadAs 0x3ff0_0000_0000_0000 1 1
one_read = simplest (record { some = omega arith; within = omega arith; rounds = one_rounds; least = λ m p hp k. hp })

module _ (bits places l m h v : ℕ) (finite : bits < 2047 * 2 ^ 52) (fine : 30 ≤ places) (i : IsIntervalOf bits places l m h v) where
  pub simplest_is : (n q : ℕ) → IsSimplestIn (record { scale = 2 ^ places; low = l; high = h; ends = v }) 10000 n q → IsSimplest bits n q
  simplest_is n q k = record {
    some = k.some;
    within = k.within;
    rounds = in_rounds bits places l m h v finite i n q k.some k.inside;
    least = λ z p hp r. k.least z p hp (rounds_in bits places l m h v finite i z p hp r);
  }

  pub none_is_simple : HasNoneIn (record { scale = 2 ^ places; low = l; high = h; ends = v }) 10000 → HasNoSimple bits
  none_is_simple none = λ z p hp r. none z p hp (rounds_in bits places l m h v finite i z p hp r)

  pub shortest_is : (n q : ℕ) → IsShortestIn places l m h v n q → IsShortest bits n q
  shortest_is n q k =
      let few : k.digits ≤ 30 = k.within in
      record {
        places = k.digits;
        power = k.power;
        within = k.within;
        fewest = λ z j r. elim (cases_lt j k.digits) [
          | inl g ↦ absurd (k.fewest z j g (rounds_decimal bits places l m h v finite i z j (omega arith) r))
          | inr g ↦ g
        ];
        nearest = subst (λ z. IsNearest bits n z) (sym k.power) (nearest_rounds bits places l m h v finite i n k.digits (omega arith) k.nearest);
      }

  pub none_is_decimal : HasNoDecimalIn places l h v → HasNoDecimal bits
  none_is_decimal none = λ z j r. elim (cases_lt 30 j) [
    | inl g ↦ g
    | inr g ↦ absurd (none z j g (rounds_decimal bits places l m h v finite i z j (omega arith) r))
  ]

  pub rounded_up_is : (n : ℕ) → IsLeastAbove places m n → IsRoundedUp bits n (10 ^ 30)
  rounded_up_is n k =
      let s = shift_by (exponent_of bits) in
      let f = 2 ^ 30 * 2 ^ s in
      let some : 0 < f = mul-pos (pow_pos 30) (pow_pos s) in
      let value = value_at m (mantissa_by (exponent_of bits) (digits_of bits)) s 30 (units_of bits) i.value (units_are bits finite) in
      let unit = unit_at places 30 s fine i.unit in
      record {
        power = refl;
        above =
            let a = number_at n (2 ^ (places - 30)) f unit in
            let b = mul-le-mul_left {m = m * 5 ^ 30} {n = n * 2 ^ (places - 30)} f k.above in
            above_is (m * 5 ^ 30) (n * 2 ^ (places - 30)) f (units_of bits * 10 ^ 30) (n * 2 ^ 1074) value a b;
        least = λ z g.
            let a = number_at z (2 ^ (places - 30)) f unit in
            k.least z (not_below (m * 5 ^ 30) (z * 2 ^ (places - 30)) f (units_of bits * 10 ^ 30) (z * 2 ^ 1074) some value a g);
      }
    where
      above_is : (a b f c d : ℕ) → a * f ≡ 4 * c → b * f ≡ 4 * d → f * a ≤ f * b → c ≤ d
      above_is a b f c d x y g = omega arith

      not_below : (a b f c d : ℕ) → 0 < f → a * f ≡ 4 * c → b * f ≡ 4 * d → c ≤ d → a ≤ b
      not_below a b f c d some x y g = elim (cases_lt b a) [
        | inl h ↦ absurd (let w = mul-le-mul_left {m = suc b} {n = a} f h in omega arith)
        | inr h ↦ h
      ]
