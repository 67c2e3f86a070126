-- Each double from 0 to 1 has a reading.
use Rattle.std.proofs.Common.{◌≡◌, ℕ, zero, suc, ◌+◌, ◌*◌, ◌-◌, ◌/◌, ◌%◌, ◌^◌, ◌<◌, ◌≤◌, ◌⊎◌, pos, arith, ap, subst, sym, refl, inl, inr, ◌∙◌, Option, Some, None}
use Rattle.std.proofs.lemmas.Bool.{cases_lt, cases_eq}
use Rattle.std.proofs.lemmas.Int.{ints}
use Rattle.std.proofs.Math.Nat.{mul-le-mul_left, pow-le-pow_right}
use Rattle.field_core.specs.Divisor.{gcd}
use Rattle.field_core.specs.Terms.{IsReduced}
use Rattle.fraction.specs.View.{terms_of}
use Rattle.fraction.specs.declared.fraction.Fraction.{Fraction}
use Rattle.numerals.specs.Lowest.{lowest_terms, lowest_of}
use Rattle.numerals.proofs.LowestTerms.{divided, AreDivided, abs_sign}
use Rattle.typed_numbers.specs.Intervals.{range_of}
use Rattle.typed_numbers.specs.Rounding.{RoundsTo, units_of, distance}
use Rattle.typed_numbers.specs.Rules.{IsSimplest, HasNoSimple, IsNearest, IsShortest, HasNoDecimal, IsRoundedUp, IsReadAs, simplest, shortest, rounded_up, IsReading, IsReadable, IsReadingOf}
use Rattle.typed_numbers.specs.Searches.{gap, IsWithin, IsNearestIn}
use Rattle.typed_numbers.specs.Laws.Values.{intervals_round}
use Rattle.typed_numbers.specs.Laws.Multiples.{nearest_or_none, first_from, first_least}
use Rattle.typed_numbers.specs.Laws.Doubles.{lopsided, ends_few, scale_is, units_at_most_one, below_one, one_rounds, one_alone}
use Rattle.numerals.proofs.DigitNumbers.{power_some}

-- ---- the least number that has a property

record Least (P : ℕ → Type 0) (limit : ℕ) : Type 0 where
  value : ℕ
  most : value ≤ limit
  has : P value
  none_below : (m : ℕ) → m < value → ¬ P m

least_or_none : (P : ℕ → Type 0) → ((n : ℕ) → P n ⊎ ¬ P n) → (limit : ℕ) → Least P limit ⊎ ((n : ℕ) → n ≤ limit → ¬ P n)
least_or_none P decide zero = elim (decide zero) [
  | inl h ↦ inl (record { value = zero; most = omega arith; has = h; none_below = λ m k. absurd (omega arith) })
  | inr h ↦ inr (λ n k. subst (λ z. ¬ P z) (let e : 0 ≡ n = omega arith in e) h)
]
least_or_none P decide (suc limit) = elim (least_or_none P decide limit) [
  | inl w ↦ inl (record { value = w.value; most = (let k : w.value ≤ limit = w.most in omega arith); has = w.has; none_below = w.none_below })
  | inr none ↦ elim (decide (suc limit)) [
    | inl h ↦ inl (record { value = suc limit; most = omega arith; has = h; none_below = λ m k. none m (omega arith) })
    | inr h ↦ inr (λ n k. elim (cases_lt n (suc limit)) [
      | inl g ↦ none n (omega arith)
      | inr g ↦ subst (λ z. ¬ P z) (let e : suc limit ≡ n = omega arith in e) h
    ])
  ]
]

-- ---- the nearest multiple of 1 / q that rounds to a double, if one does

in_units : (bits n q : ℕ) → bits < 2047 * 2 ^ 52 → 0 < q → RoundsTo bits n q
    → IsWithin ((range_of bits).low * q) ((range_of bits).high * q) (range_of bits).ends (4 * 2 ^ 1074) n
in_units bits n q short hq k =
    let i = (intervals_round bits n q short hq).1 k in
    let s = scale_is bits in
    let e : n * (range_of bits).scale ≡ n * (4 * 2 ^ 1074) = ap (λ z. n * z) s in
    let low = i.from_low in
    let high = i.to_high in
    record { from_low = omega (arith, low, e); to_high = omega (arith, high, e) }

from_units : (bits n q : ℕ) → bits < 2047 * 2 ^ 52 → 0 < q
    → IsWithin ((range_of bits).low * q) ((range_of bits).high * q) (range_of bits).ends (4 * 2 ^ 1074) n → RoundsTo bits n q
from_units bits n q short hq k =
    let s = scale_is bits in
    let e : n * (range_of bits).scale ≡ n * (4 * 2 ^ 1074) = ap (λ z. n * z) s in
    let low = k.from_low in
    let high = k.to_high in
    (intervals_round bits n q short hq).0 (record { from_low = omega (arith, low, e); to_high = omega (arith, high, e) })

four_times : (bits n q : ℕ) → gap (n * (4 * 2 ^ 1074)) (4 * units_of bits * q) ≡ 4 * distance bits n q
four_times bits n q = four (n * 2 ^ 1074) (units_of bits * q) (n * (4 * 2 ^ 1074)) (4 * units_of bits * q) (omega arith) (omega arith)
  where
    four : (a b c d : ℕ) → c ≡ 4 * a → d ≡ 4 * b → gap c d ≡ 4 * ((a - b) + (b - a))
    four a b c d h k = omega arith

nearest_rounds : (bits q n : ℕ) → bits < 2047 * 2 ^ 52 → 0 < q
    → IsNearestIn ((range_of bits).low * q) (4 * units_of bits * q) ((range_of bits).high * q) (range_of bits).ends (4 * 2 ^ 1074) n → IsNearest bits n q
nearest_rounds bits q n short hq k = record {
  rounds = from_units bits n q short hq k.inside;
  nearest = λ m h.
      let f = k.nearest m (in_units bits m q short hq h) in
      let a = four_times bits n q in
      let b = four_times bits m q in
      less (distance bits n q) (distance bits m q) _ _ a b f;
  even = λ m h tie.
      let a = four_times bits n q in
      let b = four_times bits m q in
      k.even m (in_units bits m q short hq h) (b ∙ ap (λ z. 4 * z) tie ∙ sym a);
}
  where
    less : (a b c d : ℕ) → c ≡ 4 * a → d ≡ 4 * b → c ≤ d → a ≤ b
    less a b c d h k l = omega arith

lopsided_at : (bits q : ℕ) → bits < 2047 * 2 ^ 52 → 2 * (4 * units_of bits * q) ≤ (range_of bits).low * q + (range_of bits).high * q
lopsided_at bits q short =
    let f = lopsided bits short in
    let g = mul-le-mul_left {m = 2 * (4 * units_of bits)} {n = (range_of bits).low + (range_of bits).high} q f in
    omega (arith, g)

nearest_at : (bits q : ℕ) → bits < 2047 * 2 ^ 52 → 0 < q → ((n : ℕ) × IsNearest bits n q) ⊎ ((m : ℕ) → ¬ RoundsTo bits m q)
nearest_at bits q short hq =
    elim (nearest_or_none ((range_of bits).low * q) (4 * units_of bits * q) ((range_of bits).high * q) (range_of bits).ends (4 * 2 ^ 1074)
    (ends_few bits) (omega arith) (lopsided_at bits q short)) [
      | inl w ↦ inl (w.0, nearest_rounds bits q w.0 short hq w.1)
      | inr none ↦ inr (λ m h. none m (in_units bits m q short hq h))
    ]

-- ---- the three rules

HasSome : ℕ → ℕ → Type 0
HasSome bits q = (0 < q) × ((n : ℕ) × RoundsTo bits n q)

some_or_none : (bits q : ℕ) → bits < 2047 * 2 ^ 52 → HasSome bits q ⊎ ¬ HasSome bits q
unfolding HasSome
some_or_none bits q short = elim (cases_lt 0 q) [
  | inl hq ↦ elim (nearest_at bits q short hq) [
    | inl w ↦ inl (hq, (w.0, w.1.rounds))
    | inr none ↦ inr (λ h. none h.1.0 h.1.1)
  ]
  | inr g ↦ inr (λ h. let k : 0 < q = h.0 in omega arith)
]

at_least : (P : ℕ → Type 0) (q p : ℕ) → ((m : ℕ) → m < q → ¬ P m) → P p → q ≤ p
at_least P q p none h = elim (cases_lt p q) [ inl k ↦ absurd (none p k h) | inr k ↦ k ]

simplest_or_none : (bits : ℕ) → bits < 2047 * 2 ^ 52 → ((n : ℕ) × (q : ℕ) × IsSimplest bits n q) ⊎ HasNoSimple bits
unfolding HasSome
simplest_or_none bits short = elim (least_or_none (HasSome bits) (λ q. some_or_none bits q short) 10000) [
  | inl w ↦ inl (
    w.has.1.0,
    w.value,
    record {
      some = w.has.0;
      within = w.most;
      rounds = w.has.1.1;
      least = λ m p hp h. at_least (HasSome bits) w.value p w.none_below (hp, (m, h));
    },
  )
  | inr none ↦ inr (λ m p hp h. elim (cases_lt 10000 p) [ inl k ↦ k | inr k ↦ absurd (none p k (hp, (m, h))) ])
]

HasDecimal : ℕ → ℕ → Type 0
HasDecimal bits j = (n : ℕ) × IsNearest bits n (10 ^ j)

decimal_or_none : (bits j : ℕ) → bits < 2047 * 2 ^ 52 → HasDecimal bits j ⊎ ¬ HasDecimal bits j
unfolding HasDecimal
decimal_or_none bits j short = elim (nearest_at bits (10 ^ j) short (power_some j)) [
  | inl w ↦ inl w
  | inr none ↦ inr (λ h. none h.0 h.1.rounds)
]

has_decimal : (bits j m : ℕ) → bits < 2047 * 2 ^ 52 → RoundsTo bits m (10 ^ j) → HasDecimal bits j
unfolding HasDecimal
has_decimal bits j m short h = elim (nearest_at bits (10 ^ j) short (power_some j)) [
  | inl w ↦ w
  | inr none ↦ absurd (none m h)
]

shortest_or_none : (bits : ℕ) → bits < 2047 * 2 ^ 52 → ((n : ℕ) × (q : ℕ) × IsShortest bits n q) ⊎ HasNoDecimal bits
unfolding HasDecimal
shortest_or_none bits short = elim (least_or_none (HasDecimal bits) (λ j. decimal_or_none bits j short) 30) [
  | inl w ↦ inl (
    w.has.0,
    10 ^ w.value,
    record {
      places = w.value;
      power = refl;
      within = w.most;
      fewest = λ m i h. at_least (HasDecimal bits) w.value i w.none_below (has_decimal bits i m short h);
      nearest = w.has.1;
    },
  )
  | inr none ↦ inr (λ m i h. elim (cases_lt 30 i) [ inl k ↦ k | inr k ↦ absurd (none i k (has_decimal bits i m short h)) ])
]

rounded_up_at : (bits : ℕ) → (n : ℕ) × IsRoundedUp bits n (10 ^ 30)
rounded_up_at bits =
    let u = units_of bits * 10 ^ 30 in
    let f = (u + 2 ^ 1074 - 1) / 2 ^ 1074 in
    let from : u < f * 2 ^ 1074 + 1 = first_from u 1 (2 ^ 1074) f (omega arith) (omega arith) refl in (
      f,
      record {
        power = refl;
        above = omega arith;
        least = λ m h. first_least u 1 (2 ^ 1074) f (omega arith) (omega arith) refl m (omega arith);
      },
    )

pub some_parts : (bits : ℕ) → bits < 2047 * 2 ^ 52 → (n : ℕ) × (q : ℕ) × IsReadAs bits n q
some_parts bits short = elim (simplest_or_none bits short) [
  | inl w ↦ (w.0, w.1, simplest w.2)
  | inr no_simple ↦ elim (shortest_or_none bits short) [
    | inl w ↦ (w.0, w.1, shortest no_simple w.2)
    | inr no_decimal ↦ (let w = rounded_up_at bits in (w.0, 10 ^ 30, rounded_up no_simple no_decimal w.1))
  ]
]

-- ---- the fraction

not_one : (bits : ℕ) → bits ≤ 0x3ff0_0000_0000_0000 → HasNoSimple bits → bits < 0x3ff0_0000_0000_0000
not_one bits h none = elim (cases_lt bits 0x3ff0_0000_0000_0000) [
  | inl k ↦ k
  | inr k ↦ absurd (
      let same : bits ≡ 0x3ff0_0000_0000_0000 = omega arith in
      let f : 10000 < 1 = none 1 1 (omega arith) (subst (λ z. RoundsTo z 1 1) (sym same) one_rounds) in
      omega arith)
]

-- what a double up to 1 is read as is at most 1
pub parts_at_most_one : (bits n q : ℕ) → bits ≤ 0x3ff0_0000_0000_0000 → IsReadAs bits n q → (0 < q) × (n ≤ q) × (q ≤ 10 ^ 30)
parts_at_most_one bits n q h (simplest k) = (k.some, by_bits (cases_lt bits 0x3ff0_0000_0000_0000), (let f : q ≤ 10000 = k.within in omega arith))
  where
    by_bits : (bits < 0x3ff0_0000_0000_0000) ⊎ (0x3ff0_0000_0000_0000 ≤ bits) → n ≤ q
    by_bits (inl below) = below_one bits n q below k.some k.rounds
    by_bits (inr up) =
        let same : bits ≡ 0x3ff0_0000_0000_0000 = omega arith in
        let one : RoundsTo bits 1 1 = subst (λ z. RoundsTo z 1 1) (sym same) one_rounds in
        let least : q ≤ 1 = k.least 1 1 (omega arith) one in
        let q_is : q ≡ 1 = let some : 0 < q = k.some in omega arith in
        let r : RoundsTo 0x3ff0_0000_0000_0000 n 1 = subst (λ z. RoundsTo z n 1) same (subst (λ z. RoundsTo bits n z) q_is k.rounds) in
        let n_is : n ≡ 1 = one_alone n r in
        omega arith
parts_at_most_one bits n q h (shortest none k) = (some, below_one bits n q below some k.nearest.rounds, ten_few q k.places k.power k.within)
  where
    some : 0 < q
    some = subst (λ z. 0 < z) (sym k.power) (power_some k.places)

    below : bits < 0x3ff0_0000_0000_0000
    below = not_one bits h none

    ten_few : (q j : ℕ) → q ≡ 10 ^ j → j ≤ 30 → q ≤ 10 ^ 30
    ten_few q j e k = let f : 10 ^ j ≤ 10 ^ 30 = pow-le-pow_right {n = 10} (omega arith) {i = j} {j = 30} k in omega arith
parts_at_most_one bits n q h (rounded_up none no_decimal k) =
    let is : q ≡ 10 ^ 30 = k.power in
    let u = units_at_most_one bits h in
    let f : units_of bits * q ≤ q * 2 ^ 1074 = let m = mul-le-mul_left {m = units_of bits} {n = 2 ^ 1074} q u in omega arith in
    (omega arith, k.least q f, omega arith)

pub lowest_reduced : (n q : ℕ) → 0 < q → n < 2 ^ 127 → q < 2 ^ 127 → IsReduced (lowest_terms (pos n) (pos q))
unfolding lowest_terms lowest_of
lowest_reduced n q some hn hq =
    let d : AreDivided n q (n / gcd n q) (q / gcd n q) = (divided n q some).1 in
    record {
      positive = let p = d.some in omega (arith, ints);
      num_size = rw abs_sign (omega (arith, d.first));
      den_size = omega (arith, d.second);
      reduced = rw abs_sign d.apart;
    }

lowest_fraction : (n q : ℕ) → 0 < q → n < 2 ^ 127 → q < 2 ^ 127 → (f : Fraction) × (terms_of f ≡ lowest_terms (pos n) (pos q))
lowest_fraction n q some hn hq =
    let t = lowest_terms (pos n) (pos q) in
    let f : Fraction = record { num = t.num; den = t.den; valid = lowest_reduced n q some hn hq } in
    (f, refl)

-- a double up to 1
reading_at : (bits : ℕ) → bits ≤ 0x3ff0_0000_0000_0000 → (f : Fraction) × IsReading bits f
reading_at bits h =
    let w = some_parts bits (omega arith) in
    let k = parts_at_most_one bits w.0 w.1 h w.2 in
    let f = lowest_fraction w.0 w.1 k.0 (let a = k.1 in let b = k.2 in omega arith) (let b = k.2 in omega arith) in
    (f.0, record { n = w.0; q = w.1; read = w.2; lowest = f.1 })

pub small : (bits : ℕ) → IsReadable bits → bits % 2 ^ 63 ≤ 0x3ff0_0000_0000_0000
small bits (inl h) = omega arith
small bits (inr e) = omega arith

readable_or_not : (bits : ℕ) → IsReadable bits ⊎ ¬ IsReadable bits
readable_or_not bits = elim (cases_lt 0x3ff0_0000_0000_0000 bits) [
  | inl h ↦ elim (cases_eq bits 0x8000_0000_0000_0000) [
    | inl e ↦ inl (inr e)
    | inr k ↦ inr (λ r. elim r [ inl g ↦ omega arith | inr e ↦ k e ])
  ]
  | inr h ↦ inl (inl h)
]

pub some_reading : (bits : ℕ) → (x : Option Fraction) × IsReadingOf bits x
some_reading bits = elim (readable_or_not bits) [
  | inl h ↦ (let w = reading_at (bits % 2 ^ 63) (small bits h) in (Some w.0, (h, w.1)))
  | inr h ↦ (None, h)
]
