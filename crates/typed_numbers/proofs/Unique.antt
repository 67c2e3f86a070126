-- A double has one reading at most.
use Rattle.std.proofs.Common.{◌≡◌, ℕ, zero, suc, ◌+◌, ◌*◌, ◌-◌, ◌%◌, ◌^◌, ◌<◌, ◌≤◌, ◌⊎◌, pos, arith, ap, subst, sym, refl, inl, inr, ◌∙◌, Option, Some, None}
use Rattle.std.proofs.lemmas.Bool.{cases_lt, cases_order}
use Rattle.std.proofs.Math.Nat.{mul-le-mul_left, mul-le-mul, pow-le-pow_right}
use Rattle.fraction.specs.declared.fraction.Fraction.{Fraction}
use Rattle.numerals.specs.Lowest.{lowest_terms}
use Rattle.fraction.proofs.SameRatios.{same_ratio}
use Rattle.typed_numbers.specs.Intervals.{IsInside, range_of, range_by, below_by, mantissa_by, shift_by, exponent_of, digits_of}
use Rattle.typed_numbers.specs.Rounding.{RoundsTo, units_of, distance}
use Rattle.typed_numbers.specs.Rules.{IsSimplest, IsNearest, IsShortest, IsRoundedUp, IsReadAs, simplest, shortest, rounded_up, IsReading, IsReadingOf}
use Rattle.typed_numbers.specs.Searches.{gap}
use Rattle.typed_numbers.specs.Laws.Values.{intervals_round}
use Rattle.typed_numbers.specs.Laws.Doubles.{below_two}
use Rattle.typed_numbers.specs.Laws.Total.{small}
use Rattle.numerals.proofs.DigitNumbers.{power_some}

-- ---- the simplest fraction

-- an interval is too short for two fractions with one small denominator
short : (a l f m n q v : ℕ) → a ≤ l + 4 → f ≤ 2 ^ 1022 → q ≤ 10000 → v ≤ 1 → l * f * q < m * (4 * 2 ^ 1074) + v → n * (4 * 2 ^ 1074) < a * f * q + v → n ≤ m
short a l f m n q v ha hf hq hv low high = elim (cases_lt m n) [
  | inr k ↦ k
  | inl k ↦ absurd (
      let g : f * q ≤ 2 ^ 1022 * 10000 = mul-le-mul hf hq in
      let h : (f * q) * a ≤ (f * q) * (l + 4) = mul-le-mul_left {m = a} {n = l + 4} (f * q) ha in
      omega arith)
]

shift_few : (e : ℕ) → e ≤ 1023 → shift_by e ≤ 1022
shift_few zero h = omega arith
shift_few (suc e) h = omega arith

one_numerator : (e d m n q : ℕ) → e ≤ 1023 → q ≤ 10000 → IsInside (range_by e d) m q → IsInside (range_by e d) n q → n ≤ m
one_numerator e d m n q he hq k l =
    let b = below_two e d in
    let f : 2 ^ shift_by e ≤ 2 ^ 1022 = pow-le-pow_right {n = 2} (omega arith) {i = shift_by e} {j = 1022} (shift_few e he) in
    let wide : 4 * mantissa_by e d + 2 ≤ 4 * mantissa_by e d - below_by e d + 4 = omega arith in
    short (4 * mantissa_by e d + 2) (4 * mantissa_by e d - below_by e d) (2 ^ shift_by e) m n q (1 - d % 2) wide f hq (omega arith) k.from_low l.to_high

same_numerator : (bits m n q : ℕ) → bits ≤ 0x3ff0_0000_0000_0000 → q ≤ 10000 → IsInside (range_of bits) m q → IsInside (range_of bits) n q → m ≡ n
unfolding range_of
same_numerator bits m n q h hq k l =
    let e : exponent_of bits ≤ 1023 = omega arith in
    let f = one_numerator (exponent_of bits) (digits_of bits) m n q e hq k l in
    let g = one_numerator (exponent_of bits) (digits_of bits) n m q e hq l k in
    omega arith

simplest_unique : (bits m p n q : ℕ) → bits ≤ 0x3ff0_0000_0000_0000 → IsSimplest bits m p → IsSimplest bits n q → (m ≡ n) × (p ≡ q)
simplest_unique bits m p n q h k l =
    let a : p ≤ q = k.least n q l.some l.rounds in
    let b : q ≤ p = l.least m p k.some k.rounds in
    let same : p ≡ q = omega arith in
    let i = (intervals_round bits m q (omega arith) l.some).1 (subst (λ z. RoundsTo bits m z) same k.rounds) in
    let j = (intervals_round bits n q (omega arith) l.some).1 l.rounds in
    (same_numerator bits m n q h l.within i j, same)

-- ---- the nearest decimal

-- what is between two fractions that round to a double does so
between : (bits q m k n : ℕ) → bits < 2047 * 2 ^ 52 → 0 < q → m ≤ k → k ≤ n → RoundsTo bits m q → RoundsTo bits n q → RoundsTo bits k q
between bits q m k n short hq low high f g =
    let i = (intervals_round bits m q short hq).1 f in
    let j = (intervals_round bits n q short hq).1 g in
    let a = i.from_low in
    let b = j.to_high in
    let s = (range_of bits).scale in
    let x = mul-le-mul_left {m = m} {n = k} s low in
    let y = mul-le-mul_left {m = k} {n = n} s high in
    (intervals_round bits k q short hq).0 (record { from_low = omega (arith, a, x); to_high = omega (arith, b, y) })

-- two numbers at the same distance are two apart, and one between them is nearer
nearer : (m n s u : ℕ) → 0 < s → m + 2 ≤ n → gap (m * s) u ≡ gap (n * s) u → gap ((n - 1) * s) u < gap (n * s) u
nearer m zero s u some far tie = absurd (omega arith)
nearer m (suc n) s u some far tie =
    let f = mul-le-mul_left {m = m + 1} {n = n} s (omega arith) in
    let e : suc n - 1 ≡ n = omega arith in
    rw e (omega arith)

nearest_ordered : (bits q m n : ℕ) → bits < 2047 * 2 ^ 52 → 0 < q → IsNearest bits m q → IsNearest bits n q → m < n → ⊥
nearest_ordered bits q m n short hq k l h =
    let a : distance bits m q ≤ distance bits n q = k.nearest n l.rounds in
    let b : distance bits n q ≤ distance bits m q = l.nearest m k.rounds in
    let tie : distance bits m q ≡ distance bits n q = omega arith in
    let x : m % 2 ≡ 0 = even m (k.even n l.rounds (sym tie)) in
    let y : n % 2 ≡ 0 = even' n (l.even m k.rounds tie) in
    let far : m + 2 ≤ n = omega (arith, x, y, h) in
    let r : RoundsTo bits (n - 1) q = between bits q m (n - 1) n short hq (omega arith) (omega arith) k.rounds l.rounds in
    let c : distance bits n q ≤ distance bits (n - 1) q = l.nearest (n - 1) r in
    let d : distance bits (n - 1) q < distance bits n q = nearer m n (2 ^ 1074) (units_of bits * q) (omega arith) far tie in
    omega (arith, c, d)
  where
    even : (z : ℕ) → (n ≡ m) ⊎ (m % 2 ≡ 0) → m % 2 ≡ 0
    even z (inl e) = absurd (omega arith)
    even z (inr e) = e

    even' : (z : ℕ) → (m ≡ n) ⊎ (n % 2 ≡ 0) → n % 2 ≡ 0
    even' z (inl e) = absurd (omega arith)
    even' z (inr e) = e

nearest_unique : (bits q m n : ℕ) → bits < 2047 * 2 ^ 52 → 0 < q → IsNearest bits m q → IsNearest bits n q → m ≡ n
nearest_unique bits q m n short hq k l = elim (cases_order m n) [
  | inl e ↦ e
  | inr h ↦ elim h [
    | inl g ↦ absurd (nearest_ordered bits q m n short hq k l g)
    | inr g ↦ absurd (nearest_ordered bits q n m short hq l k g)
  ]
]

shortest_unique : (bits m p n q : ℕ) → bits < 2047 * 2 ^ 52 → IsShortest bits m p → IsShortest bits n q → (m ≡ n) × (p ≡ q)
shortest_unique bits m p n q short k l =
    let rk : RoundsTo bits m (10 ^ k.places) = subst (λ z. RoundsTo bits m z) k.power k.nearest.rounds in
    let rl : RoundsTo bits n (10 ^ l.places) = subst (λ z. RoundsTo bits n z) l.power l.nearest.rounds in
    let a : k.places ≤ l.places = k.fewest n l.places rl in
    let b : l.places ≤ k.places = l.fewest m k.places rk in
    let e : k.places ≡ l.places = omega arith in
    let same : p ≡ q = k.power ∙ ap (λ z. 10 ^ z) e ∙ sym l.power in
    let some : 0 < q = subst (λ z. 0 < z) (sym l.power) (power_some l.places) in
    (nearest_unique bits q m n short some (subst (λ z. IsNearest bits m z) same k.nearest) l.nearest, same)

rounded_unique : (bits m p n q : ℕ) → IsRoundedUp bits m p → IsRoundedUp bits n q → (m ≡ n) × (p ≡ q)
rounded_unique bits m p n q k l =
    let same : p ≡ q = k.power ∙ sym l.power in
    let k' : IsRoundedUp bits m q = subst (λ z. IsRoundedUp bits m z) same k in
    let a : m ≤ n = k'.least n l.above in
    let b : n ≤ m = l.least m k'.above in
    (omega arith, same)

-- ---- all three

not_both : (bits n q : ℕ) → ((m p : ℕ) → 0 < p → RoundsTo bits m p → 10000 < p) → IsSimplest bits n q → ⊥
not_both bits n q none k = let f = none n q k.some k.rounds in let g : q ≤ 10000 = k.within in omega arith

not_short : (bits n q : ℕ) → ((m i : ℕ) → RoundsTo bits m (10 ^ i) → 30 < i) → IsShortest bits n q → ⊥
not_short bits n q none k =
    let f = none n k.places (subst (λ z. RoundsTo bits n z) k.power k.nearest.rounds) in let g : k.places ≤ 30 = k.within in omega arith

pub one_pair : (bits m p n q : ℕ) → bits ≤ 0x3ff0_0000_0000_0000 → IsReadAs bits m p → IsReadAs bits n q → (m ≡ n) × (p ≡ q)
one_pair bits m p n q h (simplest k) (simplest l) = simplest_unique bits m p n q h k l
one_pair bits m p n q h (simplest k) (shortest none l) = absurd (not_both bits m p none k)
one_pair bits m p n q h (simplest k) (rounded_up none no_decimal l) = absurd (not_both bits m p none k)
one_pair bits m p n q h (shortest none k) (simplest l) = absurd (not_both bits n q none l)
one_pair bits m p n q h (shortest none k) (shortest none' l) = shortest_unique bits m p n q (omega arith) k l
one_pair bits m p n q h (shortest none k) (rounded_up none' no_decimal l) = absurd (not_short bits m p no_decimal k)
one_pair bits m p n q h (rounded_up none no_decimal k) (simplest l) = absurd (not_both bits n q none l)
one_pair bits m p n q h (rounded_up none no_decimal k) (shortest none' l) = absurd (not_short bits n q no_decimal l)
one_pair bits m p n q h (rounded_up none no_decimal k) (rounded_up none' no_decimal' l) = rounded_unique bits m p n q k l

one_fraction : (bits : ℕ) (f g : Fraction) → bits ≤ 0x3ff0_0000_0000_0000 → IsReading bits f → IsReading bits g → f ≡ g
one_fraction bits f g h k l =
    let w = one_pair bits k.n k.q l.n l.q h k.read l.read in
    let a : lowest_terms (pos k.n) (pos k.q) ≡ lowest_terms (pos l.n) (pos k.q) = ap (λ z. lowest_terms (pos z) (pos k.q)) w.0 in
    let b : lowest_terms (pos l.n) (pos k.q) ≡ lowest_terms (pos l.n) (pos l.q) = ap (λ z. lowest_terms (pos l.n) (pos z)) w.1 in
    same_ratio f g (k.lowest ∙ a ∙ b ∙ sym l.lowest)

pub one_reading : (bits : ℕ) (x y : Option Fraction) → IsReadingOf bits x → IsReadingOf bits y → x ≡ y
one_reading bits None None k l = refl
one_reading bits None (Some g) k l = absurd (k l.0)
one_reading bits (Some f) None k l = absurd (l k.0)
one_reading bits (Some f) (Some g) k l = ap Some (one_fraction (bits % 2 ^ 63) f g (small bits k.0) k.1 l.1)
