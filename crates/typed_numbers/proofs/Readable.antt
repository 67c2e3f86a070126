-- The bits of the doubles from 0 to 1, as the kit compares doubles.
use Rattle.std.proofs.Common.{◌≡◌, ◌↔◌, ℕ, zero, suc, ◌+◌, ◌*◌, ◌/◌, ◌%◌, ◌^◌, ◌<◌, ◌≤◌, ◌⊎◌, arith, ap, subst, refl, inl, inr, true, false}
use Rattle.std.proofs.lemmas.Bool.{cases_lt}
use Rattle.std.proofs.lemmas.Nat.{pow_pos}
use Rattle.std.proofs.Math.Nat.{mul-le-mul_left, mul-le-mul, mul-pos, pow-le-pow_right, le_of_mul-le-mul_right}
use mathlib.Core.Bool.{Bool, not, cond, ◌||◌}
use lib.Dec.{T, eqb, eqb→eq, ltb, ltb→lt, lt→ltb, leb, leb→le, nleb→lt}
use lib.Ieee.{Float, nan, inf, fin, binary64, up, down, le, lt, eq, level, of_bits, of_fields}
use lib.Ieee.Fits.{and_i, and_l, eq→eqb, down_pos}
use lib.Ieee.Exact.{HasValue}
use Rattle.typed_numbers.specs.Intervals.{mantissa_by, shift_by}
use Rattle.typed_numbers.specs.Rules.{IsReadable}
use Rattle.typed_numbers.specs.Laws.Values.{fields_value}
use Rattle.typed_numbers.specs.Promises.{zero_float, one_float, IsFromZeroToOne}

or_l : (a b : Bool) → T a → T (a || b)
or_l true b t = tt
or_l false b t = absurd t

or_r : (a b : Bool) → T b → T (a || b)
or_r true b t = tt
or_r false b t = t

pub or_cases : (a b : Bool) → T (a || b) → T a ⊎ T b
or_cases true b t = inl tt
or_cases false b t = inr t

-- ---- comparisons of sizes

at_most : (a b : ℕ) → a ≤ b → T (ltb a b || level false a false b)
at_most a b h = elim (cases_lt a b) [
  | inl k ↦ or_l (ltb a b) (level false a false b) (lt→ltb a b k)
  | inr k ↦ or_r (ltb a b) (level false a false b) (and_i (eqb a b) true (eq→eqb (let e : a ≡ b = omega arith in e)) tt)
]

pub is_at_most : (a b : ℕ) → T (ltb a b || level false a false b) → a ≤ b
is_at_most a b t = elim (or_cases (ltb a b) (level false a false b) t) [
  | inl k ↦ (let f = ltb→lt a b k in omega arith)
  | inr k ↦ (let f = eqb→eq a b (and_l (eqb a b) true k) in omega arith)
]

-- ---- a value without a sign

at_least_zero : (x : Float) (a c : ℕ) → HasValue x false a c → T (le zero_float x)
unfolding le lt eq
at_least_zero nan a c h = absurd h
at_least_zero (inf s) a c h = absurd h
at_least_zero (fin true m e) a c h = absurd (let z = h.0 in cc)
at_least_zero (fin false m e) a c h = at_most (0 * 1 * down e) (m * up e * 1) (omega arith)

at_most_one : (x : Float) (v : ℕ) → HasValue x false v (2 ^ 1074) → T (le x one_float) ↔ (v ≤ 2 ^ 1074)
unfolding le lt eq
at_most_one nan v h = absurd h
at_most_one (inf s) v h = absurd h
at_most_one (fin true m e) v h = absurd (let z = h.0 in cc)
at_most_one (fin false m e) v h =
    let value : m * up e * 2 ^ 1074 ≡ v * down e = h.1 in
    let some = down_pos e in (
      λ t.
          let k : m * up e * 1 ≤ 1 * 1 * down e = is_at_most (m * up e * 1) (1 * 1 * down e) t in
          le_of_mul-le-mul_right {m = v} {n = 2 ^ 1074} {k = down e} (omega arith) some,
      λ k.
          let f : down e * v ≤ down e * 2 ^ 1074 = mul-le-mul_left {m = v} {n = 2 ^ 1074} (down e) k in
          at_most (m * up e * 1) (1 * 1 * down e) (omega arith),
    )

-- ---- a value below zero, or minus zero

zero_alone : (x : Float) (v : ℕ) → HasValue x true v (2 ^ 1074) → T (le zero_float x) ↔ (v ≡ 0)
unfolding le lt eq
zero_alone nan v h = absurd h
zero_alone (inf s) v h = absurd h
zero_alone (fin false m e) v h = absurd (let z = h.0 in cc)
zero_alone (fin true m e) v h =
    let value : m * up e * 2 ^ 1074 ≡ v * down e = h.1 in
    let some = down_pos e in (
      λ t.
          let k : 0 * 1 * down e ≡ m * up e * 1 = eqb→eq (0 * 1 * down e) (m * up e * 1) (and_l (eqb (0 * 1 * down e) (m * up e * 1)) (eqb (0 * 1 * down e) 0) t) in
          no_value v (down e) some (omega arith),
      λ k.
          let f : v * down e ≡ 0 * down e = ap (λ z. z * down e) k in
          let z : m * up e ≡ 0 = omega arith in
          and_i (eqb (0 * 1 * down e) (m * up e * 1)) (eqb (0 * 1 * down e) 0) (eq→eqb (omega arith)) (eq→eqb (omega arith)),
    )
  where
    no_value : (v d : ℕ) → 0 < d → v * d ≡ 0 → v ≡ 0
    no_value zero d some e = refl
    no_value (suc v) d some e = absurd (omega arith)

below_one : (x : Float) (v c : ℕ) → HasValue x true v c → T (le x one_float)
unfolding le lt eq
below_one nan v c h = absurd h
below_one (inf s) v c h = absurd h
below_one (fin false m e) v c h = absurd (let z = h.0 in cc)
below_one (fin true m e) v c h =
    let some = down_pos e in
    or_l (ltb 0 (m * up e * 1 + 1 * 1 * down e)) (level true (m * up e * 1) false (1 * 1 * down e)) (lt→ltb 0 (m * up e * 1 + 1 * 1 * down e) (omega arith))

-- ---- infinities and NaNs

special : (s b : Bool) → T (le zero_float (cond b (inf s) nan)) → T (le (cond b (inf s) nan) one_float) → ⊥
unfolding le lt eq
special true true t u = t
special false true t u = u
special s false t u = t

-- ---- by the fields

special_fields : (s : Bool) (e d : ℕ) → e ≡ 2047 → T (le zero_float (of_fields binary64 s e d)) → T (le (of_fields binary64 s e d) one_float) → ⊥
unfolding of_fields
special_fields s e d is t u = special s (eqb d 0) (subst (λ z. T (le zero_float (of_fields binary64 s z d))) is t) (subst (λ z. T (le (of_fields binary64 s z d) one_float)) is u)

-- ---- which of them are at most 1, or 0

one_by : (e d : ℕ) → d < 2 ^ 52 → (mantissa_by e d * 2 ^ shift_by e ≤ 2 ^ 1074) ↔ (2 ^ 52 * e + d ≤ 0x3ff0_0000_0000_0000)
one_by zero d short = (λ k. omega arith, λ k. omega arith)
one_by (suc e) d short = (
  λ k. elim (cases_lt 1022 e) [
    | inl far ↦ absurd (
        let f : 2 ^ 1023 ≤ 2 ^ e = pow-le-pow_right {n = 2} (omega arith) {i = 1023} {j = e} far in
        let g : 2 ^ 52 * 2 ^ 1023 ≤ (2 ^ 52 + d) * 2 ^ e = mul-le-mul (let h : 2 ^ 52 ≤ 2 ^ 52 + d = omega arith in h) f in
        omega arith)
    | inr near ↦ elim (cases_lt e 1022) [
      | inl less ↦ omega arith
      | inr same ↦
          let is : e ≡ 1022 = omega arith in
          let f : (2 ^ 52 + d) * 2 ^ e ≡ (2 ^ 52 + d) * 2 ^ 1022 = ap (λ z. (2 ^ 52 + d) * 2 ^ z) is in
          omega arith
    ]
  ],
  λ k. elim (cases_lt e 1022) [
    | inl less ↦
        let f : 2 ^ e ≤ 2 ^ 1021 = pow-le-pow_right {n = 2} (omega arith) {i = e} {j = 1021} (omega arith) in
        let m : 2 ^ 52 + d ≤ 2 ^ 53 = omega arith in
        let g : (2 ^ 52 + d) * 2 ^ e ≤ 2 ^ 53 * 2 ^ 1021 = mul-le-mul m f in
        omega arith
    | inr more ↦
        let is : e ≡ 1022 = omega arith in
        let none : d ≡ 0 = omega arith in
        let f : (2 ^ 52 + d) * 2 ^ e ≡ (2 ^ 52 + d) * 2 ^ 1022 = ap (λ z. (2 ^ 52 + d) * 2 ^ z) is in
        omega arith
  ],
)

zero_by : (e d : ℕ) → (mantissa_by e d * 2 ^ shift_by e ≡ 0) ↔ (2 ^ 52 * e + d ≡ 0)
zero_by zero d = (λ k. omega arith, λ k. omega arith)
zero_by (suc e) d = (
  λ k. absurd (let f : 0 < (2 ^ 52 + d) * 2 ^ e = mul-pos (let h : 0 < 2 ^ 52 + d = omega arith in h) (pow_pos e) in omega arith),
  λ k. absurd (omega arith),
)

-- the bits of a double with a sign, or without one
abbrev Signed : Bool → ℕ → ℕ → Type 0
Signed false bits size = bits ≡ size
Signed true bits size = bits ≡ 2 ^ 63 + size

by_sign : (bits e d : ℕ) (s : Bool) → d < 2 ^ 52 → e < 2048 → Signed s bits (2 ^ 52 * e + d)
    → IsReadable bits ↔ (T (le zero_float (of_fields binary64 s e d)) × T (le (of_fields binary64 s e d) one_float))
by_sign bits e d false short few is = elim (cases_lt e 2047) [
  | inl h ↦
      let v = fields_value false e d h in
      let w = at_most_one (of_fields binary64 false e d) (mantissa_by e d * 2 ^ shift_by e) v in
      let o = one_by e d short in (
        λ r. (at_least_zero (of_fields binary64 false e d) _ _ v, w.1 (o.1 (small r))),
        λ t. inl (let k = o.0 (w.0 t.1) in omega arith),
      )
  | inr h ↦ (
    λ r. absurd (let k = small r in omega arith),
    λ t. absurd (special_fields false e d (omega arith) t.0 t.1),
  )
]
  where
    small : IsReadable bits → 2 ^ 52 * e + d ≤ 0x3ff0_0000_0000_0000
    small (inl k) = omega arith
    small (inr k) = absurd (omega arith)
by_sign bits e d true short few is = elim (cases_lt e 2047) [
  | inl h ↦
      let v = fields_value true e d h in
      let w = zero_alone (of_fields binary64 true e d) (mantissa_by e d * 2 ^ shift_by e) v in
      let o = zero_by e d in (
        λ r. (w.1 (o.1 (none r)), below_one (of_fields binary64 true e d) _ _ v),
        λ t. inr (let k = o.0 (w.0 t.0) in omega arith),
      )
  | inr h ↦ (
    λ r. absurd (let k = none r in omega arith),
    λ t. absurd (special_fields true e d (omega arith) t.0 t.1),
  )
]
  where
    none : IsReadable bits → 2 ^ 52 * e + d ≡ 0
    none (inl k) = absurd (omega arith)
    none (inr k) = omega arith

pub readable_doubles : (bits : ℕ) → bits < 2 ^ 64 → IsReadable bits ↔ IsFromZeroToOne bits
unfolding of_bits
readable_doubles bits short = go (leb (2 ^ 63) bits) (leb→le (2 ^ 63) bits) (nleb→lt (2 ^ 63) bits)
  where
    go : (s : Bool) → (T s → 2 ^ 63 ≤ bits) → (T (not s) → bits < 2 ^ 63)
        → IsReadable bits ↔ (T (le zero_float (of_fields binary64 s (bits % 2 ^ 63 / 2 ^ 52) (bits % 2 ^ 52))) × T (le (of_fields binary64 s (bits % 2 ^ 63 / 2 ^ 52) (bits % 2 ^ 52)) one_float))
    go true h k = by_sign bits (bits % 2 ^ 63 / 2 ^ 52) (bits % 2 ^ 52) true (omega arith) (omega arith) (let f = h tt in omega arith)
    go false h k = by_sign bits (bits % 2 ^ 63 / 2 ^ 52) (bits % 2 ^ 52) false (omega arith) (omega arith) (let f = k tt in omega arith)
