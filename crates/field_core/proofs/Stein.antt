-- Steps of the binary greatest common divisor.
use Rattle.std.proofs.Common.{◌≡◌, ℕ, zero, suc, ◌+◌, ◌-◌, ◌*◌, ◌/◌, ◌%◌, ◌^◌, ◌<◌, ◌≤◌, min, max, refl, sym, ◌∙◌}
use Rattle.std.proofs.Common.{ap, ap₂, subst, arith, inl, inr, ◌⊎◌, pow-add, pow-suc}
use Rattle.std.specs.Int.{IsGcd, ◌∣◌, abs_diff, bit_at, trailing_zeros, w64}
use Rattle.std.proofs.lemmas.Bool.{cases_lt}
use Rattle.std.proofs.lemmas.Nat.Bits.{bit_at-trailing_zeros}
use Rattle.std.proofs.lemmas.Nat.Gcd.{dvd_refl, IsGcd-swap, IsGcd-from_mod, IsGcd-from_sub, IsGcd-from_zero, dvd_trans, le_of_dvd, mod-eq-zero_of_dvd}
use Rattle.std.proofs.Math.Nat.{dvd-mul_right_of_dvd, div-div-eq-div-mul, div-add-mod, pos_of_dvd_of_pos, eq-one_of_dvd-one, mul_comm, mod-eq_of_lt}
use Rattle.field_core.specs.Divisor.{gcd}
use Rattle.field_core.proofs.Divisors.{gcd_is, gcd_same}
use Rattle.field_core.proofs.Coprime.{Apart, apart_product, divides_other, gcd_scaled}

-- ---- factors two

-- an odd number without its factors two is n
pub record IsOddPart (n odd twos : ℕ) : Type 0 where
  pub is_odd : odd % 2 ≡ 1
  pub whole : n ≡ odd * 2 ^ twos

half_even : (m : ℕ) → m % 2 ≡ 0 → m ≡ 2 * (m / 2)
half_even m h = omega (arith, div-add-mod m 2)

doubled : (q p : ℕ) → 2 * q * p ≡ q * (p * 2)
doubled q p = omega arith

power_next : (n t : ℕ) → n / 2 ^ t % 2 ≡ 0 → n ≡ n / 2 ^ t * 2 ^ t → n ≡ n / 2 ^ suc t * 2 ^ suc t
power_next n t even e =
    let half : n / 2 ^ t ≡ 2 * (n / 2 ^ suc t) = half_even (n / 2 ^ t) even
    ∙ ap (λ x. 2 * x) (div-div-eq-div-mul n (2 ^ t) 2 ∙ ap (λ x. n / x) (sym (pow-suc 2 t))) in
    e ∙ ap (λ x. x * 2 ^ t) half ∙ doubled (n / 2 ^ suc t) (2 ^ t) ∙ ap (λ x. n / 2 ^ suc t * x) (sym (pow-suc 2 t))

whole_shift : (n t : ℕ) → ((i : ℕ) → i < t → bit_at n i ≡ 0) → n ≡ n / 2 ^ t * 2 ^ t
whole_shift n zero h = omega arith
whole_shift n (suc t) h = power_next n t (h t (omega arith)) (whole_shift n t (λ i k. h i (omega arith)))

pub odd_part : (n : ℕ) → 0 < n → n < 2 ^ 64 → IsOddPart n (n / 2 ^ trailing_zeros w64 n) (trailing_zeros w64 n)
odd_part n some fits =
    let b = bit_at-trailing_zeros w64 n some fits in
    record { is_odd = b.1; whole = whole_shift n (trailing_zeros w64 n) b.2 }

two_or_less : (e : ℕ) → 0 < e → e ≤ 2 → (e ≡ 2 → ⊥) → e ≡ 1
two_or_less e some few other = omega arith

-- no factor of an odd number is even
apart_from_two : (d n : ℕ) → d ∣ n → n % 2 ≡ 1 → Apart 2 d
apart_from_two d n h odd e p q =
    two_or_less e (pos_of_dvd_of_pos p (omega arith)) (le_of_dvd (omega arith) p)
    (λ two. let even : n % 2 ≡ 0 = mod-eq-zero_of_dvd 2 (subst (λ x. x ∣ n) two (dvd_trans e q h)) in omega arith)

apart_from_power : (k d n : ℕ) → d ∣ n → n % 2 ≡ 1 → Apart (2 ^ k) d
apart_from_power zero d n h odd = λ e p q. eq-one_of_dvd-one p
apart_from_power (suc k) d n h odd = rw (pow-suc 2 k) (apart_product (2 ^ k) 2 d (apart_from_power k d n h odd) (apart_from_two d n h odd))

-- factors two don't count beside an odd number
pub gcd_odd_part : (a b m k g : ℕ) → b % 2 ≡ 1 → a ≡ m * 2 ^ k → IsGcd m b g → IsGcd a b g
gcd_odd_part a b m k g odd e h =
    let up : (d : ℕ) → d ∣ m → d ∣ a = λ d p. subst (λ x. d ∣ x) (sym e) (dvd-mul_right_of_dvd d p (2 ^ k)) in
    let down : (d : ℕ) → d ∣ a → d ∣ b → d ∣ m = λ d p q. divides_other d (2 ^ k) m (apart_from_power k d b q odd)
    (subst (λ x. d ∣ x) (e ∙ mul_comm m (2 ^ k)) p) in
    (up g h.0, h.1, λ d p q. h.2 d (down d p q) q)

-- ---- one step

pub min_odd : (l r : ℕ) → l % 2 ≡ 1 → r % 2 ≡ 1 → min l r % 2 ≡ 1
min_odd l r h k = elim (cases_lt l r)
    [ inl below ↦ (let e : min l r ≡ l = omega arith in rw e h) | inr above ↦ (let e : min l r ≡ r = omega arith in rw e k) ]

by_difference : (l r g : ℕ) → IsGcd (abs_diff l r) (min l r) g → IsGcd l r g
by_difference l r g h =
    elim (cases_lt l r) [
      | inl below ↦
          let d : abs_diff l r ≡ r - l = omega arith in
          let m : min l r ≡ l = omega arith in
          IsGcd-swap r l g (IsGcd-from_sub r l g (omega arith) (rw (d, m) at h))
      | inr above ↦
          let d : abs_diff l r ≡ l - r = omega arith in
          let m : min l r ≡ r = omega arith in
          IsGcd-from_sub l r g above (rw (d, m) at h)
    ]

-- the odd part of the difference stands for the greater of two odd numbers
pub by_odd_difference : (l r d m odd twos g : ℕ) → l % 2 ≡ 1 → r % 2 ≡ 1 → d ≡ abs_diff l r → m ≡ min l r → IsOddPart d odd twos
    → IsGcd odd m g → IsGcd l r g
by_odd_difference l r d m odd twos g h k e f part given =
    by_difference l r g (gcd_odd_part (abs_diff l r) (min l r) odd twos g (min_odd l r h k) (sym e ∙ part.whole) (subst (λ n. IsGcd odd n g) f given))

IsGcd-same : (a : ℕ) → IsGcd a a a
IsGcd-same a = (dvd_refl a, dvd_refl a, λ d p q. p)

pub same_gcd : (a b left right : ℕ) → left ≡ right → ((g : ℕ) → IsGcd left right g → IsGcd a b g) → left ≡ gcd a b
same_gcd a b left right e h = gcd_same a b left (h left (rw (← e) (IsGcd-same left)))

-- ---- both numbers

pub gcd_comm : (a b : ℕ) → gcd a b ≡ gcd b a
gcd_comm a b = gcd_same b a (gcd a b) (IsGcd-swap a b (gcd a b) (gcd_is a b))

-- twos of one number alone don't count
twos_dropped : (x y k : ℕ) → x % 2 ≡ 1 → gcd x (y * 2 ^ k) ≡ gcd x y
twos_dropped x y k odd = sym
    (gcd_same x (y * 2 ^ k) (gcd x y)
    (IsGcd-swap (y * 2 ^ k) x (gcd x y) (gcd_odd_part (y * 2 ^ k) x y k (gcd x y) odd refl (IsGcd-swap x y (gcd x y) (gcd_is x y)))))

power_apart : (i j : ℕ) → i ≤ j → 2 ^ j ≡ 2 ^ i * 2 ^ (j - i)
power_apart i j h = ap (λ n. 2 ^ n) (let e : j ≡ i + (j - i) = omega arith in e) ∙ pow-add 2 i (j - i)

fewer_first : (x y i j : ℕ) → x % 2 ≡ 1 → i ≤ j → gcd (x * 2 ^ i) (y * 2 ^ j) ≡ gcd x y * 2 ^ i
fewer_first x y i j odd h =
    let first : x * 2 ^ i ≡ 2 ^ i * x = mul_comm x (2 ^ i) in
    let second : y * 2 ^ j ≡ 2 ^ i * (y * 2 ^ (j - i)) = omega (arith, ap (λ n. y * n) (power_apart i j h)) in
    ap (λ n. gcd n (y * 2 ^ j)) first ∙ ap (gcd (2 ^ i * x)) second ∙ gcd_scaled x (y * 2 ^ (j - i)) (2 ^ i)
    ∙ ap (λ n. 2 ^ i * n) (twos_dropped x y (j - i) odd) ∙ mul_comm (2 ^ i) (gcd x y)

gcd_from_parts : (x y i j : ℕ) → x % 2 ≡ 1 → y % 2 ≡ 1 → gcd (x * 2 ^ i) (y * 2 ^ j) ≡ gcd x y * 2 ^ min i j
gcd_from_parts x y i j odd other =
    elim (cases_lt i j) [
      | inl below ↦ (let e : min i j ≡ i = omega arith in rw e (fewer_first x y i j odd (omega arith)))
      | inr above ↦ (let e : min i j ≡ j = omega arith in rw e
          (gcd_comm (x * 2 ^ i) (y * 2 ^ j) ∙ fewer_first y x j i other above ∙ ap (λ n. n * 2 ^ j) (gcd_comm y x)))
    ]

-- the odd parts' divisor, shifted by the twos that both numbers have
pub gcd_shifted : (a b x y i j g s : ℕ) → 0 < a → a < 2 ^ 64 → IsOddPart a x i → IsOddPart b y j → g ≡ gcd x y → s ≡ min i j
    → g * 2 ^ s % 2 ^ 64 ≡ gcd a b
gcd_shifted a b x y i j g s some small p q e f =
    let whole : g * 2 ^ s ≡ gcd a b = ap₂ (λ n k. n * 2 ^ k) e f ∙ sym (gcd_from_parts x y i j p.is_odd q.is_odd) ∙ sym (ap₂ gcd p.whole q.whole) in
    let within : gcd a b ≤ a = le_of_dvd some (gcd_is a b).0 in
    rw whole (mod-eq_of_lt (omega arith))

-- ---- at once

pub gcd_of_zero : (a b : ℕ) → a ≡ 0 → b ≡ gcd a b
gcd_of_zero a b h = gcd_same a b b (IsGcd-swap b a b (IsGcd-from_zero b a h))

pub gcd_by_one : (a b : ℕ) → b ≡ 1 → 1 ≡ gcd a b
gcd_by_one a b h = sym (eq-one_of_dvd-one (subst (λ n. gcd a b ∣ n) h (gcd_is a b).1))

pub gcd_with_one : (a b : ℕ) → (a ≡ 1) ⊎ ((a ≡ 1 → ⊥) × (b ≡ 1)) → 1 ≡ gcd a b
gcd_with_one a b (inl h) = gcd_by_one b a h ∙ gcd_comm b a
gcd_with_one a b (inr h) = gcd_by_one a b h.1

-- the order doesn't count
pub gcd_ordered : (a b least most g : ℕ) → least ≡ min a b → most ≡ max a b → g ≡ gcd least most → g ≡ gcd a b
gcd_ordered a b least most g e f h =
    elim (cases_lt a b) [
      | inl below ↦
          let l : least ≡ a = omega (arith, e) in
          let m : most ≡ b = omega (arith, f) in
          h ∙ ap₂ gcd l m
      | inr above ↦
          let l : least ≡ b = omega (arith, e) in
          let m : most ≡ a = omega (arith, f) in
          h ∙ ap₂ gcd l m ∙ gcd_comm b a
    ]

-- ---- one step of Euclid's first

pub after_step : (a b g : ℕ) → IsGcd a (b % a) g → g ≡ gcd a b
after_step a b g h = gcd_same a b g (IsGcd-swap b a g (IsGcd-from_mod b a g h))

pub divisor_divides : (a b : ℕ) → b % a ≡ 0 → a ≡ gcd a b
divisor_divides a b h = after_step a b a (IsGcd-from_zero a (b % a) h)

pub remainder_one : (a b : ℕ) → b % a ≡ 1 → 1 ≡ gcd a b
remainder_one a b h = after_step a b 1 (subst (λ n. IsGcd a (b % a) n) (sym (gcd_by_one a (b % a) h)) (gcd_is a (b % a)))
