-- Digits and the numbers that they write.
use Rattle.std.proofs.Common.{◌≡◌, ℕ, zero, suc, ◌+◌, ◌-◌, ◌*◌, ◌^◌, ◌<◌, ◌≤◌, List, [], ◌∷◌, ◌++◌, length, get_or}
use Rattle.std.proofs.Common.{drop, take, min, refl, subst, arith}
use Rattle.std.specs.Char.{digit_value}
use Rattle.std.specs.Str.Parse.{digits_value, digits_value_after}
use Rattle.std.proofs.lemmas.List.{drop_more, drop_all}
use Rattle.std.proofs.lemmas.Int.Digits.{digits_value_more}
use Rattle.std.proofs.lemmas.Nat.{pow-add}
use Rattle.std.proofs.Math.Nat.{pow-suc, mul-le-mul_left, mul-le-mul_right, one-le-pow, pow-le-pow_right}
use Rattle.field_core.proofs.Digits.{digit_is}
use Rattle.numerals.specs.Numeral.{AreDigits}

pub digit_at : (ds : List ℕ) (i : ℕ) → AreDigits ds → i < length ds → (48 ≤ get_or ds i 0) × (get_or ds i 0 ≤ 57)
digit_at [] i h lt = absurd (omega arith)
digit_at (d ∷ ds) zero h lt = (h.0, h.1)
digit_at (d ∷ ds) (suc i) h lt = digit_at ds i h.2 (omega arith)

-- with one digit more there is room for one less
next_room : (v d n room : ℕ) → d ≤ 9 → (v + 1) * 10 ^ suc n ≤ room → (v * 10 + d + 1) * 10 ^ n ≤ room
next_room v d n room h r =
    let step : (v * 10 + d + 1) * 10 ^ n ≤ ((v + 1) * 10) * 10 ^ n = mul-le-mul_right (10 ^ n) (omega arith) in
    let all : (v + 1) * (10 ^ n * 10) ≤ room = rw pow-suc at r in
    omega arith

-- the number that digits write is below a power of ten
pub value_below : (n : ℕ) (ds : List ℕ) → AreDigits ds → digits_value_after 10 n ds < (n + 1) * 10 ^ length ds
value_below n [] h = omega arith
value_below n (d ∷ ds) h =
    let e = digit_is d h.0 h.1 in
    let step : (n * 10 + digit_value d + 1) * 10 ^ length ds ≤ (n + 1) * 10 ^ suc (length ds) =
    next_room n (digit_value d) (length ds) ((n + 1) * 10 ^ suc (length ds)) (omega (arith, h.0, h.1)) (omega arith) in
    omega (arith, value_below (n * 10 + digit_value d) ds h.2)

-- powers of ten up to the limit
pub power_small : (n : ℕ) → n ≤ 38 → 10 ^ n ≤ 10 ^ 38
power_small n h = pow-le-pow_right (omega arith) h

pub power_some : (n : ℕ) → 0 < 10 ^ n
power_some n = one-le-pow n 10 (omega arith)

-- room for the digits that follow some
pub room_for : (n a b : ℕ) → a + b ≤ 38 → n + 1 ≤ 10 ^ a → (n + 1) * 10 ^ b ≤ 10 ^ 38
room_for n a b h k =
    let step : (n + 1) * 10 ^ b ≤ 10 ^ a * 10 ^ b = mul-le-mul_right (10 ^ b) k in
    let all : 10 ^ a * 10 ^ b ≤ 10 ^ 38 = rw (← pow-add 10 a b) (power_small (a + b) h) in
    omega arith

-- a number that has room for a digit is small
small_number : (v n room : ℕ) → (v + 1) * 10 ^ suc n ≤ room → v * 10 + 10 ≤ room
small_number v n room r =
    let step : ((v + 1) * 10) * 1 ≤ ((v + 1) * 10) * 10 ^ n = mul-le-mul_left ((v + 1) * 10) (one-le-pow n 10 (omega arith)) in
    let all : (v + 1) * (10 ^ n * 10) ≤ room = rw pow-suc at r in
    omega arith

-- The digits from i on, after a number v: there is room for all of them, and they make one number.
pub record Goes (digits : List ℕ) (i v room whole : ℕ) : Type 0 where
  pub fits : (v + 1) * 10 ^ length (drop i digits) ≤ room
  pub makes : digits_value_after 10 v (drop i digits) ≡ whole

pub goes_on : (digits : List ℕ) (i v room whole : ℕ) → AreDigits digits → i < length digits → Goes digits i v room whole
    → Goes digits (i + 1) (v * 10 + (get_or digits i 0 - 48)) room whole
goes_on digits i v room whole are lt g =
    let d = digit_at digits i are lt in
    let e = drop_more digits i 0 lt in
    let fits : (v + 1) * 10 ^ suc (length (drop (i + 1) digits)) ≤ room = subst (λ (x : List ℕ). (v + 1) * 10 ^ length x ≤ room) e g.fits in
    let makes : digits_value_after 10 (v * 10 + digit_value (get_or digits i 0)) (drop (i + 1) digits) ≡ whole =
    subst (λ (x : List ℕ). digits_value_after 10 v x ≡ whole) e g.makes in
    record {
      fits = next_room v (get_or digits i 0 - 48) (length (drop (i + 1) digits)) room (omega arith) fits;
      makes = subst (λ n. digits_value_after 10 (v * 10 + n) (drop (i + 1) digits) ≡ whole) (digit_is _ d.0 d.1) makes;
    }

pub goes_below : (digits : List ℕ) (i v room whole : ℕ) → i < length digits → Goes digits i v room whole → v * 10 + 10 ≤ room
goes_below digits i v room whole lt g =
    small_number v (length (drop (i + 1) digits)) room (subst (λ (x : List ℕ). (v + 1) * 10 ^ length x ≤ room) (drop_more digits i 0 lt) g.fits)

pub goes_end : (digits : List ℕ) (i v room whole : ℕ) → length digits ≤ i → Goes digits i v room whole → v ≡ whole
goes_end digits i v room whole le g = subst (λ (x : List ℕ). digits_value_after 10 v x ≡ whole) (drop_all i digits le) g.makes

pub value_append : (n : ℕ) (xs ys : List ℕ) → digits_value_after 10 n (xs ++ ys) ≡ digits_value_after 10 (digits_value_after 10 n xs) ys
value_append n [] ys = refl
value_append n (x ∷ xs) ys = value_append (n * 10 + digit_value x) xs ys

-- the least of a bound and the number that digits write, with one digit more
pub far_on : (digits : List ℕ) (i v w far : ℕ) → AreDigits digits → i < length digits → v ≡ min (digits_value 10 (take i digits)) far
    → w ≡ min (v * 10 + (get_or digits i 0 - 48)) far → w ≡ min (digits_value 10 (take (i + 1) digits)) far
far_on digits i v w far are lt e f =
    let d = digit_at digits i are lt in
    let more = digits_value_more 10 digits i lt in
    let is = digit_is (get_or digits i 0) d.0 d.1 in
    omega arith
