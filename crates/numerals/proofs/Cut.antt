-- Digits in front of a text, and parts of digits.
use Rattle.std.proofs.Common.{◌≡◌, ℕ, zero, suc, ◌+◌, ◌-◌, ◌*◌, ◌^◌, min, ◌<◌, ◌≤◌, ◌⊎◌, inl, inr, true, false, List}
use Rattle.std.proofs.Common.{[], ◌∷◌, ◌++◌, length, drop, take, Option, Some, None, refl, sym, ap, subst, ◌∙◌, append_assoc, arith}
use Rattle.std.specs.List.{prefix_len, take_while}
use Rattle.std.specs.Char.{is_ascii_digit}
use Rattle.std.specs.Str.Parse.{digits_value, digits_value_after}
use Rattle.std.proofs.lemmas.Bool.{cond_both}
use Rattle.std.proofs.lemmas.Bool.Decides.{nat_tests}
use Rattle.std.proofs.lemmas.List.{take_at, drop_at, length-take-le}
use Rattle.field_core.proofs.Heads.{heads}
use Rattle.numerals.specs.Numeral.{AreDigits, Exponent, exponent_text, IsExponent, Body, Plain, Pointed, Pair, body_text, IsBody, without_leading_zeros}
use Rattle.numerals.proofs.Classes.{digit_test, digit_in}
use Rattle.numerals.proofs.DigitNumbers.{value_below, value_append}

-- ---- parts of digits

pub digits_drop : (n : ℕ) (ds : List ℕ) → AreDigits ds → AreDigits (drop n ds)
digits_drop zero ds h = h
digits_drop (suc n) [] h = tt
digits_drop (suc n) (d ∷ ds) h = digits_drop n ds h.2

pub digits_take : (n : ℕ) (ds : List ℕ) → AreDigits ds → AreDigits (take n ds)
digits_take zero ds h = tt
digits_take (suc n) [] h = tt
digits_take (suc n) (d ∷ ds) h = (h.0, h.1, digits_take n ds h.2)

pub digits_append : (xs ys : List ℕ) → AreDigits xs → AreDigits ys → AreDigits (xs ++ ys)
digits_append [] ys h k = k
digits_append (x ∷ xs) ys h k = (h.0, h.1, digits_append xs ys h.2 k)

pub digits_before : (xs ys : List ℕ) → AreDigits (xs ++ ys) → AreDigits xs
digits_before [] ys h = tt
digits_before (x ∷ xs) ys h = (h.0, h.1, digits_before xs ys h.2)

pub digits_behind : (xs ys : List ℕ) → AreDigits (xs ++ ys) → AreDigits ys
digits_behind [] ys h = h
digits_behind (x ∷ xs) ys h = digits_behind xs ys h.2

pub digits_without : (ds : List ℕ) → AreDigits ds → AreDigits (without_leading_zeros ds)
unfolding without_leading_zeros
digits_without ds h = digits_drop _ ds h

-- the first digits of joined ones
pub take_both : (n : ℕ) (xs ys : List ℕ) → take n (xs ++ ys) ≡ take (min n (length xs)) xs ++ take (n - min n (length xs)) ys
take_both n [] ys =
    let a : min n 0 ≡ 0 = omega arith in
    let b : n - min n 0 ≡ n = omega arith in
    rw (b, a) refl
take_both zero (x ∷ xs) ys =
    let a : min 0 (suc (length xs)) ≡ 0 = omega arith in
    let b : 0 - min 0 (suc (length xs)) ≡ 0 = omega arith in
    rw (b, a) refl
take_both (suc n) (x ∷ xs) ys =
    let a : min (suc n) (suc (length xs)) ≡ suc (min n (length xs)) = omega arith in
    let b : suc n - suc (min n (length xs)) ≡ n - min n (length xs) = omega arith in
    rw (a, b) (ap (λ (z : List ℕ). x ∷ z) (take_both n xs ys))

pub first_value : (n k v r : ℕ) (xs ys : List ℕ) → k ≡ min n (length xs) → v ≡ digits_value_after 10 0 (take k xs)
    → r ≡ digits_value_after 10 v (take (n - k) ys) → r ≡ digits_value 10 (take n (xs ++ ys))
first_value n k v r xs ys e f g = g
    ∙ rw (f, e) (sym (ap (digits_value 10) (take_both n xs ys) ∙ value_append 0 (take (min n (length xs)) xs) (take (n - min n (length xs)) ys)))

pub first_below : (n r : ℕ) (ds : List ℕ) → AreDigits ds → n ≤ length ds → r ≡ digits_value 10 (take n ds) → r < 10 ^ n
first_below n r ds are h e =
    let b : digits_value 10 (take n ds) < (0 + 1) * 10 ^ length (take n ds) = value_below 0 (take n ds) (digits_take n ds are) in
    let l : length (take n ds) ≡ n = length-take-le n ds h in
    let c : digits_value 10 (take n ds) < (0 + 1) * 10 ^ n = rw l at b in
    omega arith

-- ---- the digits in front of a text

-- a text that doesn't begin with a digit
abbrev pub NoDigit : List ℕ → Type 0
NoDigit [] = Unit {0}
NoDigit (b ∷ bs) = (b < 48) ⊎ (57 < b)

not_digit : (b : ℕ) → (b < 48) ⊎ (57 < b) → is_ascii_digit b ≡ false
not_digit b (inl h) = grind (arith, nat_tests)
not_digit b (inr h) = grind (arith, nat_tests)

digits_len : (ds more : List ℕ) → AreDigits ds → NoDigit more → prefix_len is_ascii_digit (ds ++ more) ≡ length ds
digits_len [] [] h k = refl
digits_len [] (b ∷ bs) h k = rw (not_digit b k) refl
digits_len (d ∷ ds) more h k = rw (digit_test d h.0 h.1, digits_len ds more h.2 k) (omega arith)

pub front_digits : (ds more : List ℕ) → AreDigits ds → NoDigit more → take_while is_ascii_digit (ds ++ more) ≡ ds
front_digits ds more h k = ap (λ n. take n (ds ++ more)) (digits_len ds more h k) ∙ take_at ds more (length ds) refl

pub behind_digits : (ds more : List ℕ) → AreDigits ds → NoDigit more → drop (prefix_len is_ascii_digit (ds ++ more)) (ds ++ more) ≡ more
behind_digits ds more h k = ap (λ n. drop n (ds ++ more)) (digits_len ds more h k) ∙ drop_at ds more (length ds) refl

-- what is cut off in front is digits, of any text
front_by : (b : ℕ) (bs : List ℕ) (n : ℕ) → is_ascii_digit b ≡ true → n ≡ prefix_len is_ascii_digit bs → AreDigits (take_while is_ascii_digit bs)
    → AreDigits (take (1 + n) (b ∷ bs))
front_by b bs n h e r =
    let d = digit_in b h in
    let k : 1 + n ≡ suc n = omega arith in
    subst (λ m. AreDigits (take m (b ∷ bs))) (sym k) (d.0, d.1, subst (λ m. AreDigits (take m bs)) (sym e) r)

pub front_are : (text : List ℕ) → AreDigits (take_while is_ascii_digit text)
front_are [] = tt
front_are (b ∷ bs) =
    cond_both (is_ascii_digit b) (1 + prefix_len is_ascii_digit bs) 0 (λ n. AreDigits (take n (b ∷ bs)))
    (λ h. front_by b bs (prefix_len is_ascii_digit bs) h refl (front_are bs)) (λ h. tt)

-- what begins with a byte below the digits is not an exponent
pub exponent_apart : (e : Option Exponent) (b : ℕ) (more : List ℕ) → IsExponent e → b < 48 → ¬ (b ∷ more ≡ exponent_text e)
exponent_apart None b more h k q = absurd cc
exponent_apart (Some e) b more h k q =
    let m : b ≡ e.mark = (heads b e.mark more _ q).0 in
    elim h.0 [ inl f ↦ omega arith | inr f ↦ omega arith ]

-- ---- the parts of what stands after a sign

mark_no_digit : (b : ℕ) → (b ≡ 101) ⊎ (b ≡ 69) → (b < 48) ⊎ (57 < b)
mark_no_digit b (inl e) = inr (omega arith)
mark_no_digit b (inr e) = inr (omega arith)

pub exponent_no_digit : (e : Option Exponent) → IsExponent e → NoDigit (exponent_text e)
exponent_no_digit None h = tt
exponent_no_digit (Some e) h = mark_no_digit e.mark h.0

-- the digits in front of a body, and what stands after them
pub record IsCut (text front rest : List ℕ) : Type 0 where
  pub front_is : take_while is_ascii_digit text ≡ front
  pub rest_is : drop (prefix_len is_ascii_digit text) text ≡ rest

pub cut_at : (ds more text : List ℕ) → AreDigits ds → NoDigit more → text ≡ ds ++ more → IsCut text ds more
cut_at ds more text h k e = rw e (record { front_is = front_digits ds more h k; rest_is = behind_digits ds more h k })

abbrev pub front_of : Body → List ℕ
front_of (Plain whole e) = whole
front_of (Pointed whole fraction e) = whole
front_of (Pair over under) = over

abbrev pub rest_of : Body → List ℕ
rest_of (Plain whole e) = exponent_text e
rest_of (Pointed whole fraction e) = 46 ∷ (fraction ++ exponent_text e)
rest_of (Pair over under) = 47 ∷ under

pub body_cut : (body : Body) (text : List ℕ) → IsBody body → text ≡ body_text body → IsCut text (front_of body) (rest_of body)
body_cut (Plain whole e) text h q = cut_at whole (exponent_text e) text h.0 (exponent_no_digit e h.2) q
body_cut (Pointed whole fraction e) text h q = cut_at whole (46 ∷ (fraction ++ exponent_text e)) text h.0 (inl (omega arith))
    (q ∙ append_assoc whole (46 ∷ fraction) (exponent_text e))
body_cut (Pair over under) text h q = cut_at over (47 ∷ under) text h.0 (inl (omega arith)) q
