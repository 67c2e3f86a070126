-- Signs in front of texts, and exponents.
use Rattle.std.proofs.Common.{◌≡◌, ◌≢◌, ℕ, suc, ◌^◌, ◌<◌, ◌≤◌, inl, inr, Bool, true, false, eqb, List, [], ◌∷◌, ◌++◌}
use Rattle.std.proofs.Common.{length, drop, min, pos, neg_ℤ, Option, Some, None, refl, sym, ap, subst, ◌∙◌, append_assoc, arith}
use Rattle.std.specs.List.{take_while}
use Rattle.std.specs.Char.{is_ascii_digit}
use Rattle.std.specs.Str.Parse.{starts_with_minus, without_leading_sign, digits_value}
use Rattle.std.proofs.lemmas.Bool.{ne_eqb, cases_lt}
use Rattle.std.proofs.lemmas.Int.{ints}
use Rattle.std.proofs.lemmas.List.{append-nil}
use Rattle.numerals.specs.declared.shift.Shift.{Shift}
use Rattle.numerals.specs.Numeral.{AreDigits, sign_text, IsSign, is_minus, signed, Exponent, exponent_text, IsExponent, exponent_of, Body, Plain, Pointed, Pair}
use Rattle.numerals.specs.Numeral.{body_text, IsBody, IsNumeral}
use Rattle.numerals.specs.Sizes.{IsShift, GivesShift}
use Rattle.numerals.proofs.Cut.{front_digits}

-- a text that doesn't begin with a sign
abbrev pub NoSign : List ℕ → Type 0
NoSign [] = Unit {0}
NoSign (b ∷ bs) = (b ≢ 43) × (b ≢ 45)

unsigned_none : (rest : List ℕ) → NoSign rest → (starts_with_minus rest ≡ false) × (without_leading_sign rest ≡ rest)
unsigned_none [] h = (refl, refl)
unsigned_none (b ∷ bs) h =
    let m : eqb b 45 ≡ false = ne_eqb b 45 h.1 in
    let p : eqb b 43 ≡ false = ne_eqb b 43 h.0 in
    (m, rw (m, p) refl)

-- a text after a sign
pub sign_cut : (sign : Option ℕ) (rest : List ℕ) → IsSign sign → NoSign rest → (starts_with_minus (sign_text sign ++ rest) ≡ is_minus sign)
    × (without_leading_sign (sign_text sign ++ rest) ≡ rest)
sign_cut None rest h k = unsigned_none rest k
sign_cut (Some b) rest (inl e) k = rw e (refl, refl)
sign_cut (Some b) rest (inr e) k = rw e (refl, refl)

pub digits_no_sign : (ds : List ℕ) → AreDigits ds → NoSign ds
digits_no_sign [] h = tt
digits_no_sign (d ∷ ds) h = ((λ e. omega arith), (λ e. omega arith))

no_sign_before : (xs ys : List ℕ) → 0 < length xs → NoSign xs → NoSign (xs ++ ys)
no_sign_before [] ys some h = absurd (omega arith)
no_sign_before (x ∷ xs) ys some h = h

pointed_no_sign : (whole more : List ℕ) → AreDigits whole → NoSign (whole ++ 46 ∷ more)
pointed_no_sign [] more h = ((λ e. omega arith), (λ e. omega arith))
pointed_no_sign (d ∷ ds) more h = ((λ e. omega arith), (λ e. omega arith))

pub body_no_sign : (body : Body) → IsBody body → NoSign (body_text body)
body_no_sign (Plain whole e) h = no_sign_before whole (exponent_text e) h.1 (digits_no_sign whole h.0)
body_no_sign (Pointed whole fraction e) h = subst NoSign (sym (append_assoc whole (46 ∷ fraction) (exponent_text e)))
    (pointed_no_sign whole (fraction ++ exponent_text e) h.0)
body_no_sign (Pair over under) h = no_sign_before over (47 ∷ under) h.1 (digits_no_sign over h.0)

-- the parts of a numeral, as they are read of the text
pub record IsSplit (text : List ℕ) (n : IsNumeral text) : Type 0 where
  pub minus : starts_with_minus text ≡ is_minus n.sign
  pub behind : without_leading_sign text ≡ body_text n.body

pub numeral_split : (text : List ℕ) (n : IsNumeral text) → IsSplit text n
numeral_split text n =
    let cut = sign_cut n.sign (body_text n.body) n.is_sign (body_no_sign n.body n.is_body) in
    record { minus = ap starts_with_minus n.spelt ∙ cut.0; behind = ap without_leading_sign n.spelt ∙ cut.1 }

-- ---- exponents

shift_down : (n size up down : ℕ) → size ≡ min n (2 ^ 100) → up ≡ 0 → down ≡ size → IsShift up down (neg_ℤ (pos n))
shift_down n size up down e f g =
    elim (cases_lt n (2 ^ 100)) [
      | inl near ↦ inl (let d : down ≡ n = omega arith in rw (f, d) (omega (arith, ints)))
      | inr far ↦ inr (inr (f, omega arith, omega (arith, ints)))
    ]

shift_up : (n size up down : ℕ) → size ≡ min n (2 ^ 100) → down ≡ 0 → up ≡ size → IsShift up down (pos n)
shift_up n size up down e f g =
    elim (cases_lt n (2 ^ 100)) [
      | inl near ↦ inl (let d : up ≡ n = omega arith in rw (f, d) (omega (arith, ints)))
      | inr far ↦ inr (inl (omega arith, f, omega (arith, ints)))
    ]

signed_minus : (sign : Option ℕ) (n : ℕ) → is_minus sign ≡ true → signed sign n ≡ neg_ℤ (pos n)
signed_minus sign n h = rw h refl

signed_plus : (sign : Option ℕ) (n : ℕ) → is_minus sign ≡ false → signed sign n ≡ pos n
signed_plus sign n h = rw h refl

-- what is read of a text that is an exponent
record IsReadOf (e : Exponent) (negative : Bool) (digits : List ℕ) : Type 0 where
  minus : negative ≡ is_minus e.sign
  all : digits ≡ e.digits

read_exponent : (e : Exponent) (tail unsigned digits : List ℕ) (negative : Bool) → IsExponent (Some e) → tail ≡ sign_text e.sign ++ e.digits
    → negative ≡ starts_with_minus tail → unsigned ≡ without_leading_sign tail → digits ≡ take_while is_ascii_digit unsigned
    → IsReadOf e negative digits
read_exponent e tail unsigned digits negative h t m u d =
    let s = sign_cut e.sign e.digits h.1 (digits_no_sign e.digits h.2) in
    let all : unsigned ≡ e.digits ++ [] = u ∙ ap without_leading_sign t ∙ s.1 ∙ sym (append-nil e.digits) in
    record { minus = m ∙ ap starts_with_minus t ∙ s.0; all = d ∙ ap (take_while is_ascii_digit) all ∙ front_digits e.digits [] h.2 tt }

shift_by : (e : Exponent) (digits : List ℕ) (negative : Bool) (size : ℕ) (x : Shift) → IsReadOf e negative digits
    → size ≡ min (digits_value 10 digits) (2 ^ 100) → (negative ≡ true → (x.up ≡ 0) × (x.down ≡ size))
    → (negative ≡ false → (x.down ≡ 0) × (x.up ≡ size)) → IsShift x.up x.down (exponent_of (Some e))
shift_by e digits true size x r n down up =
    let d = down refl in
    rw (signed_minus e.sign (digits_value 10 e.digits) (sym r.minus))
    (shift_down (digits_value 10 e.digits) size x.up x.down (n ∙ ap (λ (y : List ℕ). min (digits_value 10 y) (2 ^ 100)) r.all) d.0 d.1)
shift_by e digits false size x r n down up =
    let d = up refl in
    rw (signed_plus e.sign (digits_value 10 e.digits) (sym r.minus))
    (shift_up (digits_value 10 e.digits) size x.up x.down (n ∙ ap (λ (y : List ℕ). min (digits_value 10 y) (2 ^ 100)) r.all) d.0 d.1)

tail_by : (text tail : List ℕ) (e : Exponent) → tail ≡ drop 1 text → text ≡ exponent_text (Some e) → tail ≡ sign_text e.sign ++ e.digits
tail_by text tail e f q = f ∙ ap (drop 1) q

pub no_shift : (text : List ℕ) (x : Shift) → length text < 1 → x.up ≡ 0 → x.down ≡ 0 → GivesShift text x
unfolding GivesShift
no_shift text x h u d None is q = rw (u, d) (inl refl)
no_shift text x h u d (Some e) is q = let l : length text ≡ suc (length (sign_text e.sign ++ e.digits)) = ap length q in absurd (omega arith)

some_shift : (text tail unsigned digits : List ℕ) (negative : Bool) (size : ℕ) (x : Shift) → 1 ≤ length text → tail ≡ drop 1 text
    → negative ≡ starts_with_minus tail → unsigned ≡ without_leading_sign tail → digits ≡ take_while is_ascii_digit unsigned
    → size ≡ min (digits_value 10 digits) (2 ^ 100)
    → (negative ≡ true → (x.up ≡ 0) × (x.down ≡ size)) → (negative ≡ false → (x.down ≡ 0) × (x.up ≡ size)) → GivesShift text x
unfolding GivesShift
some_shift text tail unsigned digits negative size x h t m u d n down up None is q = let l : length text ≡ 0 = ap length q in absurd (omega arith)
some_shift text tail unsigned digits negative size x h t m u d n down up (Some e) is q =
    shift_by e digits negative size x (read_exponent e tail unsigned digits negative is (tail_by text tail e t q) m u d) n down up

pub down_shift : (text tail unsigned digits : List ℕ) (negative : Bool) (size : ℕ) (x : Shift) → 1 ≤ length text → tail ≡ drop 1 text
    → negative ≡ starts_with_minus tail → unsigned ≡ without_leading_sign tail → digits ≡ take_while is_ascii_digit unsigned
    → size ≡ min (digits_value 10 digits) (2 ^ 100)
    → negative ≡ true → x.up ≡ 0 → x.down ≡ size → GivesShift text x
down_shift text tail unsigned digits negative size x h t m u d n e up down =
    some_shift text tail unsigned digits negative size x h t m u d n (λ f. (up, down)) (λ f. absurd (cc))

pub up_shift : (text tail unsigned digits : List ℕ) (negative : Bool) (size : ℕ) (x : Shift) → 1 ≤ length text → tail ≡ drop 1 text
    → negative ≡ starts_with_minus tail → unsigned ≡ without_leading_sign tail → digits ≡ take_while is_ascii_digit unsigned
    → size ≡ min (digits_value 10 digits) (2 ^ 100)
    → negative ≡ false → x.down ≡ 0 → x.up ≡ size → GivesShift text x
up_shift text tail unsigned digits negative size x h t m u d n e down up =
    some_shift text tail unsigned digits negative size x h t m u d n (λ f. absurd (cc)) (λ f. (down, up))
