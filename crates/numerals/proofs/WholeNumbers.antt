-- Texts of digits, and the numbers that they write.
use Rattle.std.proofs.Common.{◌≡◌, ◌<◌, ◌≤◌, ◌^◌, ℕ, ◌&&◌, true, false, List, [], ◌∷◌, length, refl, sym, ap₂, ◌∙◌}
use Rattle.std.proofs.Common.{arith}
use Rattle.std.specs.Str.Parse.{digits_value}
use Rattle.std.specs.Char.{is_ascii_digit}
use Rattle.std.specs.List.{list_all}
use Rattle.std.proofs.lemmas.Bool.{and_parts}
use Rattle.std.proofs.Math.Nat.{pow-le-pow_right}
use Rattle.numerals.specs.Numeral.{AreDigits}
use Rattle.numerals.specs.WholeNumbers.{WritesNumber}
use Rattle.numerals.proofs.Classes.{digit_in, digit_test}

pub are_digits : (text : List ℕ) → list_all is_ascii_digit text ≡ true → AreDigits text
are_digits [] h = tt
are_digits (b ∷ bs) h =
    let parts = and_parts (is_ascii_digit b) (list_all is_ascii_digit bs) h in
    let bounds = digit_in b parts.0 in
    (bounds.0, bounds.1, are_digits bs parts.1)

pub digits_tested : (text : List ℕ) → AreDigits text → list_all is_ascii_digit text ≡ true
digits_tested [] h = refl
digits_tested (b ∷ bs) h = ap₂ (λ x y. x && y) (digit_test b h.0 h.1) (digits_tested bs h.2)

pub empty_none : (most : ℕ) (text : List ℕ) → length text ≡ 0 → (n : ℕ) → WritesNumber most text n → ⊥
empty_none most text e n h = let some : 0 < length text = h.some in omega arith

pub long_none : (most : ℕ) (text : List ℕ) → most < length text → (n : ℕ) → WritesNumber most text n → ⊥
long_none most text l n h = let few : length text ≤ most = h.few in omega arith

pub other_none : (most : ℕ) (text : List ℕ) → list_all is_ascii_digit text ≡ false → (n : ℕ) → WritesNumber most text n → ⊥
other_none most text f n h = let e : true ≡ false = sym (digits_tested text h.digits) ∙ f in cc

pub number_found : (most : ℕ) (text : List ℕ) (n : ℕ) → list_all is_ascii_digit text ≡ true → 0 < length text → length text ≤ most
    → n ≡ digits_value 10 text → WritesNumber most text n
number_found most text n d s f e = record { digits = are_digits text d; some = s; few = f; writes = e }

pub number_below : (most : ℕ) (text : List ℕ) (n : ℕ) → length text ≤ most → n < 10 ^ length text → n < 10 ^ most
number_below most text n f b = let p : 10 ^ length text ≤ 10 ^ most = pow-le-pow_right (omega arith) f in omega (arith, b, p)

-- the answers of `whole_number`
pub ruleset whole_numbers = (empty_none, long_none, other_none, are_digits, number_found, number_below)
