-- Printed numbers of 128 bits.
use Rattle.std.proofs.Common.{◌≡◌, ℕ, suc, ℤ, pos, negsuc, neg_ℤ, List, ◌∷◌, FitsSigned, Result, Ok, refl, sym, ap, subst, ◌∙◌, arith}
use Rattle.std.specs.Int.{w128}
use Rattle.std.specs.Fmt.{decimal, signed_decimal}
use Rattle.std.specs.Str.{IsAscii, IsUtf8}
use Rattle.std.specs.Str.Parse.{ParsesSigned}
use Rattle.std.proofs.lemmas.Fmt.{decimal_is_IsNumeral_wide, IsAscii-decimal_wide}
use Rattle.std.proofs.lemmas.Result.{Ok-from_Ok_iff}
use Rattle.std.proofs.lemmas.Str.{IsUtf8-from_ascii}
use Rattle.std.proofs.lemmas.Str.Ascii.{IsAscii-cons}
use Rattle.std.proofs.lemmas.Str.Parse.{numerals_by_value, tells_digits, parse_signed_minus, parse_signed_digits}

-- the number that was printed is read
pub parse_printed : {E : Type 0} (z : ℤ) (bs : List ℕ) (r : Result ℤ E)
    → FitsSigned w128 z → bs ≡ signed_decimal z → ParsesSigned w128 10 bs r → r ≡ Ok z
parse_printed (pos n) bs r fits is h =
    let k = decimal_is_IsNumeral_wide n (omega (arith, fits.sfits)) in
    let read = parse_signed_digits (numerals_by_value _ tells_digits) w128 (decimal n) r (subst (λ l. ParsesSigned w128 10 l r) is h) k.0.1 in
    Ok-from_Ok_iff r _ _ read (k.0.0, omega (arith, k.1, fits.sfits)) ∙ ap (λ m. Ok (pos m)) k.1
parse_printed (negsuc n) bs r fits is h =
    let k = decimal_is_IsNumeral_wide (suc n) (omega (arith, fits.sfits)) in
    let read = parse_signed_minus (numerals_by_value _ tells_digits) w128 (45 ∷ decimal (suc n)) r (subst (λ l. ParsesSigned w128 10 l r) is h) refl in
    Ok-from_Ok_iff r _ _ read (k.0.1, k.0.0, omega (arith, k.1, fits.sfits)) ∙ ap (λ m. Ok (neg_ℤ (pos m))) k.1

-- a printed number is a text of ASCII
pub printed_ascii : (z : ℤ) → FitsSigned w128 z → IsAscii (signed_decimal z)
printed_ascii (pos n) fits = IsAscii-decimal_wide n (omega (arith, fits.sfits))
printed_ascii (negsuc n) fits = IsAscii-cons 45 (decimal (suc n)) (omega arith) (IsAscii-decimal_wide (suc n) (omega (arith, fits.sfits)))

pub printed_utf8 : (z : ℤ) (text : List ℕ) → FitsSigned w128 z → text ≡ signed_decimal z → IsUtf8 text
printed_utf8 z text fits is = IsUtf8-from_ascii text (subst IsAscii (sym is) (printed_ascii z fits))
