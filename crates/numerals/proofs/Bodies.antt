-- What the parts of a body give.
use Rattle.std.proofs.Common.{◌≡◌, ℕ, ◌*◌, ◌<◌, ◌≤◌, ◌⊎◌, inl, inr, List, [], ◌∷◌, ◌++◌, length, drop, pos, ◌-ℤ◌}
use Rattle.std.proofs.Common.{Option, Result, Ok, Err, refl, sym, ap, ap₂, ◌∙◌, arith}
use Rattle.std.specs.List.{prefix_len, take_while}
use Rattle.std.specs.Char.{is_ascii_digit}
use Rattle.std.specs.Str.Parse.{digits_value}
use Rattle.std.proofs.lemmas.List.{append-nil}
use Rattle.numerals.specs.declared.fault.NumberFault.{NumberFault}
use Rattle.numerals.specs.declared.fault.NumberFault.TheVariants.{Empty, BadByte, ZeroDenominator, TooManyDigits}
use Rattle.numerals.specs.declared.size.Size.{Size}
use Rattle.numerals.specs.declared.decimal.Decimal.{Decimal}
use Rattle.numerals.specs.declared.shift.Shift.{Shift}
use Rattle.numerals.specs.Numeral.{AreDigits, Exponent, exponent_text, IsExponent, exponent_of, Plain, Pointed, Pair, value_of, without_leading_zeros}
use Rattle.numerals.specs.Numeral.{HasZeroDenominator, HasTooManyDigits}
use Rattle.numerals.specs.Sizes.{BeginsOtherwise, digits_in, IsDecimalSize, IsBodySize, GivesShift, GivesDecimal, GivesBody}
use Rattle.numerals.proofs.Cut.{front_digits, cut_at, body_cut, exponent_no_digit, exponent_apart}
use Rattle.field_core.proofs.Heads.{heads}
use Rattle.numerals.proofs.Zeros.{no_value, some_value, without_value}

-- ---- pairs, with the parts us and vs without their leading zeros

pub pair_zero : (over under vs : List ℕ) → vs ≡ without_leading_zeros under → length vs ≡ 0 → IsBodySize (Pair over under) (Err ZeroDenominator)
unfolding IsBodySize HasZeroDenominator
pair_zero over under vs f h = no_value under (rw (← f) h)

pub pair_some : (under vs : List ℕ) (n : ℕ) → vs ≡ without_leading_zeros under → AreDigits under → 0 < length vs → n ≡ digits_value 10 vs
    → 0 < n
pair_some under vs n f are some e = rw (e, f, without_value under) (some_value under are (rw (← f) some))

not_zero : (under vs : List ℕ) → vs ≡ without_leading_zeros under → AreDigits under → 0 < length vs → ¬ (digits_value 10 under ≡ 0)
not_zero under vs f are some e = omega (arith, some_value under are (rw (← f) some))

pub pair_long : (over under us vs : List ℕ) → us ≡ without_leading_zeros over → vs ≡ without_leading_zeros under → AreDigits under → 0 < length vs
    → (38 < length us) ⊎ (38 < length vs) → IsBodySize (Pair over under) (Err TooManyDigits)
unfolding IsBodySize HasZeroDenominator HasTooManyDigits
pair_long over under us vs e f are some h = (not_zero under vs f are some, rw (← e, ← f) h)

pub pair_ok : (over under us vs : List ℕ) (x : Size) → us ≡ without_leading_zeros over → vs ≡ without_leading_zeros under → AreDigits under
    → 0 < length vs → length us ≤ 38 → length vs ≤ 38 → x.num ≡ digits_value 10 us → x.den ≡ digits_value 10 vs
    → IsBodySize (Pair over under) (Ok x)
unfolding IsBodySize HasZeroDenominator HasTooManyDigits value_of
pair_ok over under us vs x e f are some h k num den =
    let few : ¬ ((38 < length (without_leading_zeros over)) ⊎ (38 < length (without_leading_zeros under))) =
    rw (← e, ← f) (λ t. elim t [ inl m ↦ omega arith | inr m ↦ omega arith ]) in
    let top : x.num ≡ digits_value 10 over = num ∙ ap (digits_value 10) e ∙ without_value over in
    let low : x.den ≡ digits_value 10 under = den ∙ ap (digits_value 10) f ∙ without_value under in
    (not_zero under vs f are some, (few, ap₂ (λ m n. pos (m * n)) top (sym low)))

-- ---- decimals

plain_fault : (whole : List ℕ) (e : Option Exponent) (f : NumberFault) → IsDecimalSize whole (pos 0 -ℤ exponent_of e) (Err f)
    → IsBodySize (Plain whole e) (Err f)
unfolding IsBodySize HasZeroDenominator HasTooManyDigits IsDecimalSize
plain_fault whole e TooManyDigits h = ((λ z. z), h)
plain_fault whole e Empty h = h
plain_fault whole e (BadByte n) h = h
plain_fault whole e ZeroDenominator h = h

plain_ok : (whole : List ℕ) (e : Option Exponent) (x : Size) → IsDecimalSize whole (pos 0 -ℤ exponent_of e) (Ok x) → IsBodySize (Plain whole e) (Ok x)
unfolding IsBodySize HasZeroDenominator HasTooManyDigits IsDecimalSize value_of
plain_ok whole e x h = ((λ z. z), h)

pub plain : (whole : List ℕ) (e : Option Exponent) (r : Result Size NumberFault) → IsDecimalSize whole (pos 0 -ℤ exponent_of e) r
    → IsBodySize (Plain whole e) r
plain whole e (Ok x) h = plain_ok whole e x h
plain whole e (Err f) h = plain_fault whole e f h

pointed_fault : (whole fraction : List ℕ) (e : Option Exponent) (f : NumberFault)
    → IsDecimalSize (whole ++ fraction) (pos (length fraction) -ℤ exponent_of e) (Err f) → IsBodySize (Pointed whole fraction e) (Err f)
unfolding IsBodySize HasZeroDenominator HasTooManyDigits IsDecimalSize
pointed_fault whole fraction e TooManyDigits h = ((λ z. z), h)
pointed_fault whole fraction e Empty h = h
pointed_fault whole fraction e (BadByte n) h = h
pointed_fault whole fraction e ZeroDenominator h = h

pointed_ok : (whole fraction : List ℕ) (e : Option Exponent) (x : Size)
    → IsDecimalSize (whole ++ fraction) (pos (length fraction) -ℤ exponent_of e) (Ok x) → IsBodySize (Pointed whole fraction e) (Ok x)
unfolding IsBodySize HasZeroDenominator HasTooManyDigits IsDecimalSize value_of
pointed_ok whole fraction e x h = ((λ z. z), h)

pub pointed : (whole fraction : List ℕ) (e : Option Exponent) (r : Result Size NumberFault)
    → IsDecimalSize (whole ++ fraction) (pos (length fraction) -ℤ exponent_of e) r → IsBodySize (Pointed whole fraction e) r
pointed whole fraction e (Ok x) h = pointed_ok whole fraction e x h
pointed whole fraction e (Err f) h = pointed_fault whole fraction e f h

-- ---- what is read of a text

all_digits : (ds : List ℕ) → AreDigits ds → take_while is_ascii_digit ds ≡ ds
all_digits ds h = ap (take_while is_ascii_digit) (sym (append-nil ds)) ∙ front_digits ds [] h tt

-- the rest of a text after the digits in front of it
abbrev behind_front : List ℕ → List ℕ
behind_front text = drop (prefix_len is_ascii_digit text) text

pub read_pair : (text whole more under : List ℕ) (r : Result Size NumberFault) → whole ≡ take_while is_ascii_digit text
    → 47 ∷ more ≡ behind_front text → under ≡ take_while is_ascii_digit more → IsBodySize (Pair whole under) r → GivesBody text r
unfolding GivesBody
read_pair text whole more under r w m u s (Plain a e) is q =
    absurd (exponent_apart e 47 more is.2 (omega arith) (m ∙ (body_cut (Plain a e) text is q).rest_is))
read_pair text whole more under r w m u s (Pointed a b e) is q = let n =
    (heads 47 46 more _ (m ∙ (body_cut (Pointed a b e) text is q).rest_is)).0 in absurd (omega arith)
read_pair text whole more under r w m u s (Pair a b) is q =
    let cut = body_cut (Pair a b) text is q in
    let rest : more ≡ b = (heads 47 47 more b (m ∙ cut.rest_is)).1 in
    let low : under ≡ b = u ∙ ap (take_while is_ascii_digit) rest ∙ all_digits b is.2 in
    rw (w ∙ cut.front_is, low) at s

-- a decimal that was read, its exponent after it
decimal_read : (d : Decimal) (x : Shift) (r : Result Size NumberFault) (tail : List ℕ) (e : Option Exponent) → GivesDecimal d x r → GivesShift tail x
    → IsExponent e → tail ≡ exponent_text e → IsDecimalSize (digits_in d) (pos (length d.fraction.now) -ℤ exponent_of e) r
unfolding GivesDecimal GivesShift
decimal_read d x r tail e g s h q = g (exponent_of e) (s e h q)

pub read_pointed : (text more tail : List ℕ) (d : Decimal) (x : Shift) (r : Result Size NumberFault) → d.whole.now ≡ take_while is_ascii_digit text
    → 46 ∷ more ≡ behind_front text → d.fraction.now ≡ take_while is_ascii_digit more → tail ≡ behind_front more → GivesShift tail x
    → GivesDecimal d x r → GivesBody text r
unfolding GivesBody
read_pointed text more tail d x r w m f t s g (Plain a e) is q =
    absurd (exponent_apart e 46 more is.2 (omega arith) (m ∙ (body_cut (Plain a e) text is q).rest_is))
read_pointed text more tail d x r w m f t s g (Pair a b) is q = let n =
    (heads 46 47 more _ (m ∙ (body_cut (Pair a b) text is q).rest_is)).0 in absurd (omega arith)
read_pointed text more tail d x r w m f t s g (Pointed a b e) is q =
    let cut = body_cut (Pointed a b e) text is q in
    let rest = (heads 46 46 more (b ++ exponent_text e) (m ∙ cut.rest_is)).1 in
    let low = cut_at b (exponent_text e) more is.1 (exponent_no_digit e is.3) rest in
    let size = decimal_read d x r tail e g s is.3 (t ∙ low.rest_is) in
    pointed a b e r (rw (w ∙ cut.front_is, f ∙ low.front_is) at size)

pub read_plain : (text rest : List ℕ) (d : Decimal) (x : Shift) (r : Result Size NumberFault) → d.whole.now ≡ take_while is_ascii_digit text
    → rest ≡ behind_front text → BeginsOtherwise 47 rest → BeginsOtherwise 46 rest → d.fraction.now ≡ [] → GivesShift rest x
    → GivesDecimal d x r → GivesBody text r
unfolding GivesBody
read_plain text rest d x r w m slash point f s g (Plain a e) is q =
    let cut = body_cut (Plain a e) text is q in
    let size = decimal_read d x r rest e g s is.2 (m ∙ cut.rest_is) in
    plain a e r (rw append-nil at (rw (w ∙ cut.front_is, f) at size))
read_plain text rest d x r w m slash point f s g (Pointed a b e) is q = absurd ((rw (m ∙ (body_cut (Pointed a b e) text is q).rest_is) at point) refl)
read_plain text rest d x r w m slash point f s g (Pair a b) is q = absurd ((rw (m ∙ (body_cut (Pair a b) text is q).rest_is) at slash) refl)
