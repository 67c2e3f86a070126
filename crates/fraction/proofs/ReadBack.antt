-- The text of a fraction reads back.
use Rattle.std.proofs.Common.{◌≡◌, ℕ, ◌^◌, ◌<◌, ◌≤◌, ◌⊎◌, inl, inr, Bool, true, false, List, [], ◌∷◌, ◌++◌, length}
use Rattle.std.proofs.Common.{length-append, ℤ, pos, negsuc, suc, append_assoc, ◌-ℤ◌, ◌*ℤ◌, ◌<ℤ◌, unsigned_abs, Option, Some, None, refl}
use Rattle.std.proofs.Common.{sym, ap, ap₂, ◌∙◌, arith}
use Rattle.std.specs.Fmt.{decimal, signed_decimal}
use Rattle.std.specs.Int.{is_negative}
use Rattle.std.specs.List.{AllByRecursion}
use Rattle.std.specs.Ordering.{int_eq}
use Rattle.std.proofs.lemmas.List.{append-nil}
use Rattle.std.specs.Str.Parse.{AllDigits, digits_value}
use Rattle.std.proofs.lemmas.Bool.Decides.{nat_tests, Decides-int_eq}
use Rattle.std.proofs.lemmas.Bool.{cases_eq, cond_both}
use Rattle.std.proofs.lemmas.Fmt.{decimal_is_IsNumeral_wide, length-decimal-le_wide}
use Rattle.std.proofs.lemmas.Str.Parse.{digit_from_value}
use Rattle.std.proofs.lemmas.Int.{ints}
use Rattle.field_core.specs.Terms.{Terms, IsReduced}
use Rattle.numerals.specs.Numeral.{AreDigits, sign_text, IsSign, is_minus, with_sign, Plain, Pair, IsNumeral, value_of, without_leading_zeros, IsTooLong}
use Rattle.numerals.specs.Numeral.{HasZeroDenominator, HasTooManyDigits, IsNumeralOf}
use Rattle.field_core.specs.Texts.{fraction_text}
use Rattle.fraction.specs.Spelling.{spelling, IsSpellingByte}
use Rattle.numerals.proofs.LowestTerms.{sign_is}
use Rattle.numerals.proofs.Zeros.{length_without_le, trailing_le}
use Rattle.field_core.proofs.Wholes.{one_of_size}

-- ---- decimal digits

pub digits_from : (ds : List ℕ) → AllDigits 10 ds → AreDigits ds
digits_from [] h = tt
digits_from (d ∷ ds) h = let r = digit_from_value d h.0 in (r.0, r.1, digits_from ds h.1)

-- the digits of a number of at most 38 of them
record IsShort (n : ℕ) : Type 0 where
  are : AreDigits (decimal n)
  some : 0 < length (decimal n)
  few : length (decimal n) ≤ 38
  value : digits_value 10 (decimal n) ≡ n

short : (n : ℕ) → n < 10 ^ 38 → IsShort n
short n h =
    let d = decimal_is_IsNumeral_wide n (omega arith) in
    record { are = digits_from (decimal n) d.0.1; some = d.0.0; few = length-decimal-le_wide 38 n (omega arith) h (omega arith); value = d.1 }

few_without : (n : ℕ) → IsShort n → length (without_leading_zeros (decimal n)) ≤ 38
few_without n s = omega (arith, length_without_le (decimal n), s.few)

not_long : (ds : List ℕ) → length ds ≤ 38 → ¬ IsTooLong ds (pos 0 -ℤ pos 0)
unfolding IsTooLong
not_long ds h t =
    let z = trailing_le ds in
    elim t.1 [
      | inl e ↦ omega arith
      | inr r ↦ elim r [ inl e ↦ omega (arith, ints) | inr e ↦ omega (arith, ints, e.1) ]
    ]

-- ---- the parts of a text

sign_of : Bool → Option ℕ
sign_of true = Some 45
sign_of false = None

is_sign : (negative : Bool) → IsSign (sign_of negative)
unfolding sign_of
is_sign true = inr refl
is_sign false = tt

minus_of : (negative : Bool) → is_minus (sign_of negative) ≡ negative
unfolding sign_of
minus_of true = refl
minus_of false = refl

spelt : (z : ℤ) → signed_decimal z ≡ sign_text (sign_of (is_negative z)) ++ decimal (unsigned_abs z)
unfolding sign_of
spelt (pos n) = grind (arith, nat_tests)
spelt (negsuc n) = refl

unsigned : (z : ℤ) → pos 0 <ℤ z → signed_decimal z ≡ decimal (unsigned_abs z)
unsigned (pos n) p = refl
unsigned (negsuc n) p = absurd (omega (arith, ints))

whole_text : (x : Terms) → x.den ≡ pos 1 → spelling x ≡ sign_text (sign_of (is_negative x.num)) ++ decimal (unsigned_abs x.num) ++ []
unfolding spelling
whole_text x e = rw e (spelt x.num ∙ sym (append-nil _))

pub other_text : (n d : ℤ) → (d ≡ pos 1 → ⊥) → fraction_text n d ≡ signed_decimal n ++ 47 ∷ signed_decimal d
other_text n d h = grind (arith, nat_tests, Decides-int_eq)

pair_text : (x : Terms) → pos 0 <ℤ x.den → (x.den ≡ pos 1 → ⊥)
    → spelling x ≡ sign_text (sign_of (is_negative x.num)) ++ decimal (unsigned_abs x.num) ++ 47 ∷ decimal (unsigned_abs x.den)
unfolding spelling
pair_text x p h = other_text x.num x.den h ∙ ap₂ (λ bs cs. bs ++ 47 ∷ cs) (spelt x.num) (unsigned x.den p)

whole_numeral : (x : Terms) → x.den ≡ pos 1 → IsShort (unsigned_abs x.num) → IsNumeral (spelling x)
whole_numeral x e s = record {
  sign = sign_of (is_negative x.num);
  body = Plain (decimal (unsigned_abs x.num)) None;
  is_sign = is_sign (is_negative x.num);
  is_body = (s.are, s.some, tt);
  spelt = whole_text x e ∙ append_assoc (sign_text (sign_of (is_negative x.num))) _ [];
}

pair_numeral : (x : Terms) → pos 0 <ℤ x.den → (x.den ≡ pos 1 → ⊥) → IsShort (unsigned_abs x.num) → IsShort (unsigned_abs x.den)
    → IsNumeral (spelling x)
pair_numeral x p h s t = record {
  sign = sign_of (is_negative x.num);
  body = Pair (decimal (unsigned_abs x.num)) (decimal (unsigned_abs x.den));
  is_sign = is_sign (is_negative x.num);
  is_body = (s.are, s.some, t.are, t.some);
  spelt = pair_text x p h ∙ append_assoc (sign_text (sign_of (is_negative x.num))) _ _;
}

-- ---- their value

num_is : (x : Terms) → IsShort (unsigned_abs x.num)
    → with_sign (is_minus (sign_of (is_negative x.num))) (digits_value 10 (decimal (unsigned_abs x.num))) ≡ x.num
num_is x s = ap₂ with_sign (minus_of (is_negative x.num)) s.value ∙ sym (sign_is x.num)

den_is : (z : ℤ) (n : ℕ) → pos 0 <ℤ z → n ≡ unsigned_abs z → pos n ≡ z
den_is z n p e = omega (arith, ints)

whole_back : (x : Terms) → IsReduced x → x.den ≡ pos 1 → IsShort (unsigned_abs x.num) → IsNumeralOf (spelling x) x
unfolding whole_numeral HasZeroDenominator HasTooManyDigits value_of
whole_back x r e s = record {
  numeral = whole_numeral x e s;
  defined = λ z. z;
  within = not_long (without_leading_zeros (decimal (unsigned_abs x.num))) (few_without (unsigned_abs x.num) s);
  lowest = r;
  same = ap₂ ◌*ℤ◌ (sym (num_is x s)) (sym e);
}

pair_back : (x : Terms) → IsReduced x → (x.den ≡ pos 1 → ⊥) → IsShort (unsigned_abs x.num) → IsShort (unsigned_abs x.den)
    → IsNumeralOf (spelling x) x
unfolding pair_numeral HasZeroDenominator HasTooManyDigits value_of
pair_back x r h s t =
    let num = num_is x s in
    let den : pos (digits_value 10 (decimal (unsigned_abs x.den))) ≡ x.den = den_is x.den _ r.positive t.value in
    let some : ¬ (digits_value 10 (decimal (unsigned_abs x.den)) ≡ 0) = (λ z. let p = r.positive in let v = t.value in omega (arith, ints)) in
    let few : ¬ ((38 < length (without_leading_zeros (decimal (unsigned_abs x.num))))
    ⊎ (38 < length (without_leading_zeros (decimal (unsigned_abs x.den))))) =
    (λ w. elim w [ inl m ↦ omega (arith, few_without (unsigned_abs x.num) s) | inr m ↦ omega (arith, few_without (unsigned_abs x.den) t) ]) in
    record { numeral = pair_numeral x r.positive h s t; defined = some; within = few; lowest = r; same = ap₂ ◌*ℤ◌ (sym num) den }

pub read_back : (x : Terms) → IsReduced x → unsigned_abs x.num < 10 ^ 38 → unsigned_abs x.den < 10 ^ 38 → IsNumeralOf (spelling x) x
read_back x r n d =
    elim (cases_eq (unsigned_abs x.den) 1) [
      | inl one ↦ whole_back x r (one_of_size x.den r.positive one) (short (unsigned_abs x.num) n)
      | inr other ↦ pair_back x r (λ e. other (ap unsigned_abs e)) (short (unsigned_abs x.num) n) (short (unsigned_abs x.den) d)
    ]

-- ---- its bytes

append_bytes : (xs ys : List ℕ) → AllByRecursion IsSpellingByte xs → AllByRecursion IsSpellingByte ys → AllByRecursion IsSpellingByte (xs ++ ys)
append_bytes [] ys h k = k
append_bytes (x ∷ xs) ys h k = (h.0, append_bytes xs ys h.1 k)

digit_bytes : (ds : List ℕ) → AllDigits 10 ds → AllByRecursion IsSpellingByte ds
digit_bytes [] h = tt
digit_bytes (d ∷ ds) h = let r = digit_from_value d h.0 in (inl (r.0, r.1), digit_bytes ds h.1)

decimal_bytes : (n : ℕ) → n < 10 ^ 64 → AllByRecursion IsSpellingByte (decimal n)
decimal_bytes n h = digit_bytes (decimal n) (decimal_is_IsNumeral_wide n h).0.1

number_bytes : (z : ℤ) → unsigned_abs z < 10 ^ 64 → AllByRecursion IsSpellingByte (signed_decimal z)
number_bytes (pos n) h = decimal_bytes n h
number_bytes (negsuc n) h = (inr (inl refl), decimal_bytes (suc n) h)

fraction_bytes : (n d : ℤ) → unsigned_abs n < 10 ^ 64 → unsigned_abs d < 10 ^ 64 → AllByRecursion IsSpellingByte (fraction_text n d)
fraction_bytes n d h k =
    cond_both (int_eq d (pos 1)) (signed_decimal n) (signed_decimal n ++ 47 ∷ signed_decimal d) (AllByRecursion IsSpellingByte)
    (λ e. number_bytes n h) (λ e. append_bytes (signed_decimal n) (47 ∷ signed_decimal d) (number_bytes n h) (inr (inr refl), number_bytes d k))

pub spelling_bytes : (x : Terms) → IsReduced x → AllByRecursion IsSpellingByte (spelling x)
unfolding spelling
spelling_bytes x r = fraction_bytes x.num x.den (omega (arith, r.num_size)) (omega (arith, r.den_size))

number_some : (z : ℤ) → unsigned_abs z < 10 ^ 64 → 0 < length (signed_decimal z)
number_some (pos n) h = (decimal_is_IsNumeral_wide n h).0.0
number_some (negsuc n) h = omega arith

fraction_some : (n d : ℤ) → unsigned_abs n < 10 ^ 64 → 0 < length (fraction_text n d)
fraction_some n d h =
    cond_both (int_eq d (pos 1)) (signed_decimal n) (signed_decimal n ++ 47 ∷ signed_decimal d) (λ bs. 0 < length bs)
    (λ e. number_some n h) (λ e. omega (arith, number_some n h, length-append (signed_decimal n) (47 ∷ signed_decimal d)))

pub spelling_some : (x : Terms) → IsReduced x → 0 < length (spelling x)
unfolding spelling
spelling_some x r = fraction_some x.num x.den (omega (arith, r.num_size))
