-- The texts of numbers are words.
use Rattle.std.proofs.Common.{◌≡◌, refl, ap₂, ℕ, zero, suc, ◌+◌, ◌^◌, ◌<◌, ◌≤◌, ◌==◌, ◌&&◌, Bool, true, false}
use Rattle.std.proofs.Common.{if◌then◌else◌, List, [], ◌∷◌, ◌++◌, length, map, take, ℤ, pos, negsuc, unsigned_abs, arith}
use Rattle.std.specs.Fmt.{decimal, signed_decimal}
use Rattle.std.specs.List.{join_with_byte}
use Rattle.std.specs.Ordering.{int_eq}
use Rattle.std.specs.Str.Parse.{AllDigits}
use Rattle.std.proofs.lemmas.Bool.Decides.{nat_tests}
use Rattle.std.proofs.lemmas.Fmt.{decimal_is_IsNumeral_wide}
use Rattle.std.proofs.lemmas.Str.Parse.{digit_from_value}
use Rattle.field_core.specs.Kind.{Parts}
use Rattle.field_core.specs.Polynomial.{coefficient}
use Rattle.field_core.specs.Texts.{fraction_text}
use Rattle.fraction.specs.Plain.{IsFraction, pair_of}
use Rattle.fraction.specs.Spelling.{spelling}
use Rattle.eps_poly.specs.Polynomials.{IsPolynomial}
use Rattle.eps_poly.specs.Written.{degree}
use Rattle.eps_quotient.specs.Spelling.{polynomial_text, quotient_text}
use Rattle.eps_quotient.specs.Stored.{IsQuotient}
use Rattle.case_numbers.specs.Numbers.{Numbers, in_fractions, in_quotients, IsStoredIn}
use Rattle.text_lines.specs.Spelling.{IsWord}
use Rattle.edge_text.proofs.CanonicalWords.{is_high, high_word, AreHigh, high_both}
use Rattle.evidence_check.specs.NumberTexts.{number_text}

high_digit : (d : ℕ) → 48 ≤ d → is_high d ≡ true
high_digit d h = grind (arith, nat_tests)

digits_high : (ds : List ℕ) → AllDigits 10 ds → AreHigh ds
digits_high [] h = refl
digits_high (d ∷ ds) h = let r = digit_from_value d h.0 in ap₂ (λ c e. c && e) (high_digit d r.0) (digits_high ds h.1)

-- ---- whole numbers

-- bytes of a word
record AreWord (x : List ℕ) : Type 0 where
  some : 0 < length x
  high : AreHigh x

number_word : (n : ℕ) → n < 2 ^ 127 → AreWord (decimal n)
number_word n h = let d = decimal_is_IsNumeral_wide n (omega arith) in record { some = d.0.0; high = digits_high (decimal n) d.0.1 }

whole_word : (z : ℤ) → unsigned_abs z < 2 ^ 127 → AreWord (signed_decimal z)
whole_word (pos n) h = number_word n h
whole_word (negsuc n) h = record { some = omega arith; high = (number_word (suc n) h).high }

-- ---- fractions

joined : (x y : List ℕ) → AreWord x → AreWord y → AreWord (x ++ 47 ∷ y)
joined [] y h k = absurd (let s = h.some in omega arith)
joined (b ∷ x) y h k = record { some = omega arith; high = high_both (b ∷ x) (47 ∷ y) h.high k.high }

fraction_word : (n d : ℤ) → unsigned_abs n < 2 ^ 127 → unsigned_abs d < 2 ^ 127 → AreWord (fraction_text n d)
fraction_word n d h k = by (int_eq d (pos 1))
  where
    by : (b : Bool) → AreWord (if b then signed_decimal n else signed_decimal n ++ 47 ∷ signed_decimal d)
    by true = whole_word n h
    by false = joined (signed_decimal n) (signed_decimal d) (whole_word n h) (whole_word d k)

spelling_word : (x : Parts) → IsFraction x → AreWord (spelling (pair_of x))
unfolding spelling
spelling_word x f = fraction_word (pair_of x).num (pair_of x).den f.reduced.num_size f.reduced.den_size

-- ---- polynomials

join_first : (x : List ℕ) (xs : List (List ℕ)) → AreHigh x → AreHigh (join_with_byte 44 xs) → AreHigh (join_with_byte 44 (x ∷ xs))
join_first x [] h k = h
join_first x (y ∷ xs) h k = high_both x (44 ∷ join_with_byte 44 (y ∷ xs)) h k

coefficients_high : (n : ℕ) (p : List ℤ) → ((k : ℕ) → unsigned_abs (coefficient p k) < 2 ^ 127)
    → AreHigh (join_with_byte 44 (map signed_decimal (take n p)))
unfolding coefficient
coefficients_high zero p h = refl
coefficients_high (suc n) [] h = refl
coefficients_high (suc n) (c ∷ p) h = join_first (signed_decimal c) (map signed_decimal (take n p)) (whole_word c (h 0)).high
    (coefficients_high n p (λ k. h (suc k)))

list_word : (x : List ℕ) → AreHigh x → AreWord (91 ∷ x ++ 93 ∷ [])
list_word x h = record { some = omega arith; high = high_both x (93 ∷ []) h refl }

polynomial_word : (p : List ℤ) → IsPolynomial p → AreWord (polynomial_text p)
polynomial_word p h = list_word (join_with_byte 44 (map signed_decimal (take (degree p + 1) p))) (coefficients_high (degree p + 1) p h.sizes)

quotient_word : (x : Parts) → IsQuotient x → AreWord (quotient_text x)
unfolding quotient_text
quotient_word x q = by ((degree x.numerator == 0) && (degree x.denominator == 0))
  where
    by : (b : Bool) → AreWord
        (if b then fraction_text (coefficient x.numerator 0)
        (coefficient x.denominator 0) else polynomial_text x.numerator ++ 47 ∷ polynomial_text x.denominator)
    by true = fraction_word (coefficient x.numerator 0) (coefficient x.denominator 0) (q.above.sizes 0) (q.below.sizes 0)
    by false = joined (polynomial_text x.numerator) (polynomial_text x.denominator) (polynomial_word x.numerator q.above)
        (polynomial_word x.denominator q.below)

-- ---- the numbers of a case

number_high : (n : Numbers) (x : Parts) → IsStoredIn n x → AreWord (number_text n x)
number_high in_fractions x s = spelling_word x s
number_high in_quotients x s = quotient_word x s

pub number_is_word : (n : Numbers) (x : Parts) → IsStoredIn n x → IsWord (number_text n x)
number_is_word n x s = let w = number_high n x s in high_word (number_text n x) w.some w.high
