-- The text of a stored quotient reads back.
use Rattle.std.proofs.Common.{◌≡◌, ◌≢◌, ◌⊎◌, ℕ, zero, suc, ◌+◌, ◌<◌, ◌≤◌, ◌^◌, ◌==◌, ◌&&◌, Bool, true, false, List, [], ◌∷◌}
use Rattle.std.proofs.Common.{◌++◌, length, take, map, refl, sym, ◌∙◌, ap, ap₂, arith, lit<, ◌<ℤ◌, ℤ, pos, negsuc, neg_ℤ, unsigned_abs, inl, inr}
use Rattle.std.proofs.Common.{if◌then◌else◌, nat_le, nat_lt, Some, None}
use Rattle.std.specs.Prelude.{option_map, option_and_then}
use Rattle.std.specs.Option.{option_or}
use Rattle.std.specs.Char.{is_ascii_digit}
use Rattle.std.specs.Fmt.{decimal, signed_decimal}
use Rattle.std.specs.List.{list_all, slice_split, join_with_byte}
use Rattle.std.specs.Ordering.{int_eq}
use Rattle.std.specs.Str.Parse.{AllDigits, digits_value}
use Rattle.std.proofs.lemmas.Bool.{and_parts, cases_lt, eqb-true, ne_eqb}
use Rattle.std.proofs.lemmas.Bool.Decides.{nat_tests, Decides-int_eq}
use Rattle.std.proofs.lemmas.Fmt.{decimal_is_IsNumeral_wide}
use Rattle.std.proofs.lemmas.Str.Parse.{digit_from_value}
use Rattle.std.proofs.lemmas.List.{length-map, length-take-le}
use Rattle.std.proofs.lemmas.List.Elements.{All-nil, All-cons, All-append}
use Rattle.std.proofs.lemmas.List.Splits.{slice_split_none, slice_split_at}
use Rattle.std.proofs.lemmas.Int.{ints}
use Rattle.field_core.specs.Kind.{Parts, is_zero_integer}
use Rattle.field_core.specs.Polynomial.{coefficient, lowest, IsNonZero}
use Rattle.eps_poly.specs.Polynomials.{IsPolynomial, by_powers, monomial}
use Rattle.eps_poly.specs.Written.{degree}
use Rattle.eps_poly.proofs.Coefficients.{same_polynomials, coefficient-past, length-by_powers, coefficient-by_powers}
use Rattle.eps_poly.proofs.DegreeLaws.{coefficient-above_degree, degree_at_most}
use Rattle.eps_poly.proofs.OrderLaws.{coefficient-order}
use Rattle.eps_poly.specs.Factors.{order}
use Rattle.eps_quotient.specs.Laws.LimitTerms.{first_above}
use Rattle.eps_quotient.specs.Laws.NormAgain.{norm_again}
use Rattle.eps_quotient.specs.Lowering.{norm, one_polynomial}
use Rattle.eps_quotient.specs.Texts.{is_some_text, number_of, whole_of, wholes_of, polynomial_of, list_in, fraction_in, lists_in, polynomials_in, quotient_in}
use Rattle.field_core.specs.Texts.{fraction_text}
use Rattle.eps_quotient.specs.Spelling.{list_text, polynomial_text, quotient_text}
use Rattle.eps_quotient.specs.Stored.{IsQuotient}
use Rattle.eps_quotient.specs.Laws.Exact.{some_below}
use Rattle.eps_quotient.specs.Laws.Multiples.{length-monomial, monomial-at, monomial-other}
use Rattle.eps_quotient.proofs.ReadSteps.{digit_at}
use Rattle.eps_quotient.proofs.Spelled.{lists_text}
use Rattle.eps_quotient.proofs.Texts.{IsFree, cut_none, cut_at, inside_found}
use Rattle.field_core.proofs.Wholes.{is_zero_true}

-- ---- numbers

all_ascii : (ds : List ℕ) → AllDigits 10 ds → list_all is_ascii_digit ds ≡ true
all_ascii [] h = refl
all_ascii (d ∷ ds) h = let r = digit_from_value d h.0 in grind (arith, nat_tests, all_ascii ds h.1)

some_text : (text : List ℕ) → 0 < length text → is_some_text text ≡ true
some_text [] h = absurd (omega arith)
some_text (b ∷ bs) h = refl

-- a decimal has digits, and they denote its number
decimal_digits : (n : ℕ) → n < 2 ^ 127 → (0 < length (decimal n)) × (list_all is_ascii_digit (decimal n) ≡ true) × (digits_value 10 (decimal n) ≡ n)
decimal_digits n h = let d = decimal_is_IsNumeral_wide n (omega arith) in (d.0.0, all_ascii (decimal n) d.0.1, d.1)

number_back : (n : ℕ) → n < 2 ^ 127 → number_of (decimal n) ≡ Some (pos n)
unfolding number_of
number_back n h =
    let d = decimal_digits n h in
    let small : nat_lt n (2 ^ 127) ≡ true = grind (arith, nat_tests) in
    rw (some_text (decimal n) d.0, d.1, d.2, small) refl

whole_plain : (text : List ℕ) → 0 < length text → list_all is_ascii_digit text ≡ true → whole_of text ≡ number_of text
unfolding whole_of
whole_plain [] some h = absurd (omega arith)
whole_plain (b ∷ bs) some h =
    let d = digit_at (b ∷ bs) 0 h (omega arith) in
    ap (λ t. if t then option_map neg_ℤ (number_of bs) else number_of (b ∷ bs)) (ne_eqb b 45 (λ e. absurd (omega arith)))

whole_back : (z : ℤ) → unsigned_abs z < 2 ^ 127 → whole_of (signed_decimal z) ≡ Some z
unfolding whole_of
whole_back (pos n) h = let d = decimal_digits n h in whole_plain (decimal n) d.0 d.1 ∙ number_back n h
whole_back (negsuc n) h = ap (option_map neg_ℤ) (number_back (suc n) h)

wholes_back : (cs : List ℤ) → ((k : ℕ) → unsigned_abs (coefficient cs k) < 2 ^ 127) → wholes_of (map signed_decimal cs) ≡ Some cs
unfolding wholes_of coefficient
wholes_back [] h = refl
wholes_back (c ∷ cs) h = rw (whole_back c (h 0), wholes_back cs (λ k. h (suc k))) refl

-- ---- bytes that aren't in numbers

-- neither a digit nor a minus
abbrev IsMark : ℕ → Type 0
IsMark byte = ((byte < 48) ⊎ (57 < byte)) × (byte ≢ 45)

free_none : (byte : ℕ) → IsFree byte []
free_none byte = All-nil (λ b. (b == byte) ≡ false)

free_more : (byte b : ℕ) (bs : List ℕ) → b ≢ byte → IsFree byte bs → IsFree byte (b ∷ bs)
free_more byte b bs apart free = All-cons (λ b. (b == byte) ≡ false) b bs (ne_eqb b byte apart) free

free_append : (byte : ℕ) (xs ys : List ℕ) → IsFree byte xs → IsFree byte ys → IsFree byte (xs ++ ys)
free_append byte xs ys f g = All-append (λ b. (b == byte) ≡ false) xs ys f g

other_digit : (byte d : ℕ) → (byte < 48) ⊎ (57 < byte) → (48 ≤ d) × (d ≤ 57) → d ≢ byte
other_digit byte d mark bounds e = elim mark [ inl l ↦ omega (arith, bounds) | inr l ↦ omega (arith, bounds) ]

digits_free : (byte : ℕ) → IsMark byte → (ds : List ℕ) → list_all is_ascii_digit ds ≡ true → IsFree byte ds
digits_free byte mark [] h = free_none byte
digits_free byte mark (d ∷ ds) h =
    free_more byte d ds (other_digit byte d mark.0 (digit_at (d ∷ ds) 0 h (omega arith)))
    (digits_free byte mark ds (and_parts (is_ascii_digit d) (list_all is_ascii_digit ds) h).1)

whole_free : (byte : ℕ) → IsMark byte → (z : ℤ) → unsigned_abs z < 2 ^ 127 → IsFree byte (signed_decimal z)
whole_free byte mark (pos n) h = digits_free byte mark (decimal n) (decimal_digits n h).1
whole_free byte mark (negsuc n) h =
    free_more byte 45 (decimal (suc n)) (λ e. mark.1 (sym e)) (digits_free byte mark (decimal (suc n)) (decimal_digits (suc n) h).1)

comma : IsMark 44
comma = (inl (omega arith), λ e. absurd (omega arith))

slash : IsMark 47
slash = (inl (omega arith), λ e. absurd (omega arith))

-- ---- lists

-- each coefficient is within its size
abbrev AreHeld : List ℤ → Type 0
AreHeld cs = (k : ℕ) → unsigned_abs (coefficient cs k) < 2 ^ 127

first_held : (c : ℤ) (cs : List ℤ) → AreHeld (c ∷ cs) → unsigned_abs c < 2 ^ 127
unfolding coefficient
first_held c cs h = h 0

rest_held : (c : ℤ) (cs : List ℤ) → AreHeld (c ∷ cs) → AreHeld cs
unfolding coefficient
rest_held c cs h k = h (suc k)

split_back : (cs : List ℤ) → AreHeld cs → 0 < length cs
    → slice_split (λ b. b == 44) (join_with_byte 44 (map signed_decimal cs)) ≡ map signed_decimal cs
split_back [] h some = absurd (omega arith)
split_back (c ∷ []) h some = slice_split_none (λ b. b == 44) (signed_decimal c) (whole_free 44 comma c (first_held c [] h))
split_back (c ∷ d ∷ cs) h some =
    slice_split_at (λ b. b == 44) (signed_decimal c) 44 (join_with_byte 44 (map signed_decimal (d ∷ cs))) (whole_free 44 comma c (first_held c (d ∷ cs) h)) refl
    ∙ ap (λ ws. signed_decimal c ∷ ws) (split_back (d ∷ cs) (rest_held c (d ∷ cs) h) (omega arith))

joined_free : (cs : List ℤ) → AreHeld cs → IsFree 47 (join_with_byte 44 (map signed_decimal cs))
joined_free [] h = free_none 47
joined_free (c ∷ []) h = whole_free 47 slash c (first_held c [] h)
joined_free (c ∷ d ∷ cs) h =
    free_append 47 (signed_decimal c) (44 ∷ join_with_byte 44 (map signed_decimal (d ∷ cs))) (whole_free 47 slash c (first_held c (d ∷ cs) h))
    (free_more 47 44 (join_with_byte 44 (map signed_decimal (d ∷ cs))) (λ e. absurd (omega arith)) (joined_free (d ∷ cs) (rest_held c (d ∷ cs) h)))

list_free : (cs : List ℤ) → AreHeld cs → IsFree 47 (list_text cs)
list_free cs h =
    free_more 47 91 _ (λ e. absurd (omega arith))
    (free_append 47 (join_with_byte 44 (map signed_decimal cs)) (93 ∷ []) (joined_free cs h)
    (free_more 47 93 [] (λ e. absurd (omega arith)) (free_none 47)))

front_coefficient : (p : List ℤ) (n k : ℕ) → k < n → coefficient (take n p) k ≡ coefficient p k
unfolding coefficient
front_coefficient p zero k h = absurd (omega arith)
front_coefficient [] (suc n) k h = refl
front_coefficient (c ∷ p) (suc n) zero h = refl
front_coefficient (c ∷ p) (suc n) (suc k) h = front_coefficient p n k (omega arith)

past_coefficient : (p : List ℤ) (n k : ℕ) → n ≤ k → coefficient (take n p) k ≡ pos 0
unfolding coefficient
past_coefficient p zero k h = refl
past_coefficient [] (suc n) k h = refl
past_coefficient (c ∷ p) (suc n) zero h = absurd (omega arith)
past_coefficient (c ∷ p) (suc n) (suc k) h = past_coefficient p n k (omega arith)

front_size : (p : List ℤ) (n k : ℕ) → IsPolynomial p → unsigned_abs (coefficient (take n p) k) < 2 ^ 127
front_size p n k held = elim (cases_lt k n) [
  | inl h ↦ rw (front_coefficient p n k h) (held.sizes k)
  | inr h ↦ rw (past_coefficient p n k h) (lit< tt)
]

coefficients_back : (cs : List ℤ) → AreHeld cs → length cs ≤ 33 → polynomial_of (map signed_decimal cs) ≡ Some (by_powers (coefficient cs))
unfolding polynomial_of
coefficients_back cs h few =
    let fits : nat_le (length cs) 33 ≡ true = grind (arith, nat_tests) in
    rw (length-map, fits, wholes_back cs h) refl

polynomial_back : (p : List ℤ) → IsPolynomial p → list_in (polynomial_text p) ≡ Some p
polynomial_back p held =
    let n = degree p + 1 in
    let cs = take n p in
    let within : degree p ≤ 32 = degree_at_most p 32 (λ k h. coefficient-past p k (let c = held.count in omega arith)) in
    let long : length cs ≡ n = length-take-le n p (let c = held.count in omega arith) in
    let sizes : AreHeld cs = λ k. front_size p n k held in
    ap (option_and_then (λ inner. polynomial_of (slice_split (λ b. b == 44) inner))) (inside_found (list_text cs) (join_with_byte 44 (map signed_decimal cs)) refl)
    ∙ ap polynomial_of (split_back cs sizes (omega arith)) ∙ coefficients_back cs sizes (omega arith)
    ∙ ap Some (sym (same_polynomials p (by_powers (coefficient cs)) (held.count ∙ sym (length-by_powers (coefficient cs))) (λ k h.
    sym (coefficient-by_powers (coefficient cs) k (let c = held.count in omega arith) ∙ elim (cases_lt k n) [
      | inl l ↦ front_coefficient p n k l
      | inr l ↦ past_coefficient p n k l ∙ sym (coefficient-above_degree p k (omega arith))
    ]))))

-- ---- constants

above_none : (p : List ℤ) (k : ℕ) → degree p ≡ 0 → coefficient p (suc k) ≡ pos 0
above_none p k e = coefficient-above_degree p (suc k) (omega arith)

constant : (p : List ℤ) → length p ≡ 33 → degree p ≡ 0 → p ≡ monomial (coefficient p 0) 0
constant p count e = same_polynomials p (monomial (coefficient p 0) 0) (count ∙ sym (length-monomial (coefficient p 0) 0)) each
  where
    each : (k : ℕ) → k < length p → coefficient p k ≡ coefficient (monomial (coefficient p 0) 0) k
    each zero h = sym (monomial-at (coefficient p 0) 0 (omega arith))
    each (suc k) h = above_none p k e ∙ sym (monomial-other (coefficient p 0) 0 (suc k) (λ z. absurd (omega arith)))

constant_some : (p : List ℤ) → IsNonZero p → degree p ≡ 0 → ¬ (coefficient p 0 ≡ pos 0)
constant_some p some e z = some (sym (coefficient-order p) ∙ each (order p))
  where
    each : (k : ℕ) → coefficient p k ≡ pos 0
    each zero = z
    each (suc k) = above_none p k e

positive_back : (z : ℤ) → pos 0 <ℤ z → unsigned_abs z < 2 ^ 127 → number_of (signed_decimal z) ≡ Some z
positive_back (pos n) h small = number_back n small
positive_back (negsuc n) h small = absurd (omega (arith, ints))

-- ---- the forms

-- a text without a slash denotes a whole number over 1
one_side : (text : List ℕ) (z : ℤ) → IsFree 47 text → whole_of text ≡ Some z → polynomials_in text ≡ Some (monomial z 0, one_polynomial)
unfolding polynomials_in
one_side text z free e = rw (cut_none 47 text free, e) refl

-- a text with a slash denotes what its sides denote
two_sides : (text over under : List ℕ) → text ≡ over ++ 47 ∷ under → IsFree 47 over
    → polynomials_in text ≡ option_or (fraction_in over under) (lists_in over under)
unfolding polynomials_in
two_sides text over under e free = rw (cut_at 47 text over under e free) refl

fraction_back : (n d : ℤ) → unsigned_abs n < 2 ^ 127 → pos 0 <ℤ d → unsigned_abs d < 2 ^ 127
    → fraction_in (signed_decimal n) (signed_decimal d) ≡ Some (monomial n 0, monomial d 0)
fraction_back n d n_size up d_size = rw (whole_back n n_size, positive_back d up d_size) refl

no_fraction : (cs : List ℤ) (under : List ℕ) → fraction_in (list_text cs) under ≡ None
unfolding whole_of number_of
no_fraction cs under = refl

lists_back : (over under : List ℕ) (n d : List ℤ) → list_in over ≡ Some n → list_in under ≡ Some d → lists_in over under ≡ Some (n, d)
lists_back over under n d e f = rw (e, f) refl

constants_text : (x : Parts) → ((degree x.numerator == 0) && (degree x.denominator == 0)) ≡ true
    → quotient_text x ≡ fraction_text (coefficient x.numerator 0) (coefficient x.denominator 0)
unfolding quotient_text
constants_text x e = rw e refl

constants_back : (x : Parts) → IsQuotient x → degree x.numerator ≡ 0 → degree x.denominator ≡ 0 → (t : Bool)
    → int_eq (coefficient x.denominator 0) (pos 1) ≡ t
    → quotient_text x ≡ (if t then signed_decimal (coefficient x.numerator 0) else signed_decimal (coefficient x.numerator 0) ++ 47 ∷ signed_decimal
    (coefficient x.denominator 0))
    → polynomials_in (quotient_text x) ≡ Some (x.numerator, x.denominator)
constants_back x s e f true h text =
    let n = coefficient x.numerator 0 in
    let one : one_polynomial ≡ x.denominator =
    sym (constant x.denominator s.below.count f ∙ ap (λ c. monomial c 0) ((Decides-int_eq (coefficient x.denominator 0) (pos 1)).0 h)) in
    ap polynomials_in text ∙ one_side (signed_decimal n) n (whole_free 47 slash n (s.above.sizes 0)) (whole_back n (s.above.sizes 0))
    ∙ ap₂ (λ a b. Some (a, b)) (sym (constant x.numerator s.above.count e)) one
constants_back x s e f false h text =
    let n = coefficient x.numerator 0 in
    let d = coefficient x.denominator 0 in
    let up : pos 0 <ℤ d = first_above x.denominator s.positive (constant_some x.denominator (some_below x s) f) in
    two_sides (quotient_text x) (signed_decimal n) (signed_decimal d) text (whole_free 47 slash n (s.above.sizes 0))
    ∙ ap (λ r. option_or r (lists_in (signed_decimal n) (signed_decimal d))) (fraction_back n d (s.above.sizes 0) up (s.below.sizes 0))
    ∙ ap₂ (λ a b. Some (a, b)) (sym (constant x.numerator s.above.count e)) (sym (constant x.denominator s.below.count f))

text_back : (x : Parts) → IsQuotient x → (t : Bool) → ((degree x.numerator == 0) && (degree x.denominator == 0)) ≡ t
    → polynomials_in (quotient_text x) ≡ Some (x.numerator, x.denominator)
text_back x s true h =
    let b = and_parts (degree x.numerator == 0) (degree x.denominator == 0) h in
    constants_back x s (eqb-true (degree x.numerator) 0 b.0) (eqb-true (degree x.denominator) 0 b.1) (int_eq (coefficient x.denominator 0) (pos 1)) refl
    (constants_text x h)
text_back x s false h =
    let over = polynomial_text x.numerator in
    let under = polynomial_text x.denominator in
    let front = take (degree x.numerator + 1) x.numerator in
    two_sides (quotient_text x) over under (lists_text x h) (list_free front (λ k. front_size x.numerator (degree x.numerator + 1) k s.above))
    ∙ ap (λ r. option_or r (lists_in over under)) (no_fraction front under)
    ∙ lists_back over under x.numerator x.denominator (polynomial_back x.numerator s.above) (polynomial_back x.denominator s.below)

-- two polynomials, of which the second isn't 0, are a quotient
quotient_of_two : (text : List ℕ) (n d : List ℤ) → polynomials_in text ≡ Some (n, d) → IsNonZero d → quotient_in text ≡ Some (norm n d)
unfolding quotient_in
quotient_of_two text n d e some = rw e (nonzero (is_zero_integer (lowest d)) refl)
  where
    nonzero : (t : Bool) → is_zero_integer (lowest d) ≡ t → (if t then None else Some (norm n d)) ≡ Some (norm n d)
    nonzero true z = absurd (some (is_zero_true (lowest d) z))
    nonzero false z = refl

pub reads_back : (x : Parts) → IsQuotient x → quotient_in (quotient_text x) ≡ Some x
reads_back x s =
    quotient_of_two (quotient_text x) x.numerator x.denominator (text_back x s ((degree x.numerator == 0) && (degree x.denominator == 0)) refl)
    (some_below x s)
    ∙ ap Some (norm_again x s)
