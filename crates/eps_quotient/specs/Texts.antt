-- The texts that are read as quotients, and the quotients that they denote.
use Rattle.std.specs.Prelude.{◌==◌, ◌&&◌, ◌^◌, ℕ, nat_lt, nat_le, Bool, true, false, if◌then◌else◌, ℤ, pos, neg_ℤ, List, [], ◌∷◌}
use Rattle.std.specs.Prelude.{length, Option, Some, None, option_map, option_and_then}
use Rattle.std.specs.Char.{is_ascii_digit}
use Rattle.std.specs.List.{list_all, slice_split}
use Rattle.std.specs.Option.{option_or}
use Rattle.std.specs.Str.Parse.{digits_value}
use Rattle.field_core.specs.Kind.{Parts, is_zero_integer}
use Rattle.field_core.specs.Polynomial.{coefficient, lowest}
use Rattle.eps_poly.specs.Polynomials.{by_powers, monomial}
use Rattle.eps_quotient.specs.Lowering.{norm, one_polynomial}

-- ---- whole numbers

-- whether there is a byte
abbrev pub is_some_text : List ℕ → Bool
is_some_text [] = false
is_some_text (b ∷ bs) = true

-- the number that a text of digits denotes, if it is at most 2^127 - 1
unfoldable pub number_of : List ℕ → Option ℤ
number_of text = if (is_some_text text && list_all is_ascii_digit text)
    && nat_lt (digits_value 10 text) (2 ^ 127) then Some (pos (digits_value 10 text)) else None

-- the number that a text of digits denotes, perhaps after a minus, if it is at most 2^127 - 1 in size
unfoldable pub whole_of : List ℕ → Option ℤ
whole_of [] = None
whole_of (b ∷ bs) = if b == 45 then option_map neg_ℤ (number_of bs) else number_of (b ∷ bs)

-- the numbers of words, if each word denotes one
unfoldable pub wholes_of : List (List ℕ) → Option (List ℤ)
wholes_of [] = Some []
wholes_of (word ∷ words) = option_and_then (λ c. option_map (λ cs. c ∷ cs) (wholes_of words)) (whole_of word)

-- ---- polynomials

-- the polynomial whose coefficients are these words, at most 33, by ascending power, and 0 after them
unfoldable pub polynomial_of : List (List ℕ) → Option (List ℤ)
polynomial_of words = if nat_le (length words) 33 then option_map (λ cs. by_powers (coefficient cs)) (wholes_of words) else None

-- what is before a bracket that closes the text
abbrev pub closed : List ℕ → Option (List ℕ)
closed [] = None
closed (b ∷ []) = if b == 93 then Some [] else None
closed (b ∷ c ∷ bs) = option_map (λ inner. b ∷ inner) (closed (c ∷ bs))

-- what is inside the brackets
abbrev pub inside : List ℕ → Option (List ℕ)
inside [] = None
inside (b ∷ bs) = if b == 91 then closed bs else None

-- the polynomial of coefficients in brackets, with commas between them
abbrev pub list_in : List ℕ → Option (List ℤ)
list_in text = option_and_then (λ inner. polynomial_of (slice_split (λ b. b == 44) inner)) (inside text)

-- ---- two polynomials

-- a whole number over a number
abbrev pub fraction_in : List ℕ → List ℕ → Option (List ℤ × List ℤ)
fraction_in over under = option_and_then (λ n. option_map (λ d. (monomial n 0, monomial d 0)) (number_of under)) (whole_of over)

-- a list over a list
abbrev pub lists_in : List ℕ → List ℕ → Option (List ℤ × List ℤ)
lists_in over under = option_and_then (λ n. option_map (λ d. (n, d)) (list_in under)) (list_in over)

-- a whole number over 1
abbrev pub whole_in : List ℕ → Option (List ℤ × List ℤ)
whole_in text = option_map (λ n. (monomial n 0, one_polynomial)) (whole_of text)

-- what is before the first such byte and after it, if there is one
abbrev pub cut : ℕ → List ℕ → Option (List ℕ × List ℕ)
cut byte [] = None
cut byte (b ∷ bs) = if b == byte then Some ([], bs) else option_map (λ x. (b ∷ x.0, x.1)) (cut byte bs)

-- the two polynomials of a text, given what is before and after its first slash, if it has one
abbrev pub by_sides : List ℕ → Option (List ℕ × List ℕ) → Option (List ℤ × List ℤ)
by_sides text None = whole_in text
by_sides text (Some x) = option_or (fraction_in x.0 x.1) (lists_in x.0 x.1)

-- the two polynomials of a text; the second may be 0
unfoldable pub polynomials_in : List ℕ → Option (List ℤ × List ℤ)
polynomials_in text = by_sides text (cut 47 text)

-- ---- quotients

-- the stored quotient of a text, unless its second polynomial is 0
unfoldable pub quotient_in : List ℕ → Option Parts
quotient_in text = option_and_then (λ x. if is_zero_integer (lowest x.1) then None else Some (norm x.0 x.1)) (polynomials_in text)
