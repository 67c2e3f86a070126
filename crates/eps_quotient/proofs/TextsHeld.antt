-- What texts denote can be stored.
use Rattle.std.proofs.Common.{◌≡◌, ◌∙◌, refl, sym, subst, inl, inr, ℕ, zero, suc, ◌<◌, ◌^◌, ◌==◌, ◌&&◌, nat_lt, nat_le, Bool, true, false}
use Rattle.std.proofs.Common.{List, [], ◌∷◌, Option, Some, None, arith, lit<, lit≤, ℤ, pos, neg_ℤ, unsigned_abs, if◌then◌else◌}
use Rattle.std.specs.Prelude.{length, option_map, option_and_then}
use Rattle.std.specs.Char.{is_ascii_digit}
use Rattle.std.specs.List.{list_all, slice_split}
use Rattle.std.specs.Option.{option_or}
use Rattle.std.specs.Str.Parse.{digits_value}
use Rattle.std.proofs.lemmas.Bool.{and_parts, cases_lt}
use Rattle.std.proofs.lemmas.Bool.Decides.{nat_tests}
use Rattle.std.proofs.lemmas.Option.{option_and_then_some}
use Rattle.field_core.specs.Kind.{Parts, is_zero_integer}
use Rattle.field_core.specs.Polynomial.{coefficient, lowest}
use Rattle.field_core.proofs.Wholes.{size_negated, is_zero_false}
use Rattle.eps_poly.specs.Polynomials.{IsPolynomial, by_powers, monomial}
use Rattle.eps_poly.proofs.Coefficients.{length-by_powers, coefficient-by_powers, coefficient-past}
use Rattle.eps_quotient.specs.Lowering.{norm, one_polynomial}
use Rattle.eps_quotient.specs.Laws.Cuts.{monomial_held}
use Rattle.eps_quotient.specs.Laws.LowerLaws.{one_held}
use Rattle.eps_quotient.specs.Laws.NormLaws.{norm_is}
use Rattle.eps_quotient.specs.Stored.{IsQuotient}
use Rattle.eps_quotient.specs.Texts.{is_some_text, number_of, whole_of, wholes_of, polynomial_of, inside, list_in, fraction_in, lists_in, whole_in, cut}
use Rattle.eps_quotient.specs.Texts.{by_sides, polynomials_in, quotient_in}

-- ---- whole numbers

-- a part is within its size
abbrev IsPart : ℤ → Type 0
IsPart z = unsigned_abs z < 2 ^ 127

number_size : (text : List ℕ) (z : ℤ) → number_of text ≡ Some z → IsPart z
unfolding number_of
number_size text z e = by ((is_some_text text && list_all is_ascii_digit text) && nat_lt (digits_value 10 text) (2 ^ 127)) refl e
  where
    small : (n : ℕ) → nat_lt n (2 ^ 127) ≡ true → n < 2 ^ 127
    small n h = grind (arith, nat_tests)

    by : (t : Bool) → ((is_some_text text && list_all is_ascii_digit text) && nat_lt (digits_value 10 text) (2 ^ 127)) ≡ t
        → (if t then Some (pos (digits_value 10 text)) else None) ≡ Some z → IsPart z
    by true h e =
        let same : pos (digits_value 10 text) ≡ z = cc in
        let h : nat_lt (digits_value 10 text) (2 ^ 127) ≡ true = (and_parts (is_some_text text && list_all is_ascii_digit text) _ h).1 in
        subst IsPart same (small (digits_value 10 text) h)
    by false h e = absurd (cc)

whole_size : (text : List ℕ) (z : ℤ) → whole_of text ≡ Some z → IsPart z
unfolding whole_of
whole_size [] z e = absurd (cc)
whole_size (b ∷ bs) z e = by (b == 45) (number_of bs) refl e
  where
    by : (t : Bool) (r : Option ℤ) → number_of bs ≡ r → (if t then option_map neg_ℤ r else number_of (b ∷ bs)) ≡ Some z → IsPart z
    by true None h e = absurd (cc)
    by true (Some y) h e = let same : neg_ℤ y ≡ z = cc in subst IsPart same (rw (size_negated y) (number_size bs y h))
    by false r h e = number_size (b ∷ bs) z e

coefficient_size : (words : List (List ℕ)) (cs : List ℤ) (k : ℕ) → wholes_of words ≡ Some cs → IsPart (coefficient cs k)
unfolding wholes_of coefficient
coefficient_size [] cs k e = let none : [] ≡ cs = cc in subst (λ cs. IsPart (coefficient cs k)) none (lit< tt)
coefficient_size (word ∷ words) cs k e = by (whole_of word) refl (wholes_of words) (λ ns j. coefficient_size words ns j) e
  where
    at : (c : ℤ) (ns : List ℤ) (k : ℕ) → IsPart c → ((j : ℕ) → IsPart (coefficient ns j)) → IsPart (coefficient (c ∷ ns) k)
    at c ns zero first more = first
    at c ns (suc k) first more = more k

    by : (r : Option ℤ) → whole_of word ≡ r → (rs : Option (List ℤ)) → ((ns : List ℤ) (j : ℕ) → rs ≡ Some ns → IsPart (coefficient ns j))
        → option_and_then (λ c. option_map (λ cs. c ∷ cs) rs) r ≡ Some cs → IsPart (coefficient cs k)
    by None w rs h e = absurd (cc)
    by (Some c) w None h e = absurd (cc)
    by (Some c) w (Some ns) h e =
        let same : c ∷ ns ≡ cs = cc in
        subst (λ cs. IsPart (coefficient cs k)) same (at c ns k (whole_size word c w) (λ j. h ns j refl))

-- ---- polynomials

powers_held : (cs : List ℤ) → ((k : ℕ) → IsPart (coefficient cs k)) → IsPolynomial (by_powers (coefficient cs))
powers_held cs h = record {
  count = length-by_powers (coefficient cs);
  sizes = λ k. elim (cases_lt k 33) [
    | inl b ↦ subst (λ z. unsigned_abs z < 2 ^ 127) (sym (coefficient-by_powers (coefficient cs) k b)) (h k)
    | inr p ↦ subst (λ z. unsigned_abs z < 2 ^ 127)
        (sym (coefficient-past (by_powers (coefficient cs)) k (let l = length-by_powers (coefficient cs) in omega (arith, l, p)))) (lit< tt)
  ];
}

words_held : (words : List (List ℕ)) (p : List ℤ) → polynomial_of words ≡ Some p → IsPolynomial p
unfolding polynomial_of
words_held words p e = by (nat_le (length words) 33) (wholes_of words) refl e
  where
    by : (t : Bool) (r : Option (List ℤ)) → wholes_of words ≡ r
        → (if t then option_map (λ cs. by_powers (coefficient cs)) r else None) ≡ Some p → IsPolynomial p
    by true None h e = absurd (cc)
    by true (Some cs) h e =
        let same : by_powers (coefficient cs) ≡ p = cc in subst IsPolynomial same (powers_held cs (λ k. coefficient_size words cs k h))
    by false r h e = absurd (cc)

list_held : (text : List ℕ) (p : List ℤ) → list_in text ≡ Some p → IsPolynomial p
list_held text p e = option_and_then_some _ (inside text) p e (λ inner h f. words_held (slice_split (λ b. b == 44) inner) p f)

-- both polynomials can be stored
abbrev AreHeld : List ℤ × List ℤ → Type 0
AreHeld x = IsPolynomial x.0 × IsPolynomial x.1

whole_held : (text : List ℕ) (x : List ℤ × List ℤ) → whole_in text ≡ Some x → AreHeld x
whole_held text x e = by (whole_of text) refl e
  where
    by : (r : Option ℤ) → whole_of text ≡ r → option_map (λ n. (monomial n 0, one_polynomial)) r ≡ Some x → AreHeld x
    by None h e = absurd (cc)
    by (Some n) h e =
        let same : Path (List ℤ × List ℤ) (monomial n 0, one_polynomial) x = cc in
        subst AreHeld same (monomial_held n 0 (lit≤ tt) (whole_size text n h), one_held)

fraction_held : (over under : List ℕ) (x : List ℤ × List ℤ) → fraction_in over under ≡ Some x → AreHeld x
fraction_held over under x e = by (whole_of over) refl (number_of under) refl e
  where
    by : (r : Option ℤ) → whole_of over ≡ r → (q : Option ℤ) → number_of under ≡ q
        → option_and_then (λ n. option_map (λ d. (monomial n 0, monomial d 0)) q) r ≡ Some x → AreHeld x
    by None h q k e = absurd (cc)
    by (Some n) h None k e = absurd (cc)
    by (Some n) h (Some d) k e =
        let same : Path (List ℤ × List ℤ) (monomial n 0, monomial d 0) x = cc in
        subst AreHeld same (monomial_held n 0 (lit≤ tt) (whole_size over n h), monomial_held d 0 (lit≤ tt) (number_size under d k))

lists_held : (over under : List ℕ) (x : List ℤ × List ℤ) → lists_in over under ≡ Some x → AreHeld x
lists_held over under x e = by (list_in over) refl (list_in under) refl e
  where
    by : (r : Option (List ℤ)) → list_in over ≡ r → (q : Option (List ℤ)) → list_in under ≡ q
        → option_and_then (λ n. option_map (λ d. (n, d)) q) r ≡ Some x → AreHeld x
    by None h q k e = absurd (cc)
    by (Some n) h None k e = absurd (cc)
    by (Some n) h (Some d) k e =
        let same : Path (List ℤ × List ℤ) (n, d) x = cc in subst AreHeld same (list_held over n h, list_held under d k)

polynomials_held : (text : List ℕ) (x : List ℤ × List ℤ) → polynomials_in text ≡ Some x → AreHeld x
unfolding polynomials_in
polynomials_held text x e = by (cut 47 text) e
  where
    either : (over under : List ℕ) (r : Option (List ℤ × List ℤ)) → fraction_in over under ≡ r → option_or r (lists_in over under) ≡ Some x → AreHeld x
    either over under None h e = lists_held over under x e
    either over under (Some y) h e = fraction_held over under x (h ∙ e)

    by : (r : Option (List ℕ × List ℕ)) → by_sides text r ≡ Some x → AreHeld x
    by None e = whole_held text x e
    by (Some s) e = either s.0 s.1 (fraction_in s.0 s.1) refl e

-- ---- quotients

-- what a text denotes is a stored quotient
pub quotient_held : (text : List ℕ) (y : Parts) → quotient_in text ≡ Some y → IsQuotient y
unfolding quotient_in
quotient_held text y e = option_and_then_some _ (polynomials_in text) y e (λ x h f. by x (polynomials_held text x h) (is_zero_integer (lowest x.1)) refl f)
  where
    by : (x : List ℤ × List ℤ) → AreHeld x → (t : Bool) → is_zero_integer (lowest x.1) ≡ t → (if t then None else Some (norm x.0 x.1)) ≡ Some y
        → IsQuotient y
    by x held true z e = absurd (cc)
    by x held false z e =
        let same : norm x.0 x.1 ≡ y = cc in subst IsQuotient same (norm_is x.0 x.1 held.0 held.1 (is_zero_false (lowest x.1) z)).stored
