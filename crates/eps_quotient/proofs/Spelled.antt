-- Texts that are written piece by piece.
use Rattle.std.proofs.Common.{◌≡◌, ℕ, ◌+◌, ◌<◌, ◌==◌, false, ◌&&◌, if◌then◌else◌, List, [], ◌∷◌, ◌++◌, length, take}
use Rattle.std.proofs.Common.{map, refl, sym, ◌∙◌, ap, arith, ℤ, pos, append_assoc}
use Rattle.std.specs.Fmt.{signed_decimal}
use Rattle.std.specs.List.{join_with_byte}
use Rattle.std.proofs.lemmas.List.{take_more, map-append, length-map, length-take-le}
use Rattle.std.proofs.lemmas.Bool.{ne_eqb}
use Rattle.field_core.specs.Polynomial.{coefficient}
use Rattle.field_core.specs.Laws.PolynomialLaws.{coefficient-index}
use Rattle.eps_poly.specs.Written.{degree}
use Rattle.eps_quotient.specs.Spelling.{coefficient_text, polynomial_text, quotient_text}
use Rattle.field_core.specs.Kind.{Parts}

-- ---- what was there stays

-- ---- lists

joined_last : (x : List ℕ) (xs : List (List ℕ)) (y : List ℕ) → join_with_byte 44 (x ∷ xs ++ y ∷ []) ≡ join_with_byte 44 (x ∷ xs) ++ 44 ∷ y
joined_last x [] y = refl
joined_last x (z ∷ xs) y = ap (λ t. x ++ 44 ∷ t) (joined_last z xs y) ∙ sym (append_assoc x (44 ∷ join_with_byte 44 (z ∷ xs)) (44 ∷ y))

joined_end : (xs : List (List ℕ)) (y : List ℕ) (k : ℕ) → length xs ≡ k
    → join_with_byte 44 (xs ++ y ∷ []) ≡ join_with_byte 44 xs ++ (if k == 0 then y else 44 ∷ y)
joined_end [] y k e = rw (← e) refl
joined_end (x ∷ xs) y k e = joined_last x xs y ∙ ap (λ t. join_with_byte 44 (x ∷ xs) ++ t) (sym (rw (ne_eqb k 0 (λ z. absurd (omega arith))) refl))

pub joined_more : (p : List ℤ) (k : ℕ) → k < length p
    → join_with_byte 44 (map signed_decimal (take (k + 1) p)) ≡ join_with_byte 44 (map signed_decimal (take k p)) ++ coefficient_text k (coefficient p k)
joined_more p k h =
    ap (λ q. join_with_byte 44 (map signed_decimal q)) (take_more p k (pos 0) h ∙ ap (λ c. take k p ++ c ∷ []) (sym (coefficient-index p k (pos 0) h)))
    ∙ ap (join_with_byte 44) (map-append signed_decimal (take k p) (coefficient p k ∷ []))
    ∙ joined_end (map signed_decimal (take k p)) (signed_decimal (coefficient p k)) k (rw (length-map, length-take-le k p (omega arith)) refl)

-- ---- the forms of a quotient's text

pub lists_text : (x : Parts) → ((degree x.numerator == 0) && (degree x.denominator == 0)) ≡ false
    → quotient_text x ≡ polynomial_text x.numerator ++ 47 ∷ polynomial_text x.denominator
unfolding quotient_text
lists_text x e = rw e refl
