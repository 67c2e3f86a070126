-- The texts of quotients.
use Rattle.std.specs.Prelude.{◌≡◌, ◌+◌, ◌==◌, ◌&&◌, ℕ, ℤ, List, [], ◌∷◌, ◌++◌, map, take, if◌then◌else◌}
use Rattle.std.specs.Fmt.{signed_decimal}
use Rattle.std.specs.List.{join_with_byte}
use Rattle.field_core.specs.Kind.{Parts}
use Rattle.field_core.specs.Polynomial.{coefficient}
use Rattle.field_core.specs.Texts.{fraction_text}
use Rattle.eps_poly.specs.Written.{degree}

-- whole numbers in brackets, with commas between them
abbrev pub list_text : List ℤ → List ℕ
list_text cs = 91 ∷ join_with_byte 44 (map signed_decimal cs) ++ 93 ∷ []

-- the coefficients up to the last that isn't 0
abbrev pub polynomial_text : List ℤ → List ℕ
polynomial_text p = list_text (take (degree p + 1) p)

-- a coefficient, after a comma if it isn't the first
abbrev pub coefficient_text : ℕ → ℤ → List ℕ
coefficient_text k c = if k == 0 then signed_decimal c else 44 ∷ signed_decimal c

-- the text of a fraction if both polynomials are constants, else both polynomials in brackets
unfoldable pub quotient_text : Parts → List ℕ
quotient_text x =
    if (degree x.numerator == 0) && (degree x.denominator == 0)
    then fraction_text (coefficient x.numerator 0) (coefficient x.denominator 0)
    else polynomial_text x.numerator ++ 47 ∷ polynomial_text x.denominator

-- the old bytes, and others after them
abbrev pub Extends : List ℕ → List ℕ → Type 0
Extends old new = (rest : List ℕ) × (new ≡ old ++ rest)
