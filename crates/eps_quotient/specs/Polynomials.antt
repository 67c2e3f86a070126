-- Polynomials in epsilon with fractions for coefficients, as quotients (this project's own).
use Rattle.std.specs.Prelude.{ℕ, suc, List, [], ◌∷◌, Option, Some}
use Rattle.field_core.specs.Number.{Number}
use Rattle.field_core.specs.Arithmetic.{number_zero, ◌+ε◌, ◌*ε◌}
use Rattle.field_core.specs.Epsilon.{epsilon}
use Rattle.field_core.specs.Fractions.{fraction}
use Rattle.field_core.specs.Kind.{Parts}
use Rattle.field_core.specs.Sized.{◌>>=◌}
use Rattle.field_core.specs.Terms.{Terms}
use Rattle.eps_poly.specs.Polynomials.{monomial}
use Rattle.eps_quotient.specs.Lowering.{zero_quotient}
use Rattle.eps_quotient.specs.Quotients.{written_sum}

-- n * epsilon^k over d
unfoldable pub term : ℕ → Terms → Parts
term k t = record { numerator = monomial t.num k; denominator = monomial t.den 0 }

-- the written sum of a quotient and of terms, the first with the power k
unfoldable pub sum_from : ℕ → Parts → List Terms → Option Parts
sum_from k sum [] = Some sum
sum_from k sum (t ∷ ts) = do
  next ← written_sum sum (term k t)
  sum_from (suc k) next ts

-- The written sum of the terms, by ascending power; a term that is 0 has no written part.
abbrev pub written_polynomial : List Terms → Option Parts
written_polynomial ts = sum_from 0 zero_quotient ts

-- the number whose coefficients of ascending power are these fractions
unfoldable pub polynomial_value : List Terms → Number
polynomial_value [] = number_zero
polynomial_value (t ∷ ts) = fraction t.num t.den +ε epsilon *ε polynomial_value ts
