-- The clearing of a row: all its polynomials are divided by the same factors, so no value changes. No written operation is involved.
use Rattle.std.specs.Prelude.{ℕ, min, ℤ, pos, List, [], ◌∷◌, map, Option, Some}
use Rattle.std.specs.List.{fold}
use Rattle.std.specs.Option.{unwrap_or}
use Rattle.field_core.specs.Divisor.{gcd}
use Rattle.field_core.specs.Sized.{◌>>=◌}
use Rattle.eps_poly.specs.ExactQuotients.{exact_quotient}
use Rattle.eps_poly.specs.Factors.{content, order, core, lowered}
use Rattle.row_removal.specs.StoredRow.{StoredRow}

-- what `f` gives for each item, if it gives something for all
unfoldable pub map_all : {A B : Type 0} → (A → Option B) → List A → Option (List B)
map_all f [] = Some []
map_all f (x ∷ xs) = do
  y ← f x
  ys ← map_all f xs
  Some (y ∷ ys)

-- the row of the exact quotients, if each polynomial of the row has one
unfoldable pub quotient_row : List ℤ → StoredRow → Option StoredRow
quotient_row by r = do
  denominator ← exact_quotient r.denominator by
  numerators ← map_all (λ p. exact_quotient p by) r.numerators
  Some (record { numerators = numerators; denominator = denominator })

-- the row of the exact quotients, or the row itself if there is none
unfoldable pub divided_row : List ℤ → StoredRow → StoredRow
divided_row by r = unwrap_or (quotient_row by r) r

-- the greatest common divisor of the contents of a row
unfoldable pub row_content : StoredRow → ℕ
row_content r = fold (λ c p. gcd c (content p)) (content r.denominator) r.numerators

-- the least power of epsilon among the polynomials of a row that aren't 0
unfoldable pub row_order : StoredRow → ℕ
row_order r = fold (λ k p. min k (order p)) (order r.denominator) r.numerators

-- a row divided by a number and a power of epsilon
abbrev pub row_by : ℕ → ℤ → StoredRow → StoredRow
row_by k c r = record { numerators = map (lowered k c) r.numerators; denominator = lowered k c r.denominator }

-- the row divided by its common content and its common power of epsilon
unfoldable pub lowered_row : StoredRow → StoredRow
lowered_row r = row_by (row_order r) (pos (row_content r)) r

-- The cleared row. If every polynomial has an exact quotient by the core of `last`, each is replaced by it. Then each is divided by the common
-- content and the least common power of epsilon.
unfoldable pub cleared : List ℤ → StoredRow → StoredRow
cleared last r = lowered_row (divided_row (core last) r)
