-- The gathering of a graph into rows: the numbers of each row are brought over one constant, the least common multiple of their denominators.
use Rattle.std.specs.Prelude.{◌<◌, ℕ, zero, suc, ℤ, pos, ◌*ℤ◌, int_div, List, if◌then◌else◌, Option, Some, None, Result, Ok}
use Rattle.field_core.specs.declared.place.Op.TheVariants.{Mul}
use Rattle.field_core.specs.declared.place.Place.{Place}
use Rattle.field_core.specs.declared.place.Place.TheVariants.{Weight, Edge}
use Rattle.field_core.specs.declared.place.Wide.{Wide}
use Rattle.field_core.specs.Kind.{Parts, is_zero}
use Rattle.field_core.specs.Polynomial.{coefficient}
use Rattle.field_core.specs.Sized.{sized, gcd_of}
use Rattle.field_core.specs.Steps.{at, each_below, ◌>>=◌}
use Rattle.removal.specs.StoredGraph.{StoredGraph, size, weight, edge}
use Rattle.eps_poly.specs.Polynomials.{IsConstant, zero_polynomial, monomial}
use Rattle.eps_poly.specs.Written.{sized_product}
use Rattle.eps_quotient.specs.Lowering.{one_polynomial}
use Rattle.eps_quotient.specs.Quotients.{quotients}
use Rattle.row_removal.specs.StoredRow.{StoredRow}
use Rattle.row_removal.specs.StoredRows.{StoredRows}

-- the place of a number of a row: of the weights, or of the edges from `l`
abbrev pub place_of : Option ℕ → ℕ → Place
place_of None k = Weight k
place_of (Some l) k = Edge l k

module _ (G : StoredGraph) where
  -- a number of a row: of the weights, or of the edges from `l`
  unfoldable pub given : Option ℕ → ℕ → Parts
  given None k = weight quotients G k
  given (Some l) k = edge quotients G l k

  -- the denominator of a number of a row, by its coefficient of power 0
  abbrev pub given_below : Option ℕ → ℕ → ℤ
  given_below row k = coefficient (given row k).denominator 0

  -- `c` with the denominator of one number more; a number that is 0 adds nothing
  unfoldable pub with_denominator : Option ℕ → ℕ → ℤ → Result ℤ Wide
  with_denominator row k c =
      if is_zero (given row k)
      then Ok c
      else at (place_of row k) Mul (sized (int_div c (gcd_of c (given_below row k)) *ℤ given_below row k))

  -- the common denominator of the first n numbers of a row
  unfoldable pub common_below : Option ℕ → ℕ → Result ℤ Wide
  common_below row zero = Ok (pos 1)
  common_below row (suc n) = do
    c ← common_below row n
    with_denominator row n c

  -- the numerator of a number over the common denominator
  unfoldable pub gathered_numerator : Option ℕ → ℤ → ℕ → Result (List ℤ) Wide
  gathered_numerator row c k =
      if is_zero (given row k)
      then Ok zero_polynomial
      else at (place_of row k) Mul (sized_product (given row k).numerator (monomial (int_div c (given_below row k)) 0))

  -- a row, or the first operation that is undefined
  unfoldable pub gathered_row : Option ℕ → Result StoredRow Wide
  gathered_row row = do
    c ← common_below row (size G)
    numerators ← each_below (size G) (gathered_numerator row c)
    Ok (record { numerators = numerators; denominator = monomial c 0 })

  -- all rows, first the weights and then the edges row by row, or the first operation that is undefined
  unfoldable pub gathered : Result StoredRows Wide
  gathered = do
    weights ← gathered_row None
    edges ← each_below (size G) (λ l. gathered_row (Some l))
    Ok (record { live = G.live; weights = weights; edges = edges; last = one_polynomial })

-- all denominators of a graph are constants
pub record HasConstants (G : StoredGraph) : Type 0 where
  pub weights : (k : ℕ) → k < size G → IsConstant (weight quotients G k).denominator
  pub edges : (l k : ℕ) → l < size G → k < size G → IsConstant (edge quotients G l k).denominator
