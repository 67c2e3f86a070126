-- Entries of tables of edges: sums of fractions times the powers 0 to 4 of epsilon, by their coefficients of ascending power.
use Rattle.std.specs.Prelude.{ℕ, zero, suc, List, [], ◌∷◌, ◌+◌, ◌*◌, Bool, drop, get_or, length, ◌==◌}
use Rattle.std.specs.List.{list_all}
use Rattle.std.specs.Ordering.{ordering_then}
use Rattle.std.specs.declared.cmp.Ordering.{Ordering}
use Rattle.std.specs.declared.cmp.Ordering.TheVariants.{Equal}
use Rattle.field_core.specs.Polynomial.{int_sign}
use Rattle.field_core.specs.Number.{Number}
use Rattle.field_core.specs.Arithmetic.{number_one, ◌*ε◌}
use Rattle.field_core.specs.Epsilon.{epsilon}
use Rattle.field_core.specs.NumberField.{number_field}
use Rattle.field_core.specs.Sums.{sum_below}
use Rattle.field_core.specs.View.{terms}
use Rattle.field_core.specs.declared.ratio.Ratio.{Ratio}
use Rattle.fraction.specs.Tests.{is_zero}
use Rattle.case_model.specs.Sums.{zero_ratio, number_at}

-- a power of epsilon
unfoldable pub power_of_epsilon : ℕ → Number
power_of_epsilon zero = number_one
power_of_epsilon (suc k) = epsilon *ε power_of_epsilon k

-- the value of an entry: the sum of its coefficients, each times its power of epsilon
unfoldable pub entry_value : List Ratio → Number
entry_value e = sum_below number_field 5 (λ k. number_at e k *ε power_of_epsilon k)

-- the entry of an edge that isn't there
abbrev pub no_edge : List Ratio
no_edge = zero_ratio ∷ zero_ratio ∷ zero_ratio ∷ zero_ratio ∷ zero_ratio ∷ []

-- whether an entry has a coefficient for each power from 0 to 4
abbrev pub is_whole_entry : List Ratio → Bool
is_whole_entry e = length e == 5

-- whether each coefficient is 0
unfoldable pub is_zero_entry : List Ratio → Bool
is_zero_entry e = list_all (λ x. is_zero (terms x)) e

-- whether each coefficient above power 0 is 0
unfoldable pub is_plain_entry : List Ratio → Bool
is_plain_entry e = list_all (λ x. is_zero (terms x)) (drop 1 e)

-- the entry of the edge from `i` to `j` in a table of `m` rows and columns
unfoldable pub entry_at : ℕ → List (List Ratio) → ℕ → ℕ → List Ratio
entry_at m table i j = get_or table (i * m + j) no_edge

-- the sign of the first coefficient that isn't 0, and that of 0 if all are 0
unfoldable pub first_sign : List Ratio → Ordering
first_sign [] = Equal
first_sign (x ∷ xs) = ordering_then (int_sign x.num) (first_sign xs)
