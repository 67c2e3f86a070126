-- Values of the evaluator as contracts see them.
use Rattle.std.specs.Prelude.{◌≡◌, ℕ, suc, false, List, map, Result, Ok, Err}
use Rattle.field_core.specs.Terms.{Terms}
use Rattle.field_core.specs.View.{terms}
use Rattle.field_core.specs.declared.place.TooWide.{TooWide}
use Rattle.edge_expression.specs.declared.value_fault.ValueFault.{ValueFault}
use Rattle.edge_expression.specs.declared.value_fault.ValueFault.TheVariants.{Part}
use Rattle.edge_expression.specs.declared.short_fraction.ShortFraction.{ShortFraction}
use Rattle.edge_expression.specs.declared.polynomial.Polynomial.{Polynomial}
use Rattle.edge_expression.specs.declared.polynomial.Operation.{Operation}
use Rattle.edge_expression.specs.declared.polynomial.Operation.TheVariants.{Add, Subtract, Multiply, Divide}
use Rattle.fraction.specs.Tests.{is_zero}
use Rattle.case_model.specs.Sums.{terms_at}
use Rattle.edge_expression.specs.Expressions.{Plus, Minus}
use Rattle.edge_expression.specs.EntryValues.{short_of, sum, difference, quotient, product_sum, joined, times, over}

-- the terms of a short fraction
abbrev pub short_terms : ShortFraction → Terms
short_terms x = terms x.value

-- the value as `f` shows it, or the same fault
abbrev pub map_value : {A B : Type 0} → (A → B) → Result A ValueFault → Result B ValueFault
map_value f (Ok x) = Ok (f x)
map_value f (Err fault) = Err fault

-- the result of an operation, if it wasn't refused and its parts are short
abbrev pub made_short : Result Terms TooWide → Result Terms ValueFault
made_short (Ok t) = short_of t
made_short (Err e) = Err Part

-- the terms of a polynomial's coefficients
abbrev pub polynomial_terms : Polynomial → List Terms
polynomial_terms p = map short_terms p.coefficients

-- the coefficient of a power in the result of an operation
abbrev pub coefficient : Operation → List Terms → List Terms → ℕ → Result Terms ValueFault
coefficient Add x y k = sum (terms_at x k) (terms_at y k)
coefficient Subtract x y k = difference (terms_at x k) (terms_at y k)
coefficient Multiply x y k = product_sum x y k (suc k)
coefficient Divide x y k = quotient (terms_at x k) (terms_at y 0)

-- the result of an operation
unfoldable pub applied : Operation → List Terms → List Terms → Result (List Terms) ValueFault
applied Add x y = joined Plus x y
applied Subtract x y = joined Minus x y
applied Multiply x y = times x y
applied Divide x y = over x y

-- the coefficient of power 0 isn't 0, if the operation divides by it
abbrev pub CanDivide : Operation → List Terms → Type 0
CanDivide Divide y = is_zero (terms_at y 0) ≡ false
CanDivide Add y = Unit {0}
CanDivide Subtract y = Unit {0}
CanDivide Multiply y = Unit {0}
