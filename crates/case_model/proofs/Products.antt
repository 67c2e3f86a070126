-- The product of two fractions, as it is written and by its value.
use Rattle.std.proofs.Common.{◌≡◌, refl, Result, Ok}
use Rattle.field_core.specs.Arithmetic.{◌*ε◌}
use Rattle.field_core.specs.Kind.{ok_map, or_wide}
use Rattle.field_core.specs.Terms.{Terms}
use Rattle.field_core.specs.View.{terms}
use Rattle.field_core.specs.declared.place.Op.TheVariants.{Mul}
use Rattle.field_core.specs.declared.place.TooWide.{TooWide}
use Rattle.field_core.specs.declared.ratio.Ratio.{Ratio}
use Rattle.fraction.specs.Plain.{plain, fraction_parts}
use Rattle.fraction.specs.View.{number_of}
use Rattle.fraction.specs.Written.{written_mul}
use Rattle.case_model.proofs.ExactSums.{Has, written_has}
use Rattle.case_model.proofs.SumSteps.{in_terms}
use Rattle.case_model.proofs.Wide.{some_from}

-- a product by its terms, from its stored parts
pub product_in_terms : (x y : Ratio) (r : Result Ratio TooWide)
    → ok_map fraction_parts r ≡ or_wide Mul (plain.written Mul (fraction_parts x) (fraction_parts y))
    → ok_map terms r ≡ or_wide Mul (written_mul (terms x) (terms y))
product_in_terms x y r e = in_terms Mul r (written_mul (terms x) (terms y)) e

-- a product that isn't refused is exact
pub product_value : (x y z : Ratio) → Path (Result Terms TooWide) (Ok (terms z)) (or_wide Mul (written_mul (terms x) (terms y)))
    → number_of z ≡ number_of x *ε number_of y
product_value x y z e =
    let has : (w : Ratio) → Has (terms w) (number_of w) = λ w. record { reduced = w.valid; value = refl } in
    (written_has Mul (terms x) (terms y) (terms z) (number_of x) (number_of y) tt (has x) (has y) (some_from Mul (terms z) _ e)).value
