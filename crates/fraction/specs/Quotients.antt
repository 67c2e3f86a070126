-- Quotients of whole numbers.
use Rattle.std.specs.Prelude.{◌≡◌, ◌≢◌, ℤ, pos, Result, Ok, Err}
use Rattle.field_core.specs.View.{terms}
use Rattle.field_core.specs.declared.ratio.Ratio.{Ratio}
use Rattle.numerals.specs.Lowest.{lowest_terms, HasWidePart}
use Rattle.fraction.specs.declared.fault.FractionFault.{FractionFault}
use Rattle.fraction.specs.declared.fault.FractionFault.TheVariants.{ZeroDenominator, TooWide}

-- lowest terms, or why there are none within their size
unfoldable pub IsLowest : ℤ → ℤ → Result Ratio FractionFault → Type 0
IsLowest n d (Ok x) = (d ≢ pos 0) × (¬ HasWidePart (lowest_terms n d) × (terms x ≡ lowest_terms n d))
IsLowest n d (Err ZeroDenominator) = d ≡ pos 0
IsLowest n d (Err TooWide) = (d ≢ pos 0) × HasWidePart (lowest_terms n d)
