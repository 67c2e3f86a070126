-- The adjusted values of a case by the closed test, and the case at another level.
use Rattle.std.specs.Prelude.{ℕ, Bool}
use Rattle.field_core.specs.declared.ratio.Ratio.{Ratio}
use Rattle.case_model.specs.declared.inputs.Inputs.{Inputs}
use Rattle.case_model.specs.declared.inputs.Inputs.TheVariants.{Bare, Single, Staged}
use Rattle.case_model.specs.Sums.{number_at}
use Rattle.case_model.specs.AdjustedValues.{IsAdjusted}
use Rattle.case_model.specs.Content.{Content, ForSingle, entangled}

-- the adjusted value of the hypothesis at a position, and whether it is reached
abbrev pub IsAdjustedIn : Content → ℕ → Ratio → Bool → Type 0
IsAdjustedIn c j value reached = ForSingle c.inputs (λ ps. IsAdjusted (entangled c) (number_at ps) j value reached)

-- the same case at the level `a`
abbrev pub at_level : Content → Ratio → Content
at_level c a = record c { alpha = a }

-- there are no stages
abbrev pub IsUnstaged : Inputs → Type 0
IsUnstaged Bare = Unit {0}
IsUnstaged (Single ps) = Unit {0}
IsUnstaged (Staged s) = ⊥
