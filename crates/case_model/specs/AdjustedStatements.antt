-- The laws of adjusted values, as contracts name them.
use Rattle.std.specs.Prelude.{◌≡◌, ◌↔◌, ℕ, Bool, true, false}
use Rattle.field_core.specs.Number.{Number}
use Rattle.field_core.specs.Arithmetic.{number_one}
use Rattle.field_core.specs.Order.{◌≤ε◌}
use Rattle.field_core.specs.LimitParts.{IsUnit}
use Rattle.field_core.specs.declared.ratio.Ratio.{Ratio}
use Rattle.fraction.specs.View.{number_of}
use Rattle.case_model.specs.EntangledGraph.{EntangledGraph}
use Rattle.case_model.specs.ClosedTest.{IsRejected}
use Rattle.case_model.specs.AdjustedValues.{IsAdjusted}

-- at each level from 0 to 1 the closed test rejects `j` exactly if the value is reached and is at most the level
abbrev pub Decides : EntangledGraph → (ℕ → Number) → ℕ → Ratio → Bool → Type 0
Decides E p j value reached = (level : Number) → IsUnit level → IsRejected E p level j ↔ ((reached ≡ true) × (number_of value ≤ε level))

-- a value from 0 to 1, which is 1 if it isn't reached
pub record IsInRange (value : Ratio) (reached : Bool) : Type 0 where
  pub unit : IsUnit (number_of value)
  pub one : reached ≡ false → number_of value ≡ number_one

-- An adjusted value decides each level from 0 to 1, and is the only value that does.
abbrev pub AdjustedValuesDecide : Type 0
AdjustedValuesDecide = (E : EntangledGraph) (p : ℕ → Number) (j : ℕ) (value : Ratio) (reached : Bool)
    → IsAdjusted E p j value reached ↔ (IsInRange value reached × Decides E p j value reached)

-- A hypothesis has one adjusted value at most.
abbrev pub AdjustedValuesAreUnique : Type 0
AdjustedValuesAreUnique =
    (E : EntangledGraph) (p : ℕ → Number) (j : ℕ) (value other : Ratio) (reached found : Bool)
    → IsAdjusted E p j value reached → IsAdjusted E p j other found → (value ≡ other) × (reached ≡ found)
