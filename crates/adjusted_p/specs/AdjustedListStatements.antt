-- The laws of the adjusted values of cases, as contracts name them.
use Rattle.std.specs.Prelude.{◌≡◌, ◌<◌, ◌↔◌, ℕ, Bool, true, List, length}
use Rattle.field_core.specs.Number.{Number}
use Rattle.field_core.specs.Arithmetic.{number_one}
use Rattle.field_core.specs.LimitParts.{IsUnit}
use Rattle.field_core.specs.Order.{◌≤ε◌}
use Rattle.field_core.specs.declared.place.WideAt.{WideAt}
use Rattle.fraction.specs.View.{number_of}
use Rattle.case_model.specs.EntangledGraph.{EntangledGraph}
use Rattle.case_model.specs.ClosedTest.{IsRejected}
use Rattle.case_model.specs.Content.{Content, ForSingle, entangled}
use Rattle.case_model.specs.LegalOrder.{IsLeastLegalRatio}
use Rattle.case_model.specs.Sums.{number_at}
use Rattle.adjusted_p.specs.declared.adjusted.Adjusted.{Adjusted}
use Rattle.adjusted_p.specs.AdjustedLists.{adjusted_at, AreAdjusted}
use Rattle.adjusted_p.specs.RatioRuns.{IsLeastToOne}
use Rattle.adjusted_p.specs.WrittenRun.{IsWideAdjusting}

-- the value is reached, and is at most the level
abbrev pub IsReachedBy : Number → Adjusted → Type 0
IsReachedBy level x = (x.reached ≡ true) × (number_of x.value ≤ε level)

-- At each level from 0 to 1 the closed test rejects a hypothesis of a case exactly if its value is reached and is at most the level.
abbrev pub AdjustedValuesDecideCases : Type 0
AdjustedValuesDecideCases =
    (c : Content) (xs : List Adjusted) (level : Number) (j : ℕ) → AreAdjusted c xs → IsUnit level → j < length c.names
    → ForSingle c.inputs (λ ps. IsRejected (entangled c) (number_at ps) level j ↔ IsReachedBy level (adjusted_at xs j))

-- A case has one list of adjusted values at most.
abbrev pub AdjustedListsAreUnique : Type 0
AdjustedListsAreUnique = (c : Content) (xs ys : List Adjusted) → AreAdjusted c xs → AreAdjusted c ys → xs ≡ ys

-- The written run is first undefined in at most one step and at most one operation.
abbrev pub WideRunsAreUnique : Type 0
WideRunsAreUnique = (c : Content) (m n : ℕ) (v w : WideAt) → IsWideAdjusting c m v → IsWideAdjusting c n w → (m ≡ n) × (v ≡ w)

-- At the level 1 the hypothesis with the least ratio is legal exactly if its ratio is at most 1.
abbrev pub RunsStopAboveOne : Type 0
RunsStopAboveOne = (E : EntangledGraph) (p : ℕ → Number) (I : ℕ → Bool) (j : ℕ) → IsLeastLegalRatio E p number_one I j ↔ IsLeastToOne E p I j
