-- The laws of spends and of the staged test, as contracts name them.
use Rattle.std.specs.Prelude.{◌≡◌, ◌↔◌, ℕ, Bool, List, [], ◌∷◌, Some}
use Rattle.std.specs.List.{Contains}
use Rattle.field_core.specs.Number.{Number}
use Rattle.field_core.specs.Arithmetic.{number_zero}
use Rattle.field_core.specs.Order.{◌≤ε◌}
use Rattle.field_core.specs.Sets.{whole}
use Rattle.fraction.specs.View.{number_of}
use Rattle.case_model.specs.declared.draft_stages.Arrival.{Arrival}
use Rattle.case_model.specs.declared.spend.Spend.{Spend}
use Rattle.case_model.specs.declared.spend_step.SpendStep.{SpendStep}
use Rattle.case_model.specs.EntangledGraph.{EntangledGraph, IsValidEntangled}
use Rattle.case_model.specs.ClosedTest.{IsMonotone}
use Rattle.case_model.specs.LegalOrder.{IsListed}
use Rattle.case_model.specs.Spends.{stage_number, last_step, table_level, spend_level, IsRisingSpend, IsLastStep}
use Rattle.case_model.specs.StagedTest.{AtStages, IsStagedLegal, IsStagedRejected, IsStagedOrder, IsSettledBy, IsSettling}

-- The level of a stage doesn't fall as the weight grows.
abbrev pub SpendLevelsAreNondecreasing : Type 0
SpendLevelsAreNondecreasing =
    (s : Spend) (alpha : Number) (t : ℕ) (u v : Number) → IsRisingSpend s t → number_zero ≤ε alpha → u ≤ε v
    → spend_level s alpha t u ≤ε spend_level s alpha t v

-- The step that counts at a weight is the last one that the weight reaches.
abbrev pub LastStepsAreReached : Type 0
LastStepsAreReached = (ss : List SpendStep) (u : Number) (s : SpendStep) → last_step ss u ≡ Some s → IsLastStep ss u s

-- Of two steps the second counts if the weight reaches it, else the first if it reaches that; below both the level is 0.
abbrev pub TwoStepsGiveTheirLevels : Type 0
TwoStepsGiveTheirLevels =
    (a b : SpendStep) (t : ℕ) (u : Number)
    → (number_of b.from ≤ε u → table_level (a ∷ b ∷ []) t u ≡ stage_number b.levels t)
    × (number_of a.from ≤ε u → ¬ (number_of b.from ≤ε u) → table_level (a ∷ b ∷ []) t u ≡ stage_number a.levels t)
    × (¬ (number_of a.from ≤ε u) → ¬ (number_of b.from ≤ε u) → table_level (a ∷ b ∷ []) t u ≡ number_zero)

-- (The level is at least 0, and no spend falls from step to step.)
abbrev pub AreRisingSpends : (ℕ → Spend) → Number → Type 0
AreRisingSpends spend alpha = ((k t : ℕ) → IsRisingSpend (spend k) t) × (number_zero ≤ε alpha)

-- What passes the staged test at a weight passes at each greater one.
abbrev pub StagedTestsAreMonotone : Type 0
StagedTestsAreMonotone = (spend : ℕ → Spend) (alpha : Number) (values : List Arrival) → AreRisingSpends spend alpha
    → IsMonotone (AtStages spend alpha values)

-- What is legal stays legal once more values have arrived.
abbrev pub ArrivalsKeepWhatIsLegal : Type 0
ArrivalsKeepWhatIsLegal =
    (spend : ℕ → Spend) (alpha : Number) (old new : List Arrival) (E : EntangledGraph) (I : ℕ → Bool) (k : ℕ)
    → ((a : Arrival) → Contains old a → Contains new a) → IsStagedLegal spend alpha old E I k → IsStagedLegal spend alpha new E I k

-- The staged closed test rejects each hypothesis of a legal order, and a list that leaves none legal has all that it rejects.
abbrev pub StagedOrdersDecide : Type 0
StagedOrdersDecide =
    (spend : ℕ → Spend) (alpha : Number) (values : List Arrival) (E : EntangledGraph) (js : List ℕ) (j : ℕ) → AreRisingSpends spend alpha
    → IsValidEntangled E
    → IsStagedOrder spend alpha values E whole js
    → (IsListed js j → IsStagedRejected spend alpha values E j)
    × (IsSettledBy spend alpha values E whole js → IsListed js j ↔ IsStagedRejected spend alpha values E j)

-- From each set on there is a settling.
abbrev pub SettlingsExist : Type 0
SettlingsExist = (spend : ℕ → Spend) (alpha : Number) (values : List Arrival) (E : EntangledGraph) (I : ℕ → Bool) → IsValidEntangled E
    → (js : List ℕ) × IsSettling spend alpha values E I js

-- From each set on there is at most one settling.
abbrev pub SettlingsAreUnique : Type 0
SettlingsAreUnique =
    (spend : ℕ → Spend) (alpha : Number) (values : List Arrival) (E : EntangledGraph) (I : ℕ → Bool) (js ks : List ℕ)
    → IsSettling spend alpha values E I js → IsSettling spend alpha values E I ks → js ≡ ks
