-- The staged test: each stage that has arrived is tested at the level that the spend gives it at the present weight (this project's own).
use Rattle.std.specs.Prelude.{◌≡◌, ℕ, Bool, List}
use Rattle.std.specs.List.{Contains}
use Rattle.field_core.specs.Number.{Number}
use Rattle.field_core.specs.Order.{◌≤ε◌, IsPositive}
use Rattle.fraction.specs.View.{number_of}
use Rattle.case_model.specs.declared.draft_stages.Arrival.{Arrival}
use Rattle.case_model.specs.declared.spend.Spend.{Spend}
use Rattle.case_model.specs.EntangledGraph.{EntangledGraph}
use Rattle.case_model.specs.ClosedTest.{IsLegalBy, IsLocallyRejectedBy, IsRejectedBy}
use Rattle.case_model.specs.LegalOrder.{IsOrderBy, IsCompleteBy, IsRunBy, IsFirst}
use Rattle.case_model.specs.Spends.{spend_level}

-- a p-value meets a level at a weight: the weight and the level are above 0, and the p-value is at most the level
pub record MeetsLevel (level weight p : Number) : Type 0 where
  pub positive : IsPositive weight
  pub spent : IsPositive level
  pub small : p ≤ε level

-- a p-value meets the level of a stage at a weight
abbrev pub Meets : Spend → Number → ℕ → Number → Number → Type 0
Meets spend alpha t weight p = MeetsLevel (spend_level spend alpha t weight) weight p

module _ (spend : ℕ → Spend) (alpha : Number) (values : List Arrival) where
  -- `a` is a value of `k` that has arrived, and at the weight it meets the level of its stage
  pub record MeetsAt (k : ℕ) (weight : Number) (a : Arrival) : Type 0 where
    pub arrived : Contains values a
    pub hypothesis : a.hypothesis ≡ k
    pub meets : Meets (spend k) alpha a.stage weight (number_of a.p)

  -- `k` passes at a weight: some value of `k` that has arrived meets the level of its stage
  pub record AtStages (k : ℕ) (weight : Number) : Type 0 where
    pub arrival : Arrival
    pub at : MeetsAt k weight arrival

  module _ (E : EntangledGraph) where
    -- `k` is legal in the set `I`
    abbrev pub IsStagedLegal : (ℕ → Bool) → ℕ → Type 0
    IsStagedLegal = IsLegalBy E AtStages

    -- the staged local test rejects the intersection of `I`: some member is legal in it
    abbrev pub IsStagedLocallyRejected : (ℕ → Bool) → Type 0
    IsStagedLocallyRejected = IsLocallyRejectedBy E AtStages

    -- the staged closed test rejects a hypothesis: the staged local test rejects each set that the hypothesis is in
    abbrev pub IsStagedRejected : ℕ → Type 0
    IsStagedRejected = IsRejectedBy E.hypotheses IsStagedLocallyRejected

    -- a legal order of the staged test, from the set `I` on
    abbrev pub IsStagedOrder : (ℕ → Bool) → List ℕ → Type 0
    IsStagedOrder = IsOrderBy IsStagedLegal

    -- once those of a list are rejected, from the set `I` on, no hypothesis is legal
    abbrev pub IsSettledBy : (ℕ → Bool) → List ℕ → Type 0
    IsSettledBy = IsCompleteBy IsStagedLegal

    -- the settling from the set `I` on: each time the first legal hypothesis, until none is legal
    abbrev pub IsSettling : (ℕ → Bool) → List ℕ → Type 0
    IsSettling = IsRunBy (IsFirst IsStagedLegal)
