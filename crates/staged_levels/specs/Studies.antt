-- Studies: the p-values that have arrived, and the rejections so far, each with the stage and the weight at which it came (this project's own).
use Rattle.std.specs.Prelude.{◌≡◌, ◌<◌, ◌≤◌, ◌++◌, ℕ, Bool, true, List, [], ◌∷◌, map, length}
use Rattle.std.specs.List.{Contains}
use Rattle.field_core.specs.Number.{Number}
use Rattle.field_core.specs.Sets.{IsIn, dropping, whole}
use Rattle.field_core.specs.Runs.{left_after}
use Rattle.field_core.specs.declared.ratio.Ratio.{Ratio}
use Rattle.fraction.specs.View.{number_of}
use Rattle.case_model.specs.Draft.{is_p_value}
use Rattle.case_model.specs.declared.draft_stages.Arrival.{Arrival}
use Rattle.case_model.specs.declared.spend.Spend.{Spend}
use Rattle.case_model.specs.StagedCase.{spend_at, spends_in, stages_in, IsStagedLegalIn}
use Rattle.case_model.specs.StagedTest.{MeetsAt}
use Rattle.case_model.specs.Content.{Content, entangled}
use Rattle.case_model.specs.Validity.{IsValidContent}
use Rattle.case_model.specs.IntersectionWeight.{IsIntersectionWeight}
use Rattle.staged_levels.specs.declared.event.Settled.{Settled}

-- what has arrived, and the rejections, each in their order
pub record StudyState : Type 0 where
  pub values : List Arrival
  pub rejected : List Settled

-- nothing has arrived, and nothing is rejected
abbrev pub start : StudyState
start = record { values = []; rejected = [] }

-- the hypotheses that are rejected, in the order of rejection
abbrev pub positions_of : List Settled → List ℕ
positions_of rs = map (λ r. r.hypothesis) rs

-- the set of the hypotheses that aren't rejected
abbrev pub remaining : StudyState → ℕ → Bool
remaining s = left_after whole (positions_of s.rejected)

-- a p-value of the hypothesis `k` has arrived at the stage `t`
pub record IsKnown (values : List Arrival) (k t : ℕ) : Type 0 where
  pub arrival : Arrival
  pub arrived : Contains values arrival
  pub hypothesis : arrival.hypothesis ≡ k
  pub stage : arrival.stage ≡ t

-- one of the stages of a case, which count from 1
pub record IsStage (c : Content) (t : ℕ) : Type 0 where
  pub first : 1 ≤ t
  pub last : t ≤ stages_in c.inputs

-- a p-value of a hypothesis may arrive: its stage is one of the case, and no p-value of the hypothesis has arrived at this stage. The p-value is from
-- 0 to 1 with a denominator of at most 10^30
pub record MayArrive (c : Content) (values : List Arrival) (a : Arrival) : Type 0 where
  pub below : a.hypothesis < length c.names
  pub stage : IsStage c a.stage
  pub unknown : ¬ IsKnown values a.hypothesis a.stage
  pub p : is_p_value a.p ≡ true

-- `t` is the least stage that has arrived at which `k` meets its level at a weight, by what the hypotheses spend and the level
pub record IsFirstStageBy (spends : List Spend) (alpha : Ratio) (values : List Arrival) (k : ℕ) (weight : Number) (t : ℕ) : Type 0 where
  pub arrival : Arrival
  pub meets : MeetsAt (spend_at spends) (number_of alpha) values k weight arrival
  pub stage : arrival.stage ≡ t
  pub least : (a : Arrival) → MeetsAt (spend_at spends) (number_of alpha) values k weight a → t ≤ a.stage

-- `t` is the least stage that has arrived at which `k` meets its level at a weight, by the spends and the level of the case `c`
abbrev pub IsFirstStage : Content → List Arrival → ℕ → Number → ℕ → Type 0
IsFirstStage c = IsFirstStageBy (spends_in c.inputs) c.alpha

-- a rejection from the set `I`, once these values had arrived: it has the weight of its hypothesis in `I`, and the least stage that met the test
pub record IsRejectionFrom (c : Content) (values : List Arrival) (I : ℕ → Bool) (r : Settled) : Type 0 where
  pub member : IsIn (entangled c).hypotheses I r.hypothesis
  pub weight : IsIntersectionWeight (entangled c) I r.hypothesis (number_of r.weight)
  pub stage : IsFirstStage c values r.hypothesis (number_of r.weight) r.stage

-- a rejection from the set `I`, once some of the values had arrived
pub record IsEarlierRejection (c : Content) (values : List Arrival) (I : ℕ → Bool) (r : Settled) : Type 0 where
  pub before : List Arrival
  pub later : List Arrival
  pub values_are : values ≡ before ++ later
  pub rejection : IsRejectionFrom c before I r

-- rejections one after another, from the set `I` on, each once some of the values had arrived
abbrev pub AreRejections : Content → List Arrival → (ℕ → Bool) → List Settled → Type 0
AreRejections c values I [] = Unit {0}
AreRejections c values I (r ∷ rs) = IsEarlierRejection c values I r × AreRejections c values (dropping r.hypothesis I) rs

-- arrivals one after another, each of which was allowed to arrive once these values and the arrivals before it had arrived
abbrev pub AreArrivals : Content → List Arrival → List Arrival → Type 0
AreArrivals c values [] = Unit {0}
AreArrivals c values (a ∷ more) = MayArrive c values a × AreArrivals c (values ++ a ∷ []) more

-- a study of the case `c`, whose content is valid
pub record IsStudyOf (c : Content) (s : StudyState) : Type 0 where
  pub valid : IsValidContent c
  pub values : AreArrivals c [] s.values
  pub rejected : AreRejections c s.values whole s.rejected

-- `k` is legal in what remains of a study
abbrev pub IsLegalNow : Content → StudyState → ℕ → Type 0
IsLegalNow c s = IsStagedLegalIn c s.values (remaining s)

-- no hypothesis is legal in what remains
abbrev pub IsSettled : Content → StudyState → Type 0
IsSettled c s = (k : ℕ) → ¬ IsLegalNow c s k
