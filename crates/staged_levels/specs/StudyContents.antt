-- Studies with the written state of their case.
use Rattle.std.specs.Prelude.{◌≡◌, ◌<◌, ◌++◌, ℕ, true, List, [], ◌∷◌, Ok, length}
use Rattle.std.specs.List.{find}
use Rattle.std.specs.Option.{option_map}
use Rattle.std.specs.Prelude.{Option}
use Rattle.field_core.specs.Number.{Number}
use Rattle.field_core.specs.View.{terms}
use Rattle.field_core.specs.declared.ratio.Ratio.{Ratio}
use Rattle.fraction.specs.View.{number_of}
use Rattle.case_model.specs.declared.draft_stages.Arrival.{Arrival}
use Rattle.case_model.specs.declared.spend.Spend.{Spend}
use Rattle.case_model.specs.Draft.{is_of}
use Rattle.case_model.specs.Sums.{number}
use Rattle.case_model.specs.StagedTest.{MeetsAt}
use Rattle.case_model.specs.StagedCase.{spend_at, spends_in, stages_in}
use Rattle.case_model.specs.Content.{Content}
use Rattle.entangled.specs.CaseRun.{CaseState, is_live_in_case, case_level, case_removal}
use Rattle.entangled.specs.CaseAfter.{case_after}
use Rattle.staged_levels.specs.declared.event.Settled.{Settled}
use Rattle.staged_levels.specs.Studies.{StudyState, positions_of, IsFirstStageBy, IsStudyOf}

-- what the hypotheses of the case spend, one each, the number of its stages and its level, the present state, and what arrived and was rejected
pub record StudyContent : Type 0 where
  pub spends : List Spend
  pub count : ℕ
  pub alpha : Ratio
  pub state : CaseState
  pub looks : StudyState

-- how many hypotheses a study has
abbrev pub size_of : StudyContent → ℕ
size_of t = length t.spends

-- a study of the case `c` in the state after its rejections
pub record IsStudy (c : Content) (t : StudyContent) : Type 0 where
  pub study : IsStudyOf c t.looks
  pub size : length c.names ≡ size_of t
  pub spends : spends_in c.inputs ≡ t.spends
  pub count : stages_in c.inputs ≡ t.count
  pub alpha : c.alpha ≡ t.alpha
  pub state : case_after c (positions_of t.looks.rejected) ≡ Ok t.state

-- a case of which this is a study
pub record HasCase (t : StudyContent) : Type 0 where
  pub content : Content
  pub is_study : IsStudy content t

-- a study of some case
abbrev pub IsSomeStudy : StudyContent → Type 0
IsSomeStudy t = ∥ HasCase t ∥₁

-- the p-value of `k` that arrived at stage `t`, if one has
abbrev pub value_at : List Arrival → ℕ → ℕ → Option Ratio
value_at values k t = option_map (λ a. a.p) (find (is_of k t) values)

-- at a weight, `k` meets its level at stage `t`, which has arrived
pub record MeetsAtStage (s : StudyContent) (k t : ℕ) (weight : Number) : Type 0 where
  pub arrival : Arrival
  pub meets : MeetsAt (spend_at s.spends) (number_of s.alpha) s.looks.values k weight arrival
  pub stage : arrival.stage ≡ t

-- by the present state `k` may be rejected, at a stage: it remains, and this is the least arrived stage at which it meets its level at its present
-- weight
pub record MayRejectAt (t : StudyContent) (k stage : ℕ) : Type 0 where
  pub below : k < size_of t
  pub live : is_live_in_case t.state k ≡ true
  pub first : IsFirstStageBy t.spends t.alpha t.looks.values k (number (case_level t.state k)) stage

-- a rejection of `k` at a stage and its present weight
pub record IsLine (t : StudyContent) (k stage : ℕ) (line : Settled) : Type 0 where
  pub hypothesis : line.hypothesis ≡ k
  pub stage_is : line.stage ≡ stage
  pub weight : terms line.weight ≡ case_level t.state k

-- the study after the rejection of `k` at a stage
pub record IsNextStudy (old : StudyContent) (k stage : ℕ) (new : StudyContent) : Type 0 where
  pub spends : new.spends ≡ old.spends
  pub count : new.count ≡ old.count
  pub alpha : new.alpha ≡ old.alpha
  pub removed : case_removal old.state k ≡ Ok new.state
  pub values : new.looks.values ≡ old.looks.values
  pub line : Settled
  pub is_line : IsLine old k stage line
  pub rejected : new.looks.rejected ≡ old.looks.rejected ++ line ∷ []

-- the study after an arrival
pub record IsStudyWith (old : StudyContent) (a : Arrival) (new : StudyContent) : Type 0 where
  pub spends : new.spends ≡ old.spends
  pub count : new.count ≡ old.count
  pub alpha : new.alpha ≡ old.alpha
  pub state : new.state ≡ old.state
  pub values : new.looks.values ≡ old.looks.values ++ a ∷ []
  pub rejected : new.looks.rejected ≡ old.looks.rejected
