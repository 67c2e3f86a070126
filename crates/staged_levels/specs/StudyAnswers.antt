-- What the calls on a study answer.
use Rattle.std.specs.Prelude.{◌≡◌, ◌++◌, ℕ, true, [], ◌∷◌, Err}
use Rattle.field_core.specs.declared.place.WideAt.{WideAt}
use Rattle.case_model.specs.declared.inputs.Inputs.{Inputs}
use Rattle.case_model.specs.declared.inputs.Inputs.TheVariants.{Bare, Single, Staged}
use Rattle.case_model.specs.declared.draft_stages.Arrival.{Arrival}
use Rattle.case_model.specs.Content.{Content}
use Rattle.case_model.specs.Draft.{is_p_value}
use Rattle.case_model.specs.LegalOrder.{IsListed, IsFirst}
use Rattle.case_model.specs.StagedCase.{IsStagedLegalIn}
use Rattle.entangled.specs.CaseAfter.{case_after}
use Rattle.staged_levels.specs.Studies.{StudyState, positions_of, remaining, IsKnown, IsStage, IsLegalNow}
use Rattle.staged_levels.specs.StudyCalls.{StudyCall, arrive, reject}
use Rattle.staged_levels.specs.declared.event.Event.{Event}
use Rattle.staged_levels.specs.declared.event.Event.TheVariants.{Arrive, Reject}
use Rattle.staged_levels.specs.declared.event.StepFault.{StepFault}
use Rattle.staged_levels.specs.declared.event.StepFault.TheVariants.{Known, StageRange, PRange, Rejected, NotLegal, Wide}
use Rattle.staged_levels.specs.declared.event.SettleFault.{SettleFault}
use Rattle.staged_levels.specs.declared.event.SettleFault.TheVariants.{Wide as SettleWide}

-- the p-values are those of stages
abbrev pub IsStaged : Inputs → Type 0
IsStaged (Staged s) = Unit {0}
IsStaged Bare = ⊥
IsStaged (Single ps) = ⊥

-- an event as a call
abbrev pub call_of : Event → StudyCall
call_of (Arrive i t p) = arrive (record { hypothesis = i; stage = t; p = p })
call_of (Reject i) = reject i

-- the hypothesis of an event
abbrev pub hypothesis_of : Event → ℕ
hypothesis_of (Arrive i t p) = i
hypothesis_of (Reject i) = i

-- after the removals of the rejected hypotheses, the removal of a hypothesis is undefined first at this operation
abbrev pub IsWideRemoval : Content → StudyState → ℕ → WideAt → Type 0
IsWideRemoval c s k w = case_after c (positions_of s.rejected ++ k ∷ []) ≡ Err w

-- why an arrival is refused: the first cause that holds
abbrev pub IsArriveFault : Content → StudyState → Arrival → StepFault → Type 0
IsArriveFault c s a (StageRange t) = (t ≡ a.stage) × ¬ IsStage c a.stage
IsArriveFault c s a (Known i t) = (i ≡ a.hypothesis) × (t ≡ a.stage) × IsStage c a.stage × IsKnown s.values a.hypothesis a.stage
IsArriveFault c s a PRange = IsStage c a.stage × ¬ IsKnown s.values a.hypothesis a.stage × ¬ (is_p_value a.p ≡ true)
IsArriveFault c s a (Rejected i) = ⊥
IsArriveFault c s a (NotLegal i) = ⊥
IsArriveFault c s a (Wide w) = ⊥

-- why a rejection is refused: the first cause that holds
abbrev pub IsRejectFault : Content → StudyState → ℕ → StepFault → Type 0
IsRejectFault c s k (Rejected i) = (i ≡ k) × IsListed (positions_of s.rejected) k
IsRejectFault c s k (NotLegal i) = (i ≡ k) × ¬ IsListed (positions_of s.rejected) k × ¬ IsLegalNow c s k
IsRejectFault c s k (Wide w) = IsLegalNow c s k × IsWideRemoval c s k w
IsRejectFault c s k (StageRange t) = ⊥
IsRejectFault c s k (Known i t) = ⊥
IsRejectFault c s k PRange = ⊥

-- why an event is refused
abbrev pub IsStepFault : Content → StudyState → Event → StepFault → Type 0
IsStepFault c s (Arrive i t p) = IsArriveFault c s (record { hypothesis = i; stage = t; p = p })
IsStepFault c s (Reject i) = IsRejectFault c s i

-- a settling stopped part way: the removal of the first hypothesis that is legal then is undefined first at `w`
pub record IsWideSettling (c : Content) (s : StudyState) (w : WideAt) : Type 0 where
  pub next : ℕ
  pub is_first : IsFirst (IsStagedLegalIn c s.values) (remaining s) next
  pub wide : IsWideRemoval c s next w

-- why a settling stopped part way
abbrev pub IsSettleFault : Content → StudyState → SettleFault → Type 0
IsSettleFault c s (SettleWide w) = IsWideSettling c s w
