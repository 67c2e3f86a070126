-- The laws of registers, over every list of looks, as contracts name them.
use Rattle.std.specs.Prelude.{◌≡◌, ◌<◌, ◌⊎◌, ◌++◌, ◌↔◌, ℕ, List, [], ◌∷◌, length, Err}
use Rattle.std.specs.List.{Contains}
use Rattle.field_core.specs.declared.place.WideAt.{WideAt}
use Rattle.graph_io.specs.declared.keeper.Look.{Look}
use Rattle.case_model.specs.Content.{Content}
use Rattle.case_model.specs.LegalOrder.{IsListed}
use Rattle.case_model.specs.StagedCase.{IsStagedRejectedIn}
use Rattle.case_model.specs.Validity.{IsValidContent}
use Rattle.entangled.specs.CaseRun.{case_opening}
use Rattle.staged_levels.specs.declared.event.StepFault.{StepFault}
use Rattle.staged_levels.specs.Studies.{StudyState, positions_of}
use Rattle.staged_levels.specs.StudyAnswers.{IsArriveFault}
use Rattle.staged_levels.specs.Looks.{IsWideLook}
use Rattle.study_register.specs.declared.fault.RegisterFault.{RegisterFault}
use Rattle.study_register.specs.Looking.{arrival_of, arrivals_of, Takes, AreTaken}
use Rattle.study_register.specs.RegisterFaults.{IsBadLook, IsStopped}
use Rattle.study_register.specs.Replying.{Replied, looks_taken, AreReplies}

-- If looks are taken, and then one look more, these looks and that one are taken.
abbrev pub OneMoreIsTaken : Type 0
OneMoreIsTaken =
    (c : Content) (looks : List Look) (old new : StudyState) (l : Look) → AreTaken c looks old → Takes c old l new
    → AreTaken c (looks ++ l ∷ []) new

-- Whatever looks are requested after looks that were taken, the state is that of the earlier looks and of the requested ones that were taken.
abbrev pub RepliesAreTaken : Type 0
RepliesAreTaken =
    (c : Content) (looks : List Look) (old new : StudyState) (rs : List Replied) → AreTaken c looks old → AreReplies c old rs new
    → AreTaken c (looks ++ looks_taken rs) new

-- The rejections are exactly those of the staged closed test on all looks that were taken.
abbrev pub TakenLooksDecide : Type 0
TakenLooksDecide =
    (c : Content) (looks : List Look) (s : StudyState) (j : ℕ) → IsValidContent c → AreTaken c looks s
    → IsListed (positions_of s.rejected) j ↔ IsStagedRejectedIn c (arrivals_of looks) j

-- In whatever order the looks came, the same hypotheses are rejected.
abbrev pub OrdersOfLooksAgree : Type 0
OrdersOfLooksAgree =
    (c : Content) (looks others : List Look) (s t : StudyState) (j : ℕ) → IsValidContent c → AreTaken c looks s → AreTaken c others t
    → ((l : Look) → Contains looks l ↔ Contains others l) → IsListed (positions_of s.rejected) j ↔ IsListed (positions_of t.rejected) j

-- The same looks in the same order give the same state: the same rejections in the same order, with the same stages and weights.
abbrev pub ReopeningsAgree : Type 0
ReopeningsAgree = (c : Content) (looks : List Look) (s t : StudyState) → AreTaken c looks s → AreTaken c looks t → s ≡ t

-- If looks are taken, none of them is the first that can't be taken.
abbrev pub TakenLooksAreNotStopped : Type 0
TakenLooksAreNotStopped = (c : Content) (looks : List Look) (s : StudyState) (why : RegisterFault) → AreTaken c looks s → ¬ IsStopped c looks why

-- Of looks at most one is the first that can't be taken, for one reason.
abbrev pub StopsAreUnique : Type 0
StopsAreUnique = (c : Content) (looks : List Look) (f g : RegisterFault) → IsStopped c looks f → IsStopped c looks g → f ≡ g

-- The opening of the case is undefined at one place only, no looks are taken, and none is the first that can't be taken.
pub record IsNotOpened (c : Content) (w : WideAt) : Type 0 where
  pub unique : (v : WideAt) → case_opening c ≡ Err v → v ≡ w
  pub taken : (looks : List Look) (s : StudyState) → ¬ AreTaken c looks s
  pub stopped : (looks : List Look) (why : RegisterFault) → ¬ IsStopped c looks why

abbrev pub WideOpeningsTakeNothing : Type 0
WideOpeningsTakeNothing = (c : Content) (w : WideAt) → case_opening c ≡ Err w → IsNotOpened c w

-- With whatever looks a valid case is opened, they are taken, or one of them is the first that can't be taken, or the opening of the case is undefined.
abbrev pub EachOpeningEnds : Type 0
EachOpeningEnds =
    (c : Content) (looks : List Look) → IsValidContent c
    → ((s : StudyState) × AreTaken c looks s) ⊎ (((why : RegisterFault) × IsStopped c looks why) ⊎ ((w : WideAt) × (case_opening c ≡ Err w)))

-- A look is taken, refused for one reason, or stops part way at one place, and no two of the three. Only a look of a hypothesis of the case is
-- taken or stops part way.
pub record HasOneEnd (c : Content) (s : StudyState) (l : Look) : Type 0 where
  pub state : (t u : StudyState) → Takes c s l t → Takes c s l u → t ≡ u
  pub refusal : (f g : StepFault) → IsArriveFault c s (arrival_of l) f → IsArriveFault c s (arrival_of l) g → f ≡ g
  pub place : (v w : WideAt) → IsWideLook c s (arrival_of l) v → IsWideLook c s (arrival_of l) w → v ≡ w
  pub not_refused : (t : StudyState) (f : StepFault) → Takes c s l t → ¬ IsArriveFault c s (arrival_of l) f
  pub not_broken : (t : StudyState) (w : WideAt) → Takes c s l t → ¬ IsWideLook c s (arrival_of l) w
  pub not_both : (f : StepFault) (w : WideAt) → IsArriveFault c s (arrival_of l) f → ¬ IsWideLook c s (arrival_of l) w
  pub taken_below : (t : StudyState) → Takes c s l t → l.hypothesis < length c.names
  pub broken_below : (w : WideAt) → IsWideLook c s (arrival_of l) w → l.hypothesis < length c.names

abbrev pub LooksHaveOneEnd : Type 0
LooksHaveOneEnd = (c : Content) (s : StudyState) (l : Look) → HasOneEnd c s l

-- Each look has an end, after looks that were taken. It is taken; or it can't arrive, since it names no hypothesis of the case or its arrival is
-- refused; or it stops part way at a place.
abbrev pub EachLookEnds : Type 0
EachLookEnds =
    (c : Content) (looks : List Look) (s : StudyState) (l : Look) → IsValidContent c → AreTaken c looks s
    → ((t : StudyState) × Takes c s l t) ⊎ (IsBadLook c s l ⊎ ((w : WideAt) × IsWideLook c s (arrival_of l) w))
