-- The looks at a case: its arrivals come in their order, and after each the study is settled (this project's own).
use Rattle.std.specs.Prelude.{◌≡◌, ◌⊎◌, ◌++◌, ◌+◌, ℕ, List, [], ◌∷◌, Ok, Err}
use Rattle.field_core.specs.declared.place.WideAt.{WideAt}
use Rattle.case_model.specs.declared.draft_stages.Arrival.{Arrival}
use Rattle.case_model.specs.declared.inputs.Inputs.{Inputs}
use Rattle.case_model.specs.declared.inputs.Inputs.TheVariants.{Bare, Single, Staged}
use Rattle.case_model.specs.Content.{Content}
use Rattle.entangled.specs.CaseRun.{CaseState, case_opening}
use Rattle.entangled.specs.CaseAfter.{case_after}
use Rattle.entangled.specs.OpenFaults.{OpenFault}
use Rattle.field_core.specs.declared.fault.Fault.TheVariants.{Wide as OpenWide, NoMemory as OpenNoMemory}
use Rattle.staged_levels.specs.declared.event.Settled.{Settled}
use Rattle.staged_levels.specs.declared.case_looks.LooksFault.{LooksFault}
use Rattle.staged_levels.specs.declared.case_looks.LooksFault.TheVariants.{Opening, Arriving, NoMemory}
use Rattle.staged_levels.specs.Studies.{StudyState, start, positions_of}
use Rattle.staged_levels.specs.StudyCalls.{IsArrival, AreFirstRejections, Settles}
use Rattle.staged_levels.specs.StudyAnswers.{IsWideSettling}

-- the p-values that arrived, and none if there are no stages
abbrev pub arrivals_of : Inputs → List Arrival
arrivals_of (Staged s) = s.arrivals
arrivals_of Bare = []
arrivals_of (Single ps) = []

-- the written opening and the written removals of the rejected hypotheses are defined
pub record IsDefined (c : Content) (s : StudyState) : Type 0 where
  pub state : CaseState
  pub state_is : case_after c (positions_of s.rejected) ≡ Ok state

-- a look: a p-value arrives, the study is settled, and these rejections are added, whose removals are defined
pub record IsLook (c : Content) (old : StudyState) (a : Arrival) (added : List Settled) (new : StudyState) : Type 0 where
  pub arrived : StudyState
  pub arrival : IsArrival c old a arrived
  pub settles : Settles c arrived new
  pub rejected : new.rejected ≡ old.rejected ++ added
  pub is_defined : IsDefined c new

-- a look that stops part way: a p-value arrives, and the removal of some first hypothesis that is legal then is undefined first at
-- `w`
pub record IsWideLook (c : Content) (old : StudyState) (a : Arrival) (w : WideAt) : Type 0 where
  pub arrived : StudyState
  pub arrival : IsArrival c old a arrived
  pub rejected : List ℕ
  pub stop : StudyState
  pub rejections : AreFirstRejections c arrived rejected stop
  pub is_defined : IsDefined c stop
  pub wide : IsWideSettling c stop w

-- why the look at an arrival of this number stops part way; nothing is claimed of out-of-memory
abbrev pub IsLookFault : Content → StudyState → Arrival → ℕ → LooksFault → Type 0
IsLookFault c old a n (Opening w) = ⊥
IsLookFault c old a n (Arriving i w) = (i ≡ n) × IsWideLook c old a w
IsLookFault c old a n NoMemory = Unit {0}

-- a fault of the opening as a fault of looks
abbrev pub at_opening : OpenFault → LooksFault
at_opening (OpenWide w) = Opening w
at_opening OpenNoMemory = NoMemory

-- a look for each arrival, one after another, up to a study
abbrev pub LooksLead : Content → StudyState → List Arrival → List (List Settled) → StudyState → Type 0
LooksLead c old [] [] new = new ≡ old
LooksLead c old [] (l ∷ ls) new = ⊥
LooksLead c old (a ∷ more) [] new = ⊥
LooksLead c old (a ∷ more) (l ∷ ls) new = (mid : StudyState) × IsLook c old a l mid × LooksLead c mid more ls new

-- the rejections of looks, one after another
abbrev pub rejected_in : List (List Settled) → List Settled
rejected_in [] = []
rejected_in (l ∷ looks) = l ++ rejected_in looks

-- the looks at a case from its opening on, which is defined
pub record AreLooks (c : Content) (looks : List (List Settled)) : Type 0 where
  pub opened : IsDefined c start
  pub end : StudyState
  pub lead : LooksLead c start (arrivals_of c.inputs) looks end

-- from an arrival of this number on, the look at the arrival `n` is the first that stops part way, at `w`
abbrev pub IsFirstWideLook : Content → StudyState → ℕ → List Arrival → ℕ → WideAt → Type 0
IsFirstWideLook c old i [] n w = ⊥
IsFirstWideLook c old i (a ∷ more) n w =
    ((n ≡ i) × IsWideLook c old a w) ⊎ ((added : List Settled) × (mid : StudyState) × IsLook c old a added mid × IsFirstWideLook c mid (i + 1) more n w)

-- the written opening of a case is defined, and the look at the arrival `n`, counted from 1, is the first that stops part way, at
-- `w`
pub record BreaksOff (c : Content) (n : ℕ) (w : WideAt) : Type 0 where
  pub opened : IsDefined c start
  pub first : IsFirstWideLook c start 1 (arrivals_of c.inputs) n w

-- why there are no looks at a case; nothing is claimed of out-of-memory
abbrev pub IsLooksFault : Content → LooksFault → Type 0
IsLooksFault c (Opening w) = case_opening c ≡ Err w
IsLooksFault c (Arriving n w) = BreaksOff c n w
IsLooksFault c NoMemory = Unit {0}
