-- Why calls of a register are refused, and what is left of the study after a refusal.
use Rattle.std.specs.Prelude.{◌≡◌, ◌≤◌, ◌+◌, ◌⊎◌, ℕ, Bool, true, false, IfSome, List, [], ◌∷◌, length, Option, Result, Ok, Err}
use Rattle.field_core.specs.declared.place.WideAt.{WideAt}
use Rattle.graph_io.specs.declared.keeper.Look.{Look}
use Rattle.case_model.specs.Content.{Content}
use Rattle.entangled.specs.CaseRun.{case_opening}
use Rattle.staged_levels.specs.declared.event.StepFault.{StepFault}
use Rattle.staged_levels.specs.Studies.{StudyState, start}
use Rattle.staged_levels.specs.StudyAnswers.{IsArriveFault, IsWideSettling}
use Rattle.staged_levels.specs.StudyCalls.{IsArrival, AreFirstRejections}
use Rattle.staged_levels.specs.Looks.{IsDefined, IsWideLook}
use Rattle.study_register.specs.declared.fault.RegisterFault.{RegisterFault}
use Rattle.study_register.specs.declared.fault.RegisterFault.TheVariants.{BadLook, Wide, Fault, NoMemory}
use Rattle.study_register.specs.declared.fault.AddFault.{AddFault}
use Rattle.study_register.specs.declared.fault.AddFault.TheVariants as additions
use Rattle.study_register.specs.declared.taking.TakeFault.{TakeFault}
use Rattle.study_register.specs.declared.taking.TakeFault.TheVariants as takings
use Rattle.study_register.specs.Looking.{arrival_of, Takes}

-- some looks satisfy `P`; if the keeper exposes its looks, they are these
abbrev pub OnLooks : Option (List Look) → (List Look → Type 0) → Type 0
OnLooks kept P = (looks : List Look) × P looks × IfSome kept (λ told. told ≡ looks)

module _ (c : Content) where
  -- a look names no hypothesis, or its arrival is refused
  abbrev pub IsBadLook : StudyState → Look → Type 0
  IsBadLook s l = (length c.names ≤ l.hypothesis) ⊎ ((f : StepFault) × IsArriveFault c s (arrival_of l) f)

  -- the look at a place can't be taken: it is bad, or an operation that is written for it is undefined
  abbrev pub IsStopAt : StudyState → ℕ → Look → RegisterFault → Type 0
  IsStopAt s place l (BadLook n bad) = (n ≡ place) × (bad ≡ l) × IsBadLook s l
  IsStopAt s place l (Wide n w) = (n ≡ place) × IsWideLook c s (arrival_of l) w
  IsStopAt s place l Fault = ⊥
  IsStopAt s place l NoMemory = ⊥

  -- one of these looks, of which the first is at this place, can't be taken, and those before it are taken
  abbrev pub IsFirstStop : StudyState → ℕ → List Look → RegisterFault → Type 0
  IsFirstStop old place [] why = ⊥
  IsFirstStop old place (l ∷ ls) why =
      IsStopAt old place l why ⊎ ((mid : StudyState) × Takes c old l mid × IsFirstStop mid (place + 1) ls why)

  -- the case is opened, and one of the looks is the first that can't be taken
  pub record IsStopped (looks : List Look) (why : RegisterFault) : Type 0 where
    pub opened : IsDefined c start
    pub first : IsFirstStop start 1 looks why

  -- why a register isn't opened, given the looks that a keeper holds and whether its count of faults rose
  abbrev pub IsRegisterFault : Option (List Look) → Type 0 → RegisterFault → Type 0
  IsRegisterFault kept rose (BadLook n l) = OnLooks kept (λ looks. IsStopped looks (BadLook n l))
  IsRegisterFault kept rose (Wide n w) = ((n ≡ 0) × (case_opening c ≡ Err w)) ⊎ OnLooks kept (λ looks. IsStopped looks (Wide n w))
  IsRegisterFault kept rose Fault = IsDefined c start × rose
  IsRegisterFault kept rose NoMemory = Unit {0}

  -- why a look isn't taken
  abbrev pub IsTakeFault : StudyState → Look → TakeFault → Type 0
  IsTakeFault s l (takings.Refused f) = IsArriveFault c s (arrival_of l) f
  IsTakeFault s l (takings.Wide w) = IsWideLook c s (arrival_of l) w

  -- why a look isn't added; a keeper is asked only if the look can be taken
  abbrev pub IsAddFault : StudyState → Look → Type 0 → AddFault → Type 0
  IsAddFault s l rose (additions.Refused f) = IsArriveFault c s (arrival_of l) f
  IsAddFault s l rose (additions.Wide w) = IsWideLook c s (arrival_of l) w
  IsAddFault s l rose additions.Fault = (new : StudyState) × Takes c s l new × rose
  IsAddFault s l rose additions.NoMemory = (new : StudyState) × Takes c s l new

  -- a look arrives, and its settling stops part way at `w`: the first legal hypotheses were rejected up to one whose removal is
  -- undefined
  pub record BreaksInto (s : StudyState) (l : Look) (w : WideAt) (new : StudyState) : Type 0 where
    pub arrived : StudyState
    pub arrival : IsArrival c s (arrival_of l) arrived
    pub rejected : List ℕ
    pub rejections : AreFirstRejections c arrived rejected new
    pub wide : IsWideSettling c new w

  -- what is left of a study that doesn't take a look: the study stays as it was if the arrival is refused
  abbrev pub LeavesUntaken : StudyState → Look → StudyState → TakeFault → Type 0
  LeavesUntaken s l new (takings.Refused f) = new ≡ s
  LeavesUntaken s l new (takings.Wide w) = BreaksInto s l w new

  -- what is left of a study if a look isn't added: the look is taken, if only the keeper doesn't hold it
  abbrev pub Leaves : StudyState → Look → StudyState → AddFault → Type 0
  Leaves s l new (additions.Refused f) = new ≡ s
  Leaves s l new (additions.Wide w) = BreaksInto s l w new
  Leaves s l new additions.Fault = Takes c s l new
  Leaves s l new additions.NoMemory = Takes c s l new

-- how many calls of the keeper a refused addition makes: none, unless the look can be taken
abbrev pub turns_by : AddFault → ℕ
turns_by (additions.Refused f) = 0
turns_by (additions.Wide w) = 0
turns_by additions.Fault = 1
turns_by additions.NoMemory = 1

-- how many calls of the keeper an addition makes
abbrev pub turns_of : {A : Type 0} → Result A AddFault → ℕ
turns_of (Ok x) = 1
turns_of (Err why) = turns_by why

-- whether a register is spent by a refusal
abbrev pub spent_by : AddFault → Bool
spent_by (additions.Refused f) = false
spent_by (additions.Wide w) = true
spent_by additions.Fault = true
spent_by additions.NoMemory = true

-- whether a register is spent after an addition
abbrev pub spent_after : {A : Type 0} → Result A AddFault → Bool
spent_after (Ok x) = false
spent_after (Err why) = spent_by why
