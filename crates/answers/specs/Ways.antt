-- The ways in which a call may end.
use Rattle.std.specs.Prelude.{◌≡◌, Result, Ok, Err}
use Rattle.graph_io.specs.Causes.{Rose}
use Rattle.answers.specs.Devices.{Reading}
use Rattle.answers.specs.Stages.{Stage}
use Rattle.answers.specs.declared.refusal.Refusal.{Refusal}
use Rattle.answers.specs.declared.stop.Stop.{Stop}
use Rattle.answers.specs.declared.stop.Stop.TheVariants.{Refused, ReadFault, KeeperFault, NoMemory}

-- What holds if a call gives a value, if it is refused, if a source or the keeper had a fault, and if it is out of memory.
pub record Ways (A : Type 0) : Type 1 where
  pub Gives : A → Type 0
  pub Refuses : Refusal → Type 0
  pub read : Type 0
  pub keeper : Type 0
  pub memory : Type 0

-- a call stops in one of its ways
abbrev pub StopsIn : {A : Type 0} → Ways A → Stop → Type 0
StopsIn w (Refused r) = w.Refuses r
StopsIn w ReadFault = w.read
StopsIn w KeeperFault = w.keeper
StopsIn w NoMemory = w.memory

-- a call ends in one of its ways
abbrev pub EndsIn : {A : Type 0} → Ways A → Result A Stop → Type 0
EndsIn w (Ok x) = w.Gives x
EndsIn w (Err stop) = StopsIn w stop

-- a fact unless a source had a fault or memory was exhausted: a call gives a value, is refused, or the keeper had a fault
abbrev pub IfConcluded : {A : Type 0} → Type 0 → Result A Stop → Type 0
IfConcluded P (Ok x) = P
IfConcluded P (Err (Refused r)) = P
IfConcluded P (Err ReadFault) = Unit {0}
IfConcluded P (Err KeeperFault) = P
IfConcluded P (Err NoMemory) = Unit {0}

-- The ways of a stage over values: no device is asked. Nothing is claimed of out-of-memory.
abbrev pub over_values : {A : Type 0} → Stage Refusal A → Ways A
over_values s = record { Gives = s.Gives; Refuses = s.Refuses; read = ⊥; keeper = ⊥; memory = Unit {0} }

-- The ways of a stage over sources, and of no keeper: `rose` says that one that is read had a fault, `clean` that none had.
abbrev pub over_source : {A : Type 0} → Stage Refusal A → (rose clean : Type 0) → Ways A
over_source s rose clean = record {
  Gives = λ x. s.Gives x × clean;
  Refuses = λ r. s.Refuses r × clean;
  read = rose;
  keeper = ⊥;
  memory = clean;
}

-- The ways of a stage over one source, by what it was and is.
abbrev pub over_reading : {A : Type 0} → Stage Refusal A → (old new : Reading) → Ways A
over_reading s old new = over_source s (Rose old.faults new.faults) (new.faults ≡ old.faults)
