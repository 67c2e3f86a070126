-- Stops that are handed on.
use Rattle.std.proofs.Common.{◌≡◌, sym, subst, Result, Ok, Err}
use Rattle.std.specs.Result.{IsErrAnd}
use Rattle.answers.specs.declared.refusal.Refusal.{Refusal}
use Rattle.answers.specs.declared.stop.Stop.{Stop}
use Rattle.answers.specs.declared.stop.Stop.TheVariants.{Refused, ReadFault, KeeperFault, NoMemory}
use Rattle.answers.specs.Stages.{Stage}
use Rattle.answers.specs.Ways.{Ways, StopsIn, EndsIn, IfConcluded, over_values, over_source}

-- a stop, by what holds at each
abbrev pub StopsBy : (Refusal → Type 0) → (read keeper memory : Type 0) → Stop → Type 0
StopsBy Refuses read keeper memory (Refused r) = Refuses r
StopsBy Refuses read keeper memory ReadFault = read
StopsBy Refuses read keeper memory KeeperFault = keeper
StopsBy Refuses read keeper memory NoMemory = memory

-- an error that is handed on
pub handed_on : {A : Type 0} (whole : Ways A) (r : Result A Stop) (s : Stop) → IsErrAnd r (λ e. e ≡ s) → StopsIn whole s → EndsIn whole r
handed_on whole (Ok x) s e h = absurd e
handed_on whole (Err x) s e h = subst (StopsIn whole) (sym e) h

module _ (P Q : Refusal → Type 0) (read keeper memory : Type 0) where
  -- a stop of a step over values is one of the whole
  pub value_stops : (stop : Stop) → ((r : Refusal) → P r → Q r) → memory → StopsBy P ⊥ ⊥ (Unit {0}) stop → StopsBy Q read keeper memory stop
  value_stops (Refused r) refuses none h = refuses r h
  value_stops ReadFault refuses none h = absurd h
  value_stops KeeperFault refuses none h = absurd h
  value_stops NoMemory refuses none h = none

  -- a stop of a step over sources is one of the whole
  pub source_stops : (rose clean : Type 0) (stop : Stop) → ((r : Refusal) → P r → clean → Q r) → (rose → read) → (clean → memory)
      → StopsBy (λ r. P r × clean) rose ⊥ clean stop → StopsBy Q read keeper memory stop
  source_stops rose clean (Refused r) refuses faults none h = refuses r h.0 h.1
  source_stops rose clean ReadFault refuses faults none h = faults h
  source_stops rose clean KeeperFault refuses faults none h = absurd h
  source_stops rose clean NoMemory refuses faults none h = none h

-- what a step over values ends in, the whole ends in
pub value_ends : {A : Type 0} (part : Stage Refusal A) (whole : Ways A) (r : Result A Stop) → ((x : A) → part.Gives x → whole.Gives x)
    → ((q : Refusal) → part.Refuses q → whole.Refuses q) → whole.memory → EndsIn (over_values part) r → EndsIn whole r
value_ends part whole (Ok x) gives refuses memory h = gives x h
value_ends part whole (Err stop) gives refuses memory h =
    value_stops part.Refuses whole.Refuses whole.read whole.keeper whole.memory stop refuses memory h

-- what a step over sources ends in, the whole ends in
pub source_ends : {A : Type 0} (part : Stage Refusal A) (rose clean : Type 0) (whole : Ways A) (r : Result A Stop)
    → ((x : A) → part.Gives x → clean → whole.Gives x)
    → ((q : Refusal) → part.Refuses q → clean → whole.Refuses q) → (rose → whole.read) → (clean → whole.memory)
    → EndsIn (over_source part rose clean) r → EndsIn whole r
source_ends part rose clean whole (Ok x) gives refuses read memory h = gives x h.0 h.1
source_ends part rose clean whole (Err stop) gives refuses read memory h =
    source_stops part.Refuses whole.Refuses whole.read whole.keeper whole.memory rose clean stop refuses read memory h

-- a fact that holds of each end
pub concluded : {A : Type 0} (P : Type 0) (r : Result A Stop) → P → IfConcluded P r
concluded P (Ok x) p = p
concluded P (Err (Refused q)) p = p
concluded P (Err ReadFault) p = tt
concluded P (Err KeeperFault) p = p
concluded P (Err NoMemory) p = tt

-- a step over sources that doesn't refuse stops by a read fault or out of memory
unrefused : {A : Type 0} (B P : Type 0) (s : Stage Refusal A) (rose clean : Type 0) (stop : Stop) → ((q : Refusal) → s.Refuses q → ⊥)
    → StopsIn (over_source s rose clean) stop → IfConcluded {A = B} P (Err stop)
unrefused B P s rose clean (Refused q) none h = absurd (none q h.0)
unrefused B P s rose clean ReadFault none h = tt
unrefused B P s rose clean KeeperFault none h = absurd h
unrefused B P s rose clean NoMemory none h = tt

-- so of such a stop that is handed on nothing is left to show
pub unrefused_handed_on : {A B : Type 0} (P : Type 0) (s : Stage Refusal A) (rose clean : Type 0) (r : Result B Stop) (stop : Stop)
    → IsErrAnd r (λ e. e ≡ stop) → ((q : Refusal) → s.Refuses q → ⊥) → StopsIn (over_source s rose clean) stop → IfConcluded P r
unrefused_handed_on P s rose clean (Ok x) stop e none h = absurd e
unrefused_handed_on {A} {B} P s rose clean (Err x) stop e none h =
    subst (λ t. IfConcluded {A = B} P (Err t)) (sym e) (unrefused B P s rose clean stop none h)
