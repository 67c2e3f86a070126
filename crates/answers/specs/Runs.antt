-- The clause of a top call, by its status: texts, faults and sources.
use Rattle.std.specs.Prelude.{◌≡◌, ℕ, ◌≤◌, ◌+◌, length, List, ◌⊎◌, Option, Result, Ok, Err}
use Rattle.std.specs.Io.KnownBytes.{Appends, IsAtEnd}
use Rattle.graph_io.specs.Causes.{Rose}
use Rattle.graph_io.specs.Writing.{AppendsPrefix}
use Rattle.answers.specs.declared.answer.Answer.{Answer}
use Rattle.answers.specs.declared.refusal.Refusal.{Refusal}
use Rattle.answers.specs.declared.stop.Stop.{Stop}
use Rattle.answers.specs.Codes.{status_code, stop_code}
use Rattle.answers.specs.Devices.{Writing}
use Rattle.answers.specs.Lines.{read_fault, no_memory, keeper_fault, stop_line, refused}
use Rattle.answers.specs.Ways.{Ways, EndsIn}

-- what is put for an outcome: the text of the answer, or the line that says why there is none
abbrev pub text_of : Result Answer Stop → List ℕ
text_of (Ok a) = a.text
text_of (Err stop) = stop_line stop

-- the status of an outcome that is put whole
abbrev pub status_of : Result Answer Stop → ℕ
status_of (Ok a) = status_code a.status
status_of (Err stop) = stop_code stop

-- the status of a call that gave a value or was refused, or whose keeper had a fault
abbrev pub IsConcluded : ℕ → Type 0
IsConcluded status = (status ≤ 5) ⊎ (status ≡ 9)

-- A text was put without a fault of the sink, and its status returned. Or the sink had a fault and holds a prefix of the text, and the status is 7.
abbrev pub Finished : (old new : Writing) → List ℕ → ℕ → ℕ → Type 0
Finished old new text status result =
    ((result ≡ status) × Appends old.held new.held text × (new.faults ≡ old.faults))
    ⊎ ((result ≡ 7) × Rose old.faults new.faults × AppendsPrefix old.held new.held text)

-- an answer that the call may give, or that is its refusal
abbrev pub MayAnswer : Ways Answer → Answer → Type 0
MayAnswer w a = w.Gives a ⊎ ((r : Refusal) × w.Refuses r × (a ≡ refused r))

-- An answer that the call may give was put whole, and its status returned.
pub record IsAnswered (w : Ways Answer) (old new : Option (List ℕ)) (status : ℕ) : Type 0 where
  pub answer : Answer
  pub may : MayAnswer w answer
  pub status_is : status ≡ status_code answer.status
  pub put : Appends old new answer.text

-- After its old bytes the sink holds a prefix of what is put for an outcome that the call may have.
pub record IsCutShort (w : Ways Answer) (old new : Option (List ℕ)) : Type 0 where
  pub outcome : Result Answer Stop
  pub ends : EndsIn w outcome
  pub put : AppendsPrefix old new (text_of outcome)

-- An outcome that the call may have was put, or the front of it before a fault of the sink. At most one put was made for each byte of its text.
pub record IsPutBriefly (w : Ways Answer) (old new : Writing) (status : ℕ) : Type 0 where
  pub outcome : Result Answer Stop
  pub ends : EndsIn w outcome
  pub finished : Finished old new (text_of outcome) (status_of outcome) status
  pub puts : new.calls ≤ old.calls + length (text_of outcome)

-- What a top call does, by its status. `w` are the ways in which the call may end, and `old` and `new` are the sink before and after the call. The
-- sink had a fault in this call if its count of faults rose.
pub record Runs (w : Ways Answer) (old new : Writing) (status : ℕ) : Type 0 where
  pub done : status ≤ 5 → IsAnswered w old.held new.held status
  pub read : status ≡ 6 → w.read × Appends old.held new.held read_fault
  pub write : status ≡ 7 → Rose old.faults new.faults
  pub partial : status ≡ 7 → IsCutShort w old.held new.held
  pub memory : status ≡ 8 → w.memory × Appends old.held new.held no_memory
  pub keeper : status ≡ 9 → w.keeper × Appends old.held new.held keeper_fault
  pub faultless : ¬ (status ≡ 7) → new.faults ≡ old.faults
  pub complete : ¬ w.read → ¬ w.keeper → ¬ Rose old.faults new.faults → (status ≤ 5) ⊎ (status ≡ 8)
  pub known : status ≤ 9
  pub brief : IsPutBriefly w old new status

-- What a top call does to a source. A source that the call doesn't read stays as it was; one that it reads is at its end if the status is 0.
pub record Uses {S : Type 0} (left : S → Option (List ℕ)) (Reads : Type 0) (old new : S) (status : ℕ) : Type 0 where
  pub untouched : ¬ Reads → new ≡ old
  pub end : Reads → status ≡ 0 → IsAtEnd (left new)
