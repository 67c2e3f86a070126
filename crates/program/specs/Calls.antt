-- Which files a call of the program opens for its words, and what it does over them.
use Rattle.std.specs.Prelude.{◌≡◌, ◌⊎◌, ◌≤◌, ◌+◌, ◌-◌, ◌^◌, ℕ, min, List, [], Option, Some}
use Rattle.std.specs.Io.KnownBytes.{IsAtEnd}
use Rattle.std.specs.List.{slice_get}
use Rattle.graph_io.specs.Reading.{TookAtMost}
use Rattle.graph_io.specs.declared.keeper.Look.{Look}
use Rattle.graph_io.specs.declared.reading.Source.{Ghosts as SourceGhosts}
use Rattle.graph_io.specs.declared.writing.Sink.{Ghosts as SinkGhosts}
use Rattle.answers.specs.Devices.{Reading, Writing, Keeping, reading, writing}
use Rattle.answers.specs.Runs.{Runs, IsConcluded}
use Rattle.answers.specs.Stages.{most_bytes}
use Rattle.graph_cli.specs.Outcome as graph
use Rattle.study_cli.specs.StudyOutcome as study
use Rattle.program.specs.Requests.{Request, open_file, close_file, open_store, close_store, opened, refused, without_memory}
use Rattle.program.specs.declared.opener.Opener.{Ghosts}

-- the path of the file that the words name: a proof, or the commands of a study
abbrev pub NamesPath : List (List ℕ) → List ℕ → Type 0
NamesPath words path = (place : ℕ) × graph.NamesFile words place × (slice_get words place ≡ Some path)

-- An opener was requested to open the file that the words name, and had no memory for it.
abbrev pub LacksMemoryForFile : {O : Type 0} → (O → Request → O → Type 0) → List (List ℕ) → O → O → Type 0
LacksMemoryForFile Does words old new = (path : List ℕ) × NamesPath words path × Does old (open_file path without_memory) new

-- An opener was requested to open the store that the words name, and had no memory for it.
abbrev pub LacksMemoryForStore : {O : Type 0} → (O → Request → O → Type 0) → List (List ℕ) → O → O → Type 0
LacksMemoryForStore Does words old new = (path : List ℕ) × study.NamesStore words path × Does old (open_store path without_memory) new

-- There was no memory to open a file or store that the words name, as `lacking` states. The status is 8, and `same` states what is as it was.
pub record IsStopped (status : ℕ) (same lacking : Type 0) : Type 0 where
  pub status_is : status ≡ 8
  pub same_is : same
  pub lacks : lacking

-- a file that wasn't called yet, with what it holds
abbrev pub unread : Option (List ℕ) → Reading
unread bytes = record { left = bytes; faults = 0; calls = 0 }

-- a store that wasn't called yet, with what it keeps
abbrev pub uncalled : Option (List Look) → Keeping
uncalled looks = record { looks = looks; faults = 0; calls = 0 }

-- A file wasn't called: it holds what it held before, with no call and no fault.
abbrev pub IsUnread : Option (List ℕ) → Reading → Type 0
IsUnread before after = (after.left ≡ before) × (after.faults ≡ 0) × (after.calls ≡ 0)

-- What was done with a file. If it isn't read, it is as it was. If it is read, it is at its end with status 0, and a concluded call has taken from it
-- unless something before it is refused. In any case it is at its end, or at most one byte more than an input may have was taken from it. The number
-- of takes is at most this number of bytes.
pub record IsUsed (Reads Refuses : Type 0) (before : Option (List ℕ)) (after : Reading) (status : ℕ) : Type 0 where
  pub untouched : ¬ Reads → IsUnread before after
  pub end : Reads → status ≡ 0 → IsAtEnd after.left
  pub asked : Reads → ¬ Refuses → IsConcluded status → 1 ≤ after.calls
  pub taken : IsAtEnd after.left ⊎ TookAtMost before after.left (most_bytes + 1)
  pub turns : after.calls ≤ most_bytes + 1

-- A call that is not one of a study does what `run` does over the file. The opener is `from` before the call and `to` after it; the file held `before`,
-- and is `after` then.
pub record IsRun {O : Type 0} (words : List (List ℕ)) (case_old case_new : Reading) (from to : O) (before : Option (List ℕ)) (after : Reading)
    (out_old out_new : Writing) (status : ℕ) : Type 0 where
  pub same : to ≡ from
  pub used : IsUsed (graph.ReadsProof words case_old.left) (graph.RefusesCase words case_old.left) before after status
  pub ran : Runs (graph.ways_of words case_old case_new (unread before) after) out_old out_new status

module _ {O F K : Type 0} (opener : Ghosts O F K) (words : List (List ℕ)) where
  -- A call was made over the file that the words name, and `Done` states what was done. The opener is `from` after the request to open the file, and
  -- `to` after the call; the file held `before`, and is `after` then. It was given back with the number of its calls, and of those that failed. A file
  -- that was refused has no bytes and is not given back, and each take from it failed. If no file is named, none is requested, and the call is made
  -- over no bytes, without a fault.
  pub record IsOver (old new : O) (Done : O → O → Option (List ℕ) → Reading → Type 0) : Type 0 where
    pub from : O
    pub to : O
    pub before : Option (List ℕ)
    pub after : Reading
    pub file :
        ((path : List ℕ) × NamesPath words path
        × ((opener.does old (open_file path opened) from × (before ≡ opener.bytes_at old path)
        × opener.does to (close_file path after.left after.faults after.calls) new)
        ⊎ (opener.does old (open_file path refused) from × opener.may_refuse old path × (before ≡ Some [])
        × (after.faults ≡ min after.calls (2 ^ 64 - 1)) × (new ≡ to))))
        ⊎ (((path : List ℕ) → ¬ NamesPath words path) × (from ≡ old) × (new ≡ to) × (before ≡ Some []) × (after.faults ≡ 0))
    pub done : Done from to before after

  -- The store that the words name was requested, and held the looks `kept`. It was given back with its looks then, the number of its calls, and that of
  -- those that failed. If no store is named, none is requested, there are no looks before and no faults, and the number of calls is left open.
  abbrev pub IsStored : (from to : O) → (kept : Option (List Look)) → (store : Keeping) → Type 0
  IsStored from to kept store =
      ((path : List ℕ) × study.NamesStore words path × (between : O) × opener.does from (open_store path opened) between × (kept ≡ opener.looks_at from path)
      × opener.does between (close_store path store.looks store.faults store.calls) to)
      ⊎ (((path : List ℕ) → ¬ study.NamesStore words path) × (to ≡ from) × (kept ≡ Some []) × (store.faults ≡ 0))

  -- A call of a study does what `run_study` does over the file and the looks that were kept.
  pub record IsStudied (case_old case_new : Reading) (from to : O) (before : Option (List ℕ)) (after : Reading) (out_old out_new : Writing) (status : ℕ)
      : Type 0 where
    pub kept : Option (List Look)
    pub store : Keeping
    pub stored : IsStored from to kept store
    -- a store of which no looks are requested is as it was
    pub untouched : ¬ study.AsksKeeper words case_old.left before → (store.looks ≡ kept) × (store.faults ≡ 0)
    pub turns : study.CallsWithin words case_old.left before 0 store.calls
    pub used : IsUsed (study.ReadsCommands words case_old.left) (study.RefusesCase words case_old.left) before after status
    pub ran : Runs (study.ways_of words case_old case_new (unread before) after (uncalled kept) store) out_old out_new status

-- What a call does by these words: to the opener, to its case and to its sink.
module _ {O F K S W : Type 0} (opener : Ghosts O F K) (source : SourceGhosts S) (sink : SinkGhosts W) (words : List (List ℕ))
    (case_old case_new : S) (out_old out_new : W) (status : ℕ) where
  -- `run` was called over the file
  abbrev pub MakesRun : (from to : O) → Option (List ℕ) → Reading → Type 0
  MakesRun from to before after =
      IsRun words (reading source case_old) (reading source case_new) from to before after (writing sink out_old) (writing sink out_new) status

  -- `run_study` was called over the file, or there was no memory to open the store that the words name; then all is as it was
  abbrev pub MakesStudy : (from to : O) → Option (List ℕ) → Reading → Type 0
  MakesStudy from to before after =
      IsStopped status ((case_new ≡ case_old) × (out_new ≡ out_old) × IsUnread before after) (LacksMemoryForStore opener.does words from to)
      ⊎ IsStudied opener words (reading source case_old) (reading source case_new) from to before after
      (writing sink out_old) (writing sink out_new) status

  -- the call was made over the file that the words name, or there was no memory to open it; then the case and the sink are as they were
  abbrev pub OpensFor : (Done : O → O → Option (List ℕ) → Reading → Type 0) → (old new : O) → Type 0
  OpensFor Done old new =
      IsStopped status ((case_new ≡ case_old) × (out_new ≡ out_old)) (LacksMemoryForFile opener.does words old new) ⊎ IsOver opener words old new Done

  -- what is done for words that don't begin with `study`
  abbrev pub CallsRun : (old new : O) → Type 0
  CallsRun = OpensFor MakesRun

  -- what is done for words that begin with `study`
  abbrev pub CallsStudy : (old new : O) → Type 0
  CallsStudy = OpensFor MakesStudy
