-- What a file did that was out of memory.
use Rattle.std.proofs.Common.{◌≡◌, ℕ, List, Result, Ok, Err, IfErr, sym, subst, inr}
use Rattle.std.specs.Result.{IsErrAnd}
use Rattle.graph_io.specs.declared.keeper.KeeperFault.{KeeperFault}
use Rattle.graph_io.specs.declared.keeper.KeeperFault.TheVariants as keepers
use Rattle.graph_io.specs.declared.keeper.Look.{Look}
use Rattle.sqlite.specs.declared.error.Error.{Error}
use Rattle.study_sqlite.specs.declared.fault.FileFault.{FileFault}
use Rattle.study_sqlite.specs.declared.fault.FileFault.TheVariants.{Refused, NoMemory}
use Rattle.sqlite.specs.Recovery.{Image}
use Rattle.sqlite_disk.specs.declared.Disk as disk
use Rattle.study_sqlite.specs.declared.storage.Storage.{Storage}
use Rattle.study_sqlite.specs.Counting.{IsCounted, OnNoMemory}
use Rattle.study_sqlite.specs.FileFaults.{fault_of_error, OnMemory}
use Rattle.study_sqlite.specs.Storing.{AreLoaded, IsLoadCut, IsAppendCut}
use Rattle.study_sqlite.proofs.Faults.{told}

on_memory : (f : FileFault) (error : Error) (P : Type 0) → f ≡ fault_of_error error → (fault_of_error error ≡ NoMemory → P) → OnMemory P f
on_memory Refused error P is k = tt
on_memory NoMemory error P is k = k (sym is)

-- what holds where an error is out of memory holds of what is reported of it
pub memory_told : {T : Type 0} (r : Result T FileFault) (error : Error) (P : Type 0) → IsErrAnd r (λ f. f ≡ fault_of_error error)
    → (fault_of_error error ≡ NoMemory → P) → IfErr r (OnMemory P)
memory_told r error P h k = told r error (OnMemory P) h (λ f is. on_memory f error P is k)

-- what holds whatever is reported
pub memory_known : {T : Type 0} (r : Result T FileFault) (P : Type 0) → P → IfErr r (OnMemory P)
memory_known (Ok x) P p = tt
memory_known (Err Refused) P p = tt
memory_known (Err NoMemory) P p = p

-- what follows from what holds under a condition
pub memory_under : {T : Type 0} (r : Result T FileFault) (H P Q : Type 0) → (H → IfErr r (OnMemory P)) → ((H → P) → Q) → IfErr r (OnMemory Q)
memory_under (Ok x) H P Q h k = tt
memory_under (Err Refused) H P Q h k = tt
memory_under (Err NoMemory) H P Q h k = k h

-- what follows from what is known of any fault
pub memory_as : {T : Type 0} (r : Result T FileFault) (P : FileFault → Type 0) (Q : Type 0) → IfErr r P → (P NoMemory → Q) → IfErr r (OnMemory Q)
memory_as (Ok x) P Q h k = tt
memory_as (Err Refused) P Q h k = tt
memory_as (Err NoMemory) P Q h k = k h

-- the same of a fault that is passed on
pub memory_passed : {T : Type 0} (r : Result T FileFault) (fault : FileFault) (P : FileFault → Type 0) (Q : Type 0) → IsErrAnd r (λ f. f ≡ fault)
    → P fault → (P NoMemory → Q) → IfErr r (OnMemory Q)
memory_passed (Ok x) fault P Q is h k = tt
memory_passed (Err f) Refused P Q is h k = subst (OnMemory Q) (sym is) tt
memory_passed (Err f) NoMemory P Q is h k = subst (OnMemory Q) (sym is) (k h)

-- looks that were loaded were shown
pub shown_at_most : {D S : Type 0} {g : disk.Ghosts D} (first : Image) → (old new : Storage D S g) (looks : List Look) → AreLoaded first old new looks → IsLoadCut first old new
shown_at_most first old new looks h =
    inr (h.0, h.1, h.2, h.3, h.4, λ clean. let kept = h.5 clean in inr (kept.middle, kept.made, inr (kept.shown.0, kept.shown.1)))

counted_out : (before now : ℕ) (f : FileFault) (said : KeeperFault) (P : Type 0) → IsCounted before now f said → OnMemory P f → OnNoMemory P said
counted_out before now Refused said P is h = subst (OnNoMemory P) (sym is.0) tt
counted_out before now NoMemory said P is h = subst (OnNoMemory P) (sym is.0) h

-- what holds whatever is reported to the caller
pub known_out : {T : Type 0} (r : Result T KeeperFault) (P : Type 0) → P → IfErr r (OnNoMemory P)
known_out (Ok x) P p = tt
known_out (Err keepers.Fault) P p = tt
known_out (Err keepers.NoMemory) P p = p

-- counting leaves the file of a load as it is
pub load_cut : {D S : Type 0} {g : disk.Ghosts D} (first : Image) → (before now : ℕ) (f : FileFault) (said : KeeperFault) (old middle new : Storage D S g) → OnMemory (IsLoadCut first old middle) f
    → IsCounted before now f said → new ≡ middle → OnNoMemory (IsLoadCut first old new) said
load_cut first before now f said old middle new h is same =
    counted_out before now f said (IsLoadCut first old new) is (subst (λ s. OnMemory (IsLoadCut first old s) f) (sym same) h)

-- the same of an append
pub append_cut : {D S : Type 0} {g : disk.Ghosts D} (first : Image) → (before now : ℕ) (f : FileFault) (said : KeeperFault) (old middle new : Storage D S g) (look : Look)
    → OnMemory (IsAppendCut first old middle look) f → IsCounted before now f said → new ≡ middle → OnNoMemory (IsAppendCut first old new look) said
append_cut first before now f said old middle new look h is same =
    counted_out before now f said (IsAppendCut first old new look) is (subst (λ s. OnMemory (IsAppendCut first old s look) f) (sym same) h)
