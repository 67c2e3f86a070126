-- Where a keeper's looks are, and what its calls did there.
use Rattle.std.specs.Prelude.{◌≡◌, ◌⊎◌, ◌++◌, ℕ, List}
use Rattle.graph_io.specs.declared.keeper.Look.{Look}
use Rattle.sqlite.specs.declared.Files.{Files}
use Rattle.sqlite.specs.declared.FileStore.{FileStore}
use Rattle.sqlite.specs.declared.error.Error.{Error}
use Rattle.sqlite.specs.Closing.{IsCopied}
use Rattle.sqlite.specs.Files as files
use Rattle.sqlite.specs.Files.{over_files, file_state, FailsToClose}
use Rattle.sqlite.specs.FileStore.{view}
use Rattle.sqlite.specs.Held.{Held}
use Rattle.sqlite.specs.Start.{FindsIn}
use Rattle.sqlite_disk.specs.declared.Disk as disk
use Rattle.sqlite.specs.Recovery.{Image}
use Rattle.sqlite.specs.State.{HasCleanDisk}
use Rattle.sqlite.specs.View.{IsClean}
use Rattle.sqlite.specs.WalReads.{AreClean}
use Rattle.study_sqlite.specs.declared.closed.Closed.{Closed}
use Rattle.study_sqlite.specs.declared.closed.Closed.TheVariants as closed
use Rattle.study_sqlite.specs.declared.fault.FileFault.{FileFault}
use Rattle.study_sqlite.specs.declared.fault.FileFault.TheVariants.{Refused}
use Rattle.study_sqlite.specs.declared.keeper.SqliteKeeper.{SqliteKeeper}
use Rattle.study_sqlite.specs.declared.storage.Storage.{Storage}
use Rattle.study_sqlite.specs.declared.storage.Storage.TheVariants.{Unopened, Opened, Failed}
use Rattle.study_sqlite.specs.FileFaults.{fault_of_error, OnRefusal}
use Rattle.study_sqlite.specs.Naming.{path_of}
use Rattle.study_sqlite.specs.Kept.{AreKept, IsPut, AreLooksRefused, IsLookRefused, AreLooksCut, IsLookCut}

-- the file of a keeper
abbrev pub storage_of : {D S : Type 0} {g : disk.Ghosts D} {start : _} → SqliteKeeper D S g start → Storage D S g
storage_of keeper = keeper.storage

-- the file at this path, which nothing has opened yet
abbrev pub IsUnopenedAt : {D S : Type 0} {g : disk.Ghosts D} → List ℕ → Storage D S g → Type 0
IsUnopenedAt path (Unopened name) = path_of name ≡ path
IsUnopenedAt path (Opened connection) = ⊥
IsUnopenedAt path Failed = ⊥

-- the file was opened just now
abbrev pub IsOpened : {D S : Type 0} {g : disk.Ghosts D} → Image → Storage D S g → Type 0
IsOpened first (Opened connection) = (HasCleanDisk (file_state connection) → files.IsOpened connection)
    × (HasCleanDisk (file_state connection) → FindsIn first (file_state connection))
IsOpened first (Unopened name) = ⊥
IsOpened first Failed = ⊥

-- a file that was open is as it was, and one that wasn't is open
abbrev pub IsOpenedFrom : {D S : Type 0} {g : disk.Ghosts D} → Image → Storage D S g → Storage D S g → Type 0
IsOpenedFrom first (Opened connection) now = now ≡ Opened connection
IsOpenedFrom first (Unopened name) now = IsOpened first now
IsOpenedFrom first Failed now = ⊥

-- The looks are those of the file, by its connection before and after. The connection before is that of an open file, or one that an opening gave; no
-- clause says what the path of this file is.
abbrev pub AreLoaded : {D S : Type 0} {g : disk.Ghosts D} → Image → Storage D S g → Storage D S g → List Look → Type 0
AreLoaded first old new looks =
    (before : _) × (after : _) × IsOpenedFrom first old (Opened before) × (new ≡ Opened after)
    × (HasCleanDisk (file_state after) → HasCleanDisk (file_state before))
    × (HasCleanDisk (file_state after) → AreKept over_files before after looks)

-- the looks of the file were appended to others
abbrev pub IsLoaded : {D S : Type 0} {g : disk.Ghosts D} → Image → Storage D S g → Storage D S g → List Look → List Look → Type 0
IsLoaded first old new others all = (looks : List Look) × (all ≡ others ++ looks) × AreLoaded first old new looks

-- the look was put into the file, by its connection before and after
abbrev pub IsAppended : {D S : Type 0} {g : disk.Ghosts D} → Image → Storage D S g → Storage D S g → Look → Type 0
IsAppended first old new look =
    (before : _) × (after : _) × IsOpenedFrom first old (Opened before) × (new ≡ Opened after)
    × (HasCleanDisk (file_state after) → HasCleanDisk (file_state before))
    × (HasCleanDisk (file_state after) → IsPut over_files before after look)

-- the file wasn't open and isn't: its opening failed; no clause says when or why that happens
abbrev pub IsNotOpened : {D S : Type 0} {g : disk.Ghosts D} → Storage D S g → Storage D S g → Type 0
IsNotOpened (Opened connection) now = ⊥
IsNotOpened (Unopened name) now = now ≡ Failed
IsNotOpened Failed now = now ≡ Failed

-- why a file gave no looks: its opening was refused, a statement gave an error, or a row that it showed is not the row of a look
abbrev pub IsLoadRefused : {D S : Type 0} {g : disk.Ghosts D} → Image → Storage D S g → Storage D S g → Type 0
IsLoadRefused first old new =
    IsNotOpened old new
    ⊎ ((before : _) × (after : _) × IsOpenedFrom first old (Opened before) × (new ≡ Opened after)
    × (HasCleanDisk (file_state after) → HasCleanDisk (file_state before))
    × (HasCleanDisk (file_state after) → AreLooksRefused over_files before after))

-- why a file took no look: its opening was refused, or a statement gave an error
abbrev pub IsAppendRefused : {D S : Type 0} {g : disk.Ghosts D} → Image → Storage D S g → Storage D S g → Look → Type 0
IsAppendRefused first old new look =
    IsNotOpened old new
    ⊎ ((before : _) × (after : _) × IsOpenedFrom first old (Opened before) × (new ≡ Opened after)
    × (HasCleanDisk (file_state after) → HasCleanDisk (file_state before))
    × (HasCleanDisk (file_state after) → IsLookRefused over_files before after look))

-- what a file did that gave no looks when out of memory: it wasn't opened, or no statement ran on it but those of a load
abbrev pub IsLoadCut : {D S : Type 0} {g : disk.Ghosts D} → Image → Storage D S g → Storage D S g → Type 0
IsLoadCut first old new =
    IsNotOpened old new
    ⊎ ((before : _) × (after : _) × IsOpenedFrom first old (Opened before) × (new ≡ Opened after)
    × (HasCleanDisk (file_state after) → HasCleanDisk (file_state before))
    × (HasCleanDisk (file_state after) → AreLooksCut over_files before after))

-- what a file did that took no look when out of memory: it wasn't opened, or the statement that puts the row did not run, or gave this error
abbrev pub IsAppendCut : {D S : Type 0} {g : disk.Ghosts D} → Image → Storage D S g → Storage D S g → Look → Type 0
IsAppendCut first old new look =
    IsNotOpened old new
    ⊎ ((before : _) × (after : _) × IsOpenedFrom first old (Opened before) × (new ≡ Opened after)
    × (HasCleanDisk (file_state after) → HasCleanDisk (file_state before))
    × (HasCleanDisk (file_state after) → IsLookCut over_files before after look))

-- The last commit of a connection is in the database file that its close left, alone and also after a crash, as long as the disk
-- returned what was written.
abbrev pub IsCopiedTo : {D : Type 0} {g : _} → Held (FileStore D g) → Files D → Type 0
IsCopiedTo {D} {g} connection left = AreClean g left.log left.db → IsCopied connection left

-- the close of a connection gave an error other than out of memory
abbrev pub IsCloseRefused : {D : Type 0} {g : _} → Held (FileStore D g) → Type 0
IsCloseRefused {D} {g} connection =
    (last : FileStore D g) × (error : Error) × (fault_of_error error ≡ Refused) × files.IsClosed connection last
    × (IsClean (view last) → FailsToClose connection last error)

-- nothing is left of a file that was never opened; an opened one leaves its two files, with the last commit in the database file
abbrev pub IsClosed : {D S : Type 0} {g : disk.Ghosts D} → Storage D S g → Closed D → Type 0
IsClosed (Unopened name) left = left ≡ closed.Unopened
IsClosed Failed left = left ≡ closed.Unopened
IsClosed (Opened connection) closed.Unopened = ⊥
IsClosed (Opened connection) (closed.Files left) = IsCopiedTo connection left

-- a file that was never opened is closed without an error; the close of an opened one is refused only for an error of its connection's close
abbrev pub IsCloseFault : {D S : Type 0} {g : disk.Ghosts D} → Storage D S g → FileFault → Type 0
IsCloseFault (Unopened name) fault = ⊥
IsCloseFault Failed fault = ⊥
IsCloseFault (Opened connection) fault = OnRefusal (IsCloseRefused connection) fault
