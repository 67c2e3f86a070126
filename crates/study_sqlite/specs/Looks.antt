-- The looks that a file holds.
use Rattle.std.specs.Prelude.{◌≡◌, ◌⊎◌, ◌++◌, List, [], ◌∷◌, ⊤}
use Rattle.std.specs.List.{AllZip}
use Rattle.graph_io.specs.declared.keeper.Look.{Look}
use Rattle.kept_rows.specs.Table.{Kept, stored, no_schema, looks_schema, HasRows, IsBare}
use Rattle.sqlite.specs.declared.Files.{Files}
use Rattle.sqlite.specs.Files.{HoldsDatabase, file_state, image_of}
use Rattle.sqlite.specs.Recovery.{Image}
use Rattle.sqlite.specs.State.{State, HasCleanDisk}
use Rattle.sqlite.specs.Tree.{Trees}
use Rattle.sqlite.specs.WalFiles.{outcomes}
use Rattle.sqlite.specs.WalReads.{AreClean}
use Rattle.sqlite_catalog.specs.Listing.{Lists}
use Rattle.sqlite_disk.specs.declared.Disk as disk
use Rattle.sqlite_trees.specs.Objects.{catalog_tree}
use Rattle.study_sqlite.specs.declared.closed.Closed.{Closed}
use Rattle.study_sqlite.specs.declared.closed.Closed.TheVariants as closed
use Rattle.study_sqlite.specs.declared.storage.Storage.{Storage}
use Rattle.study_sqlite.specs.declared.storage.Storage.TheVariants.{Unopened, Opened, Failed}
use Rattle.study_sqlite.specs.Rows.{IsRow}

-- what is kept is that of the look
abbrev pub IsOf : Kept → Look → Type 0
IsOf row look = IsRow row.hypothesis row.stage row.p look

-- A database has these looks: its one table is that of looks, whose rows are theirs, at the places 1, 2, ..; or it is empty, and there are none.
abbrev pub HasLooks : State → List Look → Type 0
HasLooks s looks = (IsBare s × (looks ≡ [])) ⊎ ((rows : List Kept) × HasRows s rows × AllZip IsOf rows looks)

-- the same of the trees of a database
abbrev pub TreesHold : Trees → List Look → Type 0
TreesHold db looks =
    (Lists (db catalog_tree) no_schema × (looks ≡ []))
    ⊎ ((rows : List Kept) × Lists (db catalog_tree) looks_schema × (db 0 ≡ stored 1 rows) × AllZip IsOf rows looks)

-- the log and the database file hold a database that has these looks, or the database file is empty, and there are none
abbrev pub FileHolds : Image → List Look → Type 0
FileHolds image looks = ((db : Trees) × ∥ HoldsDatabase image db ∥₁ × TreesHold db looks) ⊎ ((image.db ≡ []) × (looks ≡ []))

-- a keeper's looks: those of the connection or, before the file is opened, those that it held
abbrev pub HoldsLooks : {D S : Type 0} {g : disk.Ghosts D} → Image → Storage D S g → List Look → Type 0
HoldsLooks first (Unopened name) looks = FileHolds first looks
HoldsLooks first (Opened connection) looks = HasLooks (file_state connection) looks
HoldsLooks first Failed looks = ⊥

-- the disk returned what was written
abbrev pub IsHonest : {D S : Type 0} {g : disk.Ghosts D} → Storage D S g → Type 0
IsHonest (Unopened name) = ⊤
IsHonest (Opened connection) = HasCleanDisk (file_state connection)
IsHonest Failed = ⊤

-- The two files hold these looks, as they read now and after a crash, and the database file does without its log.
pub record FilesHold {D : Type 0} (g : disk.Ghosts D) (files : Files D) (looks : List Look) : Type 0 where
  pub seen : FileHolds (image_of g files) looks
  pub left : (image : Image) → outcomes g files.log files.db image → FileHolds image looks × FileHolds (record image { log = [] }) looks

module _ {D S : Type 0} {g : disk.Ghosts D} (first : Image) (old new : Storage D S g) where
  -- all looks that the file holds were appended to others, and the file holds them still
  abbrev pub LoadsAll : List Look → List Look → Type 0
  LoadsAll others all = IsHonest new → (looks : List Look) → HoldsLooks first old looks → (all ≡ others ++ looks) × HoldsLooks first new looks

  -- the file holds one look more, after the others
  abbrev pub PutsOne : Look → Type 0
  PutsOne look = IsHonest new → (looks : List Look) → HoldsLooks first old looks → HoldsLooks first new (looks ++ look ∷ [])

-- the files that a close left hold the looks that the keeper held, as long as the disk returned what was written
abbrev pub LeavesLooks : {D S : Type 0} {g : disk.Ghosts D} → Storage D S g → Closed D → Type 0
LeavesLooks {g = g} (Opened connection) (closed.Files files) =
    AreClean g files.log files.db → (looks : List Look) → HasLooks (file_state connection) looks → FilesHold g files looks
LeavesLooks _ _ = ⊤
