-- Looks of a file, from its opening to its close.
use Rattle.std.proofs.Common.{arith, length, refl, ◌≡◌, inl, inr, List, [], ◌∷◌, ◌++◌, Ok, Err, Result, IfOk, sym, ap, subst, ◌∙◌}
use Rattle.std.proofs.Math.Logic.{∥∥₁_elim}
use Rattle.std.specs.List.{AllZip}
use Rattle.graph_io.specs.declared.keeper.Look.{Look}
use Rattle.kept_rows.specs.Table.{Kept, kept, all_shown, make_sql, no_schema, looks_schema, HasRows}
use Rattle.kept_rows.proofs.Meaning.{makes, again, puts, shows, rows_stay}
use Rattle.sqlite.specs.Closing.{IsCopied}
use Rattle.sqlite.specs.Effect.{Database}
use Rattle.sqlite.specs.Files as files
use Rattle.sqlite.specs.Files.{file_state, over_files}
use Rattle.sqlite.specs.Held.{Held, state}
use Rattle.sqlite.specs.Recovery.{Image}
use Rattle.sqlite.specs.Start.{FindsIn}
use Rattle.sqlite.specs.State.{State, HasCleanDisk}
use Rattle.sqlite.specs.Store.{Ghosts}
use Rattle.sqlite.specs.Tree.{Trees}
use Rattle.sqlite.specs.declared.Files.{Files}
use Rattle.sqlite.specs.declared.FileStore.{FileStore}
use Rattle.sqlite_catalog.proofs.ReadLemmas.{lists_once}
use Rattle.sqlite_catalog.specs.Listing.{Lists}
use Rattle.sqlite_disk.specs.declared.Disk as disk
use Rattle.sqlite_trees.specs.Objects.{catalog_tree}
use Rattle.sqlite_trees.specs.Props.{Trees-set}
use Rattle.sqlite_trees.specs.Sound.{is_sound_list}
use Rattle.study_sqlite.specs.declared.closed.Closed.{Closed}
use Rattle.study_sqlite.specs.declared.closed.Closed.TheVariants as closed
use Rattle.study_sqlite.specs.declared.fault.FileFault.{FileFault}
use Rattle.study_sqlite.specs.declared.row.LookRow.{LookRow}
use Rattle.study_sqlite.specs.declared.storage.Storage.{Storage}
use Rattle.study_sqlite.specs.declared.storage.Storage.TheVariants.{Unopened, Opened, Failed}
use Rattle.study_sqlite.specs.Kept.{AreKept, IsPut}
use Rattle.study_sqlite.specs.Looks.{IsOf, HasLooks, TreesHold, FileHolds, HoldsLooks, IsHonest, FilesHold, LeavesLooks}
use Rattle.study_sqlite.specs.Rows.{AreRows}
use Rattle.study_sqlite.specs.Statements.{IsShownAs, Ran}
use Rattle.study_sqlite.specs.Storing.{IsOpenedFrom, AreLoaded, IsAppended, IsClosed}
use Rattle.study_sqlite.proofs.RowFacts.{one_reading}

no_objects : Lists [] no_schema
unfolding is_sound_list
no_objects = record { listed = record { tables = tt; indexes = tt; views = tt; owned = tt; named = tt; loads = refl }; guarded = tt }

-- an empty file was opened as an empty database
finds_none : (first : Image) (s : State) → first.db ≡ [] → FindsIn first s → s.committed.trees catalog_tree ≡ []
finds_none first s empty found = elim found.reads [
  | inl some ↦ absurd (let len : length first.db ≡ 0 = ap length empty in omega (arith, some.3.found.present))
  | inr none ↦ none.1.1
]

-- a connection that was opened just now has the looks of the files
opens_with : {D : Type 0} {g : disk.Ghosts D} (first : Image) (c : Held (FileStore D g)) (looks : List Look) → files.IsOpened c → FindsIn first (file_state c) → FileHolds first looks → HasLooks (file_state c) looks
opens_with first c looks opened found (inl held) =
    let s = file_state c in
    let committed : s.committed.trees ≡ held.0 = ∥∥₁_elim held.1 (Trees-set _ _) (found.holds held.0) in
    let trees : s.now.trees ≡ held.0 = ap (λ (d : Database). d.trees) opened.0.clean ∙ committed in
    let sound = (opened.1 opened.0.is_open).0 in
    let lists : Lists (held.0 catalog_tree) s.now.schema = subst (λ (t : Trees). Lists (t catalog_tree) s.now.schema) trees sound.lists in
    elim held.2 [
      | inl none ↦ inl (record { schema = lists_once _ _ _ lists none.0; autocommit = opened.0.autocommit; settled = sym opened.0.clean; sound = sound }, none.1)
      | inr some ↦ inr (
        some.0,
        record {
          schema = lists_once _ _ _ lists some.1;
          rows_are = ap (λ (t : Trees). t 0) trees ∙ some.2;
          autocommit = opened.0.autocommit;
          settled = sym opened.0.clean;
          sound = sound;
        },
        some.3,
      )
    ]
opens_with first c looks opened found (inr none) =
    let s = file_state c in
    let empty : s.now.trees catalog_tree ≡ [] = ap (λ (d : Database). d.trees catalog_tree) opened.0.clean ∙ finds_none first s none.0 found in
    let sound = (opened.1 opened.0.is_open).0 in
    inl (
      record {
        schema = lists_once [] _ _ (subst (λ objects. Lists objects s.now.schema) empty sound.lists) no_objects;
        autocommit = opened.0.autocommit;
        settled = sym opened.0.clean;
        sound = sound;
      },
      none.1,
    )

-- once the table is made, it has the rows of the looks
with_table : (old new : State) (looks : List Look) → Ran old new make_sql [] → HasLooks old looks → (rows : List Kept) × HasRows new rows × AllZip IsOf rows looks
with_table old new looks ran (inl none) = ([], makes old new ran.0 none.0 ran.1, subst (λ l. AllZip IsOf [] l) (sym none.1) tt)
with_table old new looks ran (inr some) = (some.0, again old new some.0 ran.0 some.1 ran.1, some.2)

read_as : (rows : List Kept) (read : List LookRow) (looks : List Look) → AllZip IsShownAs (all_shown rows) read → AllZip IsOf rows looks → AreRows read looks
read_as [] [] [] h k = tt
read_as [] [] (l ∷ ls) h k = absurd k
read_as [] (r ∷ rs) looks h k = absurd h
read_as (x ∷ xs) [] looks h k = absurd h
read_as (x ∷ xs) (r ∷ rs) [] h k = absurd k
read_as (x ∷ xs) (r ∷ rs) (l ∷ ls) h k =
    let hypothesis : x.hypothesis ≡ r.hypothesis = (let e = h.0.hypothesis in cc) in
    let stage : x.stage ≡ r.stage = (let e = h.0.stage in cc) in
    let p : x.p ≡ r.p = (let e = h.0.p in cc) in (
      record {
        hypothesis_is = sym hypothesis ∙ k.0.hypothesis_is;
        hypothesis_size = k.0.hypothesis_size;
        stage_is = sym stage ∙ k.0.stage_is;
        stage_size = k.0.stage_size;
        p_is = sym p ∙ k.0.p_is;
      },
      read_as xs rs ls h.1 k.1,
    )

one_more : (rows : List Kept) (looks : List Look) (row : Kept) (look : Look) → AllZip IsOf rows looks → IsOf row look → AllZip IsOf (rows ++ row ∷ []) (looks ++ look ∷ [])
one_more [] [] row look h k = (k, tt)
one_more [] (l ∷ ls) row look h k = absurd h
one_more (r ∷ rs) [] row look h k = absurd h
one_more (r ∷ rs) (l ∷ ls) row look h k = (h.0, one_more rs ls row look h.1 k)

-- the looks that are loaded are all that the database has, and it has them still
loads_all : {S : Type 0} (g : Ghosts S) (before after : Held S) (found looks : List Look) → AreKept g before after found → HasLooks (state g before) looks
    → (found ≡ looks) × HasLooks (state g after) looks
loads_all g before after found looks loaded has =
    let table = with_table (state g before) (state g loaded.middle) looks loaded.made has in
    let all : loaded.shown.0 ≡ all_shown table.0 = shows (state g loaded.middle) (state g after) table.0 loaded.shown.0 table.1 loaded.shown.1 in
    let rows = read_as table.0 loaded.rows looks (subst (λ a. AllZip IsShownAs a loaded.rows) all loaded.shown.2) table.2 in
    (one_reading loaded.rows found looks loaded.read rows, inr (table.0, rows_stay (state g loaded.middle) (state g after) table.0 loaded.shown.0 table.1 loaded.shown.1, table.2))

-- a look that is put there follows those that the database has
puts_one : {S : Type 0} (g : Ghosts S) (before after : Held S) (looks : List Look) (look : Look) → IsPut g before after look → HasLooks (state g before) looks
    → HasLooks (state g after) (looks ++ look ∷ [])
puts_one g before after looks look put has =
    let table = with_table (state g before) (state g put.middle) looks put.made has in
    let row = kept put.row.hypothesis put.row.stage put.row.p in
    inr (table.0 ++ row ∷ [], puts (state g put.middle) (state g after) table.0 row put.ran.0 table.1 put.ran.1, one_more table.0 looks row look table.2 put.row_is)

module _ {D S : Type 0} {g : disk.Ghosts D} (first : Image) where
  ready : (old : Storage D S g) (before : Held (FileStore D g)) (looks : List Look) → IsOpenedFrom first old (Opened before) → HasCleanDisk (file_state before)
      → HoldsLooks first old looks → HasLooks (file_state before) looks
  ready (Unopened name) before looks opened clean h = opens_with first before looks (opened.0 clean) (opened.1 clean) h
  ready (Opened c) before looks opened clean h = subst (λ s. HoldsLooks first s looks) (sym opened) h
  ready Failed before looks opened clean h = absurd h

  pub loaded_all : (old new : Storage D S g) (found looks : List Look) → AreLoaded first old new found → IsHonest new → HoldsLooks first old looks
      → (found ≡ looks) × HoldsLooks first new looks
  loaded_all old new found looks h honest held =
      let clean : HasCleanDisk (file_state h.1) = subst IsHonest h.3 honest in
      let it = loads_all over_files h.0 h.1 found looks (h.5 clean) (ready old h.0 looks h.2 (h.4 clean) held) in
      (it.0, subst (λ s. HoldsLooks first s looks) (sym h.3) it.1)

  pub appended_one : (old new : Storage D S g) (looks : List Look) (look : Look) → IsAppended first old new look → IsHonest new → HoldsLooks first old looks
      → HoldsLooks first new (looks ++ look ∷ [])
  appended_one old new looks look h honest held =
      let clean : HasCleanDisk (file_state h.1) = subst IsHonest h.3 honest in
      subst (λ s. HoldsLooks first s (looks ++ look ∷ [])) (sym h.3) (puts_one over_files h.0 h.1 looks look (h.5 clean) (ready old h.0 looks h.2 (h.4 clean) held))

trees_of : (s : State) (looks : List Look) → HasLooks s looks → TreesHold s.committed.trees looks
trees_of s looks (inl none) =
    inl (subst (λ (d : Database). Lists (d.trees catalog_tree) no_schema) (sym none.0.settled) (subst (λ t. Lists (s.now.trees catalog_tree) t) none.0.schema none.0.sound.lists), none.1)
trees_of s looks (inr some) = inr (
  some.0,
  subst (λ (d : Database). Lists (d.trees catalog_tree) looks_schema) (sym some.1.settled) (subst (λ t. Lists (s.now.trees catalog_tree) t) some.1.schema some.1.sound.lists),
  ap (λ (d : Database). d.trees 0) some.1.settled ∙ some.1.rows_are,
  some.2,
)

-- what a close leaves holds the looks that the connection had
pub closes_with : {D : Type 0} {g : disk.Ghosts D} (c : Held (FileStore D g)) (left : Files D) (looks : List Look) → IsCopied c left → HasLooks (file_state c) looks → FilesHold g left looks
closes_with c left looks copied has =
    let trees = (file_state c).committed.trees in
    let hold = trees_of (file_state c) looks has in
    record {
      seen = inl (trees, copied.seen.both, hold);
      left = λ image may. let alone = copied.left image may in (inl (trees, alone.both, hold), inl (trees, alone.alone, hold));
    }

pub closed_leaves : {D S : Type 0} {g : disk.Ghosts D} (storage : Storage D S g) (r : Result (Closed D) FileFault) → IfOk r (IsClosed storage) → IfOk r (LeavesLooks storage)
closed_leaves (Unopened name) (Ok left) h = tt
closed_leaves Failed (Ok left) h = tt
closed_leaves (Opened c) (Ok closed.Unopened) h = tt
closed_leaves (Opened c) (Ok (closed.Files left)) h = λ clean looks has. closes_with c left looks (h clean) has
closed_leaves storage (Err f) h = tt
