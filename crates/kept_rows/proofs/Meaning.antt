-- What the three statements do.
use Rattle.std.proofs.Common.{◌≡◌, ◌⊎◌, ◌+◌, inl, inr, ℕ, ℤ, List, [], ◌∷◌, ◌++◌, map, length, Bool, true, false, cond, if◌then◌else◌, None}
use Rattle.std.proofs.Common.{Ok, Err, Result, IfOk, OnOk, refl, sym, ap, subst, ◌∙◌}
use Rattle.std.specs.List.Sorted.{IsPermutation}
use Rattle.sqlite.specs.declared.types.Value.{Value}
use Rattle.sqlite.specs.declared.types.Value.TheVariants.{Null, Int}
use Rattle.sqlite.specs.Order.{Row}
use Rattle.sqlite.specs.declared.error.Error.{Error}
use Rattle.sqlite.specs.Ops.{unary}
use Rattle.sqlite.specs.Query.{IsAnswer, output, output_cmp, page, Output}
use Rattle.sqlite.specs.Program.{overlay}
use Rattle.sqlite.specs.Kind.TheVariants.{Integer}
use Rattle.sqlite.specs.Source.TheVariants.{Values}
use Rattle.sqlite.specs.Command.TheVariants.{Insert, CreateTable, Nothing}
use Rattle.sqlite.specs.Edit.{edit_of, edited}
use Rattle.sqlite.specs.Cast.{cast}
use Rattle.sqlite.specs.Rowids.TheVariants.{Chosen}
use Rattle.sqlite.specs.Change.{created, next_tree}
use Rattle.sqlite.specs.Does.{Tally, Does, lacks_sequence}
use Rattle.sqlite.specs.Rows.{Written}
use Rattle.sqlite.specs.Tree.{Trees}
use Rattle.sqlite.specs.Listing.{understood}
use Rattle.sqlite.specs.Clock.{timed}
use Rattle.sqlite.specs.Effect.{Database, IsDatabase}
use Rattle.sqlite.specs.State.{State, mode_of, Writes, Executes, Shown, ShowsRows, IsUnchanged}
use Rattle.sqlite.proofs.Callers.{IsPlain, statement_of, runs_as, reads_as, one_step}
use Rattle.sqlite_keyed.proofs.SortLemmas.{sorted_unique}
use Rattle.sqlite_sql.proofs.QueryLemmas.{output_cmp_total}
use Rattle.kept_rows.specs.Table.{make_sql, put_sql, rows_sql, looks, no_schema, looks_schema, Kept, shown, stored, all_shown, HasRows, IsBare}
use Rattle.kept_rows.proofs.Texts.{terms, query, make_is, make_again, put_is, rows_is, make_plain, again_plain, put_plain, rows_plain}
use Rattle.kept_rows.proofs.Places.{next_is, put_after, outs, outs_are, outs_rise, outs_show}

either : (b : Bool) (x : Value) → cond b x x ≡ x
either true x = refl
either false x = refl

cast_null : cast Integer Null ≡ Null
unfolding unary
cast_null = either _ Null

cast_int : (n : ℤ) → cast Integer (Int n) ≡ Int n
unfolding unary
cast_int n = either _ (Int n)

-- a part that gave a value did not stop on the way
went : {B E R : Type 0} {b : B} {Stops : E → Type 0} → ((stop : E) × Stops stop × (Ok b ≡ Err stop)) ⊎ R → R
went (inl stopped) = absurd (let e = stopped.2 in cc)
went (inr on) = on

same_value : {B E : Type 0} {a b : B} → ◌≡◌ {A = Result B E} (Ok a) (Ok b) → a ≡ b
same_value e = cc

unchanged_keeps : (old new : State) (rows : List Kept) → IsUnchanged old new → HasRows old rows → HasRows new rows
unchanged_keeps old new rows same has = record {
  schema = ap (λ (d : Database). d.schema) same.0.now_is ∙ has.schema;
  rows_are = ap (λ (d : Database). d.trees 0) same.0.now_is ∙ has.rows_are;
  autocommit = same.0.mode ∙ has.autocommit;
  settled = same.0.committed_is ∙ has.settled ∙ sym same.0.now_is;
  sound = subst IsDatabase (sym same.0.now_is) has.sound;
}

shown_same : (sql : List ℕ) (params : Row) (old new : State) (rows : List Row) → IsPlain (understood old.now.schema sql) → Shown sql params old new rows → IsUnchanged old new
unfolding Shown
shown_same sql params old new rows plain h =
    (subst (ShowsRows old new sql h.0 (timed params h.0.formats h.1.now) rows) (subst IsPlain h.1.is plain).0 h.2).3

pub makes : (old new : State) (count : ℕ) → IsBare old → Executes make_sql [] old new (Ok count) → HasRows new []
makes old new count bare h =
    let has = bare.schema in
    let w = subst (λ t. Writes old new None CreateTable t [] count) make_is.1 (runs_as make_sql [] old new no_schema has CreateTable make_is.0 make_plain count h) in
    let all = went w.changed in
    let first = went all.1 in
    let made = first.1 in
    let both : Ok made.table ≡ Ok looks = sym made.defined ∙ make_is.2 in
    let same : made.table ≡ looks = cc in
    let schema : first.0.schema ≡ looks_schema = made.is ∙ ap (λ s. created s made.table) has ∙ ap (created no_schema) same in
    let plain : lacks_sequence first.0.schema ≡ false = ap lacks_sequence schema in
    let now : new.now ≡ first.0 = ap (λ (p : Tally × Database). p.1) (same_value all.2) ∙ same_value (rw plain at first.2) in
    record {
      schema = ap (λ (d : Database). d.schema) now ∙ schema;
      rows_are = ap (λ (d : Database). d.trees 0) now ∙ subst (λ s. first.0.trees (next_tree s) ≡ []) has made.empty;
      autocommit = w.shown.mode ∙ bare.autocommit;
      settled = w.shown.committed_is ∙ ap (λ b. if b then old.committed else new.now) bare.autocommit;
      sound = w.sound;
    }

pub again : (old new : State) (rows : List Kept) (count : ℕ) → HasRows old rows → Executes make_sql [] old new (Ok count) → HasRows new rows
again old new rows count has h = unchanged_keeps old new rows (runs_as make_sql [] old new looks_schema has.schema Nothing make_again again_plain count h).0 has

pub puts : (old new : State) (rows : List Kept) (row : Kept) (count : ℕ) → HasRows old rows → Executes put_sql (shown row) old new (Ok count) → HasRows new (rows ++ row ∷ [])
puts old new rows row count has h =
    let params = shown row in
    let db = old.now.trees in
    let command = Insert 0 (Values terms 5) in
    let w = runs_as put_sql params old new looks_schema has.schema command put_is put_plain count h in
    let text = statement_of put_sql (understood looks_schema put_sql) in
    let done = went (subst (λ s. Does old.step_limit (mode_of old) params (record old.now { schema = s }) text None command (Ok (w.tally, new.now))) has.schema w.changed) in
    let now = ap (λ (p : Tally × Database). p.1) (same_value (went (went done.2).2).2) in
    let given = went done.1 in
    let written = went (went given.2).2 in
    let counted = went written.2 in
    let trees : done.0.trees ≡ written.0 = ap (λ (it : Written). it.trees) (same_value counted.2) ∙ same_value counted.1 in
    let after = (one_step looks_schema _ db written.0 (edit_of db looks [] Chosen 0 given.0) refl written.1).rows in
    let edit : edited db (edit_of db looks [] Chosen 0 given.0) ≡ stored 1 (rows ++ row ∷ []) =
    ap (λ all. edited db (edit_of db looks [] Chosen 0 all)) given.1.1 ∙ rw (has.rows_are, cast_null, cast_int row.hypothesis, cast_int row.stage, next_is rows) (put_after 1 (1 + length rows) rows row refl) in
    record {
      schema = ap (λ (d : Database). d.schema) now;
      rows_are = ap (λ (d : Database). d.trees 0) now ∙ ap (λ (t : Trees). t 0) trees ∙ after ∙ edit;
      autocommit = w.shown.mode ∙ has.autocommit;
      settled = w.shown.committed_is ∙ ap (λ b. if b then old.committed else new.now) has.autocommit;
      sound = w.sound;
    }

pub shows : (old new : State) (rows : List Kept) (answer : List Row) → HasRows old rows → Shown rows_sql [] old new answer → answer ≡ all_shown rows
shows old new rows answer has h =
    let read = reads_as rows_sql [] old new looks_schema has.schema _ rows_is.0 rows_plain rows_is.1 answer h in
    let a : IsAnswer query (overlay old.now.trees []) [] answer = read.answer Null in
    let staged : map (output query) a.staged ≡ outs 1 rows = ap (map (output query)) a.grouped ∙ rw has.rows_are (outs_are 1 rows) in
    let kept : a.kept ≡ outs 1 rows = a.distinct ∙ staged in
    let ordered : a.ordered ≡ outs 1 rows =
    sorted_unique (output_cmp query) (output_cmp_total query) (outs 1 rows) a.ordered (outs_rise 1 rows) (subst (λ k. IsPermutation k a.ordered) kept a.same) a.sorted in
    a.shown ∙ ap (λ xs. page query [] (map (λ (o : Output). o.1) xs)) ordered ∙ outs_show 1 rows

pub rows_stay : (old new : State) (rows : List Kept) (answer : List Row) → HasRows old rows → Shown rows_sql [] old new answer → HasRows new rows
rows_stay old new rows answer has h =
    unchanged_keeps old new rows (shown_same rows_sql [] old new answer (subst (λ s. IsPlain (understood s rows_sql)) (sym has.schema) rows_plain) h) has

-- ---- the same, by what a call answered

pub made : (old new : State) (r : Result ℕ Error) → Executes make_sql [] old new r → OnOk r (IsBare old → HasRows new [])
made old new (Ok count) h = λ bare. makes old new count bare h
made old new (Err e) h = tt

pub made_again : (old new : State) (r : Result ℕ Error) → Executes make_sql [] old new r → OnOk r ((rows : List Kept) → HasRows old rows → HasRows new rows)
made_again old new (Ok count) h = λ rows has. again old new rows count has h
made_again old new (Err e) h = tt

pub put_last : (old new : State) (row : Kept) (r : Result ℕ Error) → Executes put_sql (shown row) old new r
    → OnOk r ((rows : List Kept) → HasRows old rows → HasRows new (rows ++ row ∷ []))
put_last old new row (Ok count) h = λ rows has. puts old new rows row count has h
put_last old new row (Err e) h = tt

pub all_are_shown : {A : Type 0} (items : A → List Row) (old new : State) (r : Result A Error) → IfOk r (λ answer. Shown rows_sql [] old new (items answer))
    → IfOk r (λ answer. (rows : List Kept) → HasRows old rows → items answer ≡ all_shown rows)
all_are_shown items old new (Ok answer) h = λ rows has. shows old new rows (items answer) has h
all_are_shown items old new (Err e) h = tt

pub all_stay : {A : Type 0} (items : A → List Row) (old new : State) (r : Result A Error) → IfOk r (λ answer. Shown rows_sql [] old new (items answer))
    → OnOk r ((rows : List Kept) → HasRows old rows → HasRows new rows)
all_stay items old new (Ok answer) h = λ rows has. rows_stay old new rows (items answer) has h
all_stay items old new (Err e) h = tt
