-- The table of looks, as its rows are in a database.
use Rattle.std.specs.Prelude.{◌≡◌, true, false, [], ◌∷◌, Some, codes, List, ℕ, suc, ℤ, pos}
use Rattle.sqlite.specs.Collation.TheVariants.{Binary}
use Rattle.sqlite.specs.declared.types.Value.TheVariants.{Null, Int, Text as Words}
use Rattle.sqlite.specs.Order.{Row}
use Rattle.sqlite.specs.Table.{Table}
use Rattle.sqlite.specs.Schema.{Schema}
use Rattle.sqlite.specs.Kind.TheVariants.{Integer, Text}
use Rattle.sqlite.specs.Change.{created}
use Rattle.sqlite.specs.Effect.{IsDatabase}
use Rattle.sqlite.specs.State.{State}
use Rattle.sqlite_value.specs.Keys.{plain}

-- the table is made if it isn't there
abbrev pub make_sql : List ℕ
make_sql = codes "CREATE TABLE IF NOT EXISTS looks (place INTEGER PRIMARY KEY, hypothesis INTEGER NOT NULL, stage INTEGER NOT NULL, p TEXT NOT NULL, UNIQUE (hypothesis, stage))"

-- a row is put after the others
abbrev pub put_sql : List ℕ
put_sql = codes "INSERT INTO looks (hypothesis, stage, p) VALUES (?1, ?2, ?3)"

-- all rows are shown, in the order in which they were put there
abbrev pub rows_sql : List ℕ
rows_sql = codes "SELECT hypothesis, stage, p FROM looks ORDER BY place"

abbrev pub looks : Table
looks = record {
  name = codes "looks";
  tree = 0;
  columns = (record { name = codes "place"; kind = Integer; is_strict = false; not_null = false; default = Null; collation = Binary })
      ∷ (record { name = codes "hypothesis"; kind = Integer; is_strict = false; not_null = true; default = Null; collation = Binary })
      ∷ (record { name = codes "stage"; kind = Integer; is_strict = false; not_null = true; default = Null; collation = Binary })
      ∷ (record { name = codes "p"; kind = Text; is_strict = false; not_null = true; default = Null; collation = Binary }) ∷ [];
  key = Some 0;
  primary = 0 ∷ [];
  uniques = (2 ∷ 3 ∷ []) ∷ [];
  orders = plain ∷ [];
  checks = [];
  references = [];
  computed = [];
  stamps = record { places = []; terms = []; formats = [] };
  is_counted = false;
}

abbrev pub no_schema : Schema
no_schema = record { tables = []; indexes = []; views = [] }

-- the table, with the index of its UNIQUE
abbrev pub looks_schema : Schema
looks_schema = created no_schema looks

-- what is kept of a look: its hypothesis, its stage and its p-value
pub record Kept : Type 0 where
  pub hypothesis : ℤ
  pub stage : ℤ
  pub p : List ℕ

abbrev pub shown : Kept → Row
shown row = Int row.hypothesis ∷ Int row.stage ∷ Words row.p ∷ []

abbrev pub all_shown : List Kept → List Row
all_shown [] = []
all_shown (row ∷ rows) = shown row ∷ all_shown rows

-- as the rows are stored, at this place and those after it
abbrev pub stored : ℕ → List Kept → List Row
stored place [] = []
stored place (row ∷ rows) = (Int (pos place) ∷ Null ∷ shown row) ∷ stored (suc place) rows

-- The table is the only object, it has these rows, and no transaction is open.
pub record HasRows (s : State) (rows : List Kept) : Type 0 where
  pub schema : s.now.schema ≡ looks_schema
  pub rows_are : s.now.trees 0 ≡ stored 1 rows
  pub autocommit : s.in_transaction ≡ false
  pub settled : s.committed ≡ s.now
  pub sound : IsDatabase s.now

-- The database has no object, and no transaction is open.
pub record IsBare (s : State) : Type 0 where
  pub schema : s.now.schema ≡ no_schema
  pub autocommit : s.in_transaction ≡ false
  pub settled : s.committed ≡ s.now
  pub sound : IsDatabase s.now

abbrev pub kept : ℤ → ℤ → List ℕ → Kept
kept hypothesis stage p = record { hypothesis = hypothesis; stage = stage; p = p }
