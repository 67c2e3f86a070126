-- What the three texts mean.
use Rattle.std.proofs.Common.{◌≡◌, pos, negsuc, List, [], ◌∷◌, codes, None, Ok, false, refl}
use Rattle.sqlite.specs.declared.types.Value.TheVariants.{Null, Int}
use Rattle.sqlite.specs.Term.{Term, lit, col}
use Rattle.sqlite.specs.Query.{Query, inner, end}
use Rattle.sqlite.specs.Collation.TheVariants.{Binary}
use Rattle.sqlite.specs.Source.TheVariants.{Values}
use Rattle.sqlite.specs.Command.TheVariants.{Insert, Select, CreateTable, Nothing}
use Rattle.sqlite.specs.Compile.{table_defined_by}
use Rattle.sqlite_tied.specs.Compute.{everything}
use Rattle.sqlite_value.specs.Keys.{ascending}
use Rattle.sqlite.specs.Listing.{understood, reads_listing}
use Rattle.sqlite.proofs.Callers.{IsPlain, command_of, statement_of}
use Rattle.kept_rows.specs.Table.{make_sql, put_sql, rows_sql, looks, no_schema, looks_schema}

abbrev pub terms : List Term
terms = lit Null ∷ lit Null ∷ col 0 0 ∷ col 0 1 ∷ col 0 2 ∷ []

abbrev pub query : Query
query = record {
  from = inner 0 end;
  filter = [];
  group = None;
  project = col 1 2 ∷ col 1 3 ∷ col 1 4 ∷ [];
  distinct = false;
  collations = [];
  order = (col 1 0, ascending Binary) ∷ [];
  limit = lit (Int (negsuc 0));
  offset = lit (Int (pos 0));
}

pub make_is : (command_of (understood no_schema make_sql) ≡ CreateTable) × (statement_of make_sql (understood no_schema make_sql) ≡ make_sql) × (table_defined_by make_sql ≡ Ok looks)
unfolding understood everything
make_is = (refl, refl, refl)

pub make_again : command_of (understood looks_schema make_sql) ≡ Nothing
unfolding understood everything
make_again = refl

pub put_is : command_of (understood looks_schema put_sql) ≡ Insert 0 (Values terms 5)
unfolding understood everything
put_is = refl

pub rows_is : (command_of (understood looks_schema rows_sql) ≡ Select (record { lets = []; body = query }) (codes "hypothesis" ∷ codes "stage" ∷ codes "p" ∷ [])) × (reads_listing looks_schema rows_sql ≡ false)
unfolding understood everything
rows_is = (refl, refl)

pub make_plain : IsPlain (understood no_schema make_sql)
unfolding understood everything
make_plain = (refl, refl)

pub again_plain : IsPlain (understood looks_schema make_sql)
unfolding understood everything
again_plain = (refl, refl)

pub put_plain : IsPlain (understood looks_schema put_sql)
unfolding understood everything
put_plain = (refl, refl)

pub rows_plain : IsPlain (understood looks_schema rows_sql)
unfolding understood everything
rows_plain = (refl, refl)
