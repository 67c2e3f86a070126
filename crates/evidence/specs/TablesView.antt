-- Tables of the code as contracts see them.
use Rattle.std.specs.Prelude.{map}
use Rattle.field_core.specs.Kind.{Parts}
use Rattle.evidence.specs.FlowTables.{Tables}
use Rattle.evidence.specs.declared.tables.Tables.{Tables as KeptTables}

-- the tables, with their numbers as they are stored
abbrev pub tables_of : {F : Type 0} → (F → Parts) → KeptTables F → Tables
tables_of parts t = record { flows = map parts t.flows; visits = map (map parts) t.visits; exits = map (map parts) t.exits }
