-- Names of files that aren't open yet.
use Rattle.std.specs.Prelude.{ℕ, List, string_bytes}
use Rattle.study_sqlite.specs.declared.table.FileName.{FileName}

-- the path of a name
abbrev pub path_of : {S : Type 0} → FileName S → List ℕ
path_of name = string_bytes name.path
