-- The files at paths, as contracts see them.
use Rattle.std.specs.Prelude.{◌≡◌, ℕ, List, string_bytes}
use Rattle.welungad_main.specs.declared.file_at.FileAt.{FileAt}

-- the path at which a file was opened
abbrev pub path_of : {S : Type 0} → FileAt S → List ℕ
path_of file = string_bytes file.path

-- the source without its path
abbrev pub source_of : {S : Type 0} → FileAt S → S
source_of file = file.source
