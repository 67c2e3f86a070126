-- Errors of statements and bad rows, as faults of a file of looks.
use Rattle.std.specs.Prelude.{⊤}
use Rattle.sqlite.specs.declared.error.Error.{Error}
use Rattle.sqlite.specs.declared.error.Error.TheVariants.{SqliteFailure}
use Rattle.sqlite.specs.declared.error.ErrorCode.TheVariants.{OutOfMemory}
use Rattle.study_sqlite.specs.declared.fault.FileFault.{FileFault}
use Rattle.study_sqlite.specs.declared.fault.FileFault.TheVariants as files
use Rattle.study_sqlite.specs.declared.fault.RowsFault.{RowsFault}
use Rattle.study_sqlite.specs.declared.fault.RowsFault.TheVariants as rows

-- out of memory is reported apart from all other errors
abbrev pub fault_of_error : Error → FileFault
fault_of_error (SqliteFailure OutOfMemory) = files.NoMemory
fault_of_error error = files.Refused

-- a bad row refuses the file; out of memory is reported apart
abbrev pub fault_of_rows : RowsFault → FileFault
fault_of_rows (rows.Bad place) = files.Refused
fault_of_rows rows.NoMemory = files.NoMemory

-- the fact `P`, if a file was refused; out of memory may occur at any time
abbrev pub OnRefusal : Type 0 → FileFault → Type 0
OnRefusal P files.Refused = P
OnRefusal P files.NoMemory = ⊤

-- the fact `P`, when out of memory
abbrev pub OnMemory : Type 0 → FileFault → Type 0
OnMemory P files.Refused = ⊤
OnMemory P files.NoMemory = P
