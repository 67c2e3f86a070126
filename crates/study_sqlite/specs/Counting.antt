-- The faults that a keeper in a file counts.
use Rattle.std.specs.Prelude.{◌≡◌, ℕ, ⊤}
use Rattle.graph_io.specs.Causes.{count_up}
use Rattle.graph_io.specs.declared.keeper.KeeperFault.{KeeperFault}
use Rattle.graph_io.specs.declared.keeper.KeeperFault.TheVariants.{Fault, NoMemory}
use Rattle.study_sqlite.specs.declared.fault.FileFault.{FileFault}
use Rattle.study_sqlite.specs.declared.fault.FileFault.TheVariants as files
use Rattle.study_sqlite.specs.declared.fault.FileFault.TheVariants.{Refused}
use Rattle.study_sqlite.specs.declared.keeper.SqliteKeeper.{SqliteKeeper}

-- how many calls met a fault
abbrev pub fault_count : {D S : Type 0} {g : _} {start : _} → SqliteKeeper D S g start → ℕ
fault_count keeper = keeper.faults

-- how many calls were made
abbrev pub call_count : {D S : Type 0} {g : _} {start : _} → SqliteKeeper D S g start → ℕ
call_count keeper = keeper.calls.made

-- A refusal is reported as a fault, and the count is one more then; out of memory is reported as such, and the count stays.
abbrev pub IsCounted : ℕ → ℕ → FileFault → KeeperFault → Type 0
IsCounted before now Refused told = (told ≡ Fault) × (now ≡ count_up before)
IsCounted before now files.NoMemory told = (told ≡ NoMemory) × (now ≡ before)

-- the fact `P`, if a fault is reported; out of memory may occur at any time
abbrev pub OnFault : Type 0 → KeeperFault → Type 0
OnFault P Fault = P
OnFault P NoMemory = ⊤

-- the fact `P`, if out of memory is reported
abbrev pub OnNoMemory : Type 0 → KeeperFault → Type 0
OnNoMemory P Fault = ⊤
OnNoMemory P NoMemory = P
