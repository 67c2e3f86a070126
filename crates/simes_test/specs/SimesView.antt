-- Tables of Simes' test as contracts see them.
use Rattle.std.specs.Prelude.{ℕ}
use Rattle.case_model.specs.declared.set_table.SetTable.{SetTable}
use Rattle.case_model.specs.SetTableView.{table_size}
use Rattle.simes_test.specs.declared.table.SimesTable.{SimesTable}

-- which sets Simes' test rejects
abbrev pub local_of : SimesTable → SetTable
local_of t = t.local

-- which sets the closed test of Simes' test rejects
abbrev pub closed_of : SimesTable → SetTable
closed_of t = t.closed

-- the number of hypotheses that a table is for
abbrev pub simes_size : SimesTable → ℕ
simes_size t = table_size t.closed
