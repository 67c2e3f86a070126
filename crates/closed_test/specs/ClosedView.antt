-- Tables of the tests as contracts see them.
use Rattle.case_model.specs.declared.set_table.SetTable.{SetTable}
use Rattle.closed_test.specs.declared.weights.WeightTable.{WeightTable}
use Rattle.closed_test.specs.declared.table.ClosedTable.{ClosedTable}

-- the weights on which the tests rest
abbrev pub weights_of : ClosedTable → WeightTable
weights_of t = t.weights

-- which sets the local test rejects
abbrev pub local_of : ClosedTable → SetTable
local_of t = t.local

-- which sets the closed test rejects
abbrev pub closed_of : ClosedTable → SetTable
closed_of t = t.closed
