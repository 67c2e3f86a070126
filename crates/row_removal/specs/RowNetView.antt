-- The present rows of a net, and the prepared ones.
use Rattle.std.specs.Prelude.{if◌then◌else◌, Option, Some, None}
use Rattle.removal.specs.ByValue.{IsSound}
use Rattle.eps_quotient.specs.Quotients.{quotients}
use Rattle.row_removal.specs.StoredRows.{StoredRows, rows_graph}
use Rattle.row_removal.specs.Proper.{AreProperRows}
use Rattle.row_removal.specs.declared.net.RowNet.{RowNet}

-- the present rows of a net
unfoldable pub present_rows : RowNet → StoredRows
present_rows n = n.present

-- the rows that are prepared to become the present ones, if there are some
unfoldable pub prepared_rows : RowNet → Option StoredRows
prepared_rows n = if n.is_prepared then Some n.next else None

-- (the graph of a net is sound)
pub row_net_sound : (n : RowNet) → IsSound quotients (rows_graph (present_rows n))
unfolding present_rows
row_net_sound n = n.sound

-- (the present rows of a net are proper)
pub row_net_proper : (n : RowNet) → AreProperRows (present_rows n)
unfolding present_rows
row_net_proper n = n.proper
