-- The nets that a case is run in, by its numbers: what the state of one is, its graph, and how a hypothesis is removed from it. Nets of
-- quotients keep their numbers in rows over one denominator.
use Rattle.std.specs.Prelude.{ℕ, Result, Ok}
use Rattle.field_core.specs.declared.place.Wide.{Wide}
use Rattle.fraction.specs.Plain.{plain, IsFraction}
use Rattle.case_numbers.specs.Numbers.{Numbers, in_fractions, in_quotients}
use Rattle.removal.specs.StoredGraph.{StoredGraph}
use Rattle.removal.specs.ByValue.{AreStored}
use Rattle.removal.specs.WrittenRemoval.{written_removal}
use Rattle.row_removal.specs.StoredRows.{StoredRows, rows_graph}
use Rattle.row_removal.specs.Proper.{AreProperRows}
use Rattle.row_removal.specs.RowRemoval.{row_removal}
use Rattle.row_removal.specs.Gathering.{HasConstants, gathered}

-- the state of a net in these numbers
abbrev pub state_in : Numbers → Type 0
state_in in_fractions = StoredGraph
state_in in_quotients = StoredRows

-- the graph of a state
abbrev pub graph_in : (n : Numbers) → state_in n → StoredGraph
graph_in in_fractions = λ G. G
graph_in in_quotients = rows_graph

-- what holds of each state that can be reached
abbrev pub IsProperIn : (n : Numbers) → state_in n → Type 0
IsProperIn in_fractions = AreStored plain IsFraction
IsProperIn in_quotients = AreProperRows

-- the written removal of a hypothesis from a state
abbrev pub removal_in : (n : Numbers) → state_in n → ℕ → Result (state_in n) Wide
removal_in in_fractions = written_removal plain
removal_in in_quotients = row_removal

-- the state that is made of a graph in which all hypotheses remain: rows are gathered, and a graph of fractions is kept as it is
abbrev pub gathered_in : (n : Numbers) → StoredGraph → Result (state_in n) Wide
gathered_in in_fractions = λ G. Ok G
gathered_in in_quotients = gathered

-- a state can be made of the graph: rows are gathered only from quotients over constants
abbrev pub CanGather : Numbers → StoredGraph → Type 0
CanGather in_fractions G = Unit {0}
CanGather in_quotients G = HasConstants G
