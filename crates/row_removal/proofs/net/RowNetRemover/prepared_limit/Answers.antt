use Rattle.std.proofs.Common.{◌≡◌, true, rules}
use Rattle.removal.specs.StoredGraph.{is_live}
use Rattle.removal.proofs.Units.{weight_unit}
use Rattle.eps_quotient.specs.Quotients.{quotients}
use Rattle.row_removal.specs.StoredRows.{rows_graph}
use Rattle.row_removal.specs.RowNetView.{prepared_rows}
use Rattle.row_removal.proofs.net.RowNetRemover.prepared_limit.Goals as goal

pub weight_limit-requires-clause-unit : goal.weight_limit-requires-clause-unit
unfolding prepared_rows
weight_limit-requires-clause-unit c =
    let next = c.args.self.now.next in
    let set : c.args.self.now.is_prepared ≡ true = search rules in
    let live : is_live (rows_graph next) c.args.k ≡ true = search rules in
    weight_unit quotients (rows_graph next) (c.args.self.now.next_sound set) c.args.k live
