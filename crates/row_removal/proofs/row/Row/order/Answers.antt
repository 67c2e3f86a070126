use Rattle.std.proofs.Common.{◌≡◌, rules}
use Rattle.row_removal.specs.Clearing.{row_order}
use Rattle.row_removal.specs.Laws.ClearingLaws.{order_low}
use Rattle.row_removal.proofs.row.Row.order.Goals as goal

pub returns-clause-within : goal.returns-clause-within
unfolding row_order
returns-clause-within c = let value : c.fold.result ≡ row_order c.args.self.now =
    search rules in rw value (order_low c.args.self.now (rw (← c.self.view_is) c.order-own.ensures.polynomial.count) c.requires)
