use Rattle.std.proofs.Common.{◌∙◌, sym, ap, Some}
use Rattle.eps_poly.proofs.OrderLaws.{low_order_none, low_order_some}
use Rattle.eps_poly.proofs.poly.EpsPoly.low_order.Goals as goal

pub returns-then-order-eq-COUNT-clause-value : goal.returns-then-order-eq-COUNT-clause-value
returns-then-order-eq-COUNT-clause-value c =
    sym (low_order_none c.args.self.now (sym c.order-order.ensures.value ∙ c.if-order-eq-COUNT.true ∙ sym c.order-order.ensures.polynomial.count))

pub returns-else-order-eq-COUNT-clause-value : goal.returns-else-order-eq-COUNT-clause-value
returns-else-order-eq-COUNT-clause-value c =
    ap Some c.order-order.ensures.value
    ∙ sym (low_order_some c.args.self.now (λ e. c.if-order-eq-COUNT.false (c.order-order.ensures.value ∙ e ∙ c.order-order.ensures.polynomial.count)))
