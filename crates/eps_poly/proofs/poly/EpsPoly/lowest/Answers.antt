use Rattle.std.proofs.Common.{◌∙◌, sym, ap}
use Rattle.field_core.specs.Polynomial.{coefficient}
use Rattle.eps_poly.proofs.OrderLaws.{coefficient-order, lowest_is_zero}
use Rattle.eps_poly.proofs.poly.EpsPoly.lowest.Goals as goal

pub returns-then-order-eq-COUNT : goal.returns-then-order-eq-COUNT
returns-then-order-eq-COUNT c = c.new.ensures ∙ sym
    (lowest_is_zero c.args.self.now (sym c.order-order.ensures.value ∙ c.if-order-eq-COUNT.true ∙ sym c.order-order.ensures.polynomial.count))

pub returns-else-order-eq-COUNT : goal.returns-else-order-eq-COUNT
returns-else-order-eq-COUNT c =
    let p = c.args.self.now in
    c.whole.ensures ∙ ap (coefficient p) c.order-order.ensures.value ∙ coefficient-order p
