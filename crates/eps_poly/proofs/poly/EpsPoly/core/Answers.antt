use Rattle.std.proofs.Common.{◌∙◌, ap, refl, arith}
use Rattle.std.proofs.lemmas.Int.{ints}
use Rattle.eps_poly.specs.Factors.{core, lowered}
use Rattle.eps_poly.proofs.OrderLaws.{order_below}
use Rattle.eps_poly.proofs.ContentLaws.{content_some}
use Rattle.eps_poly.proofs.poly.EpsPoly.core.Goals as goal

pub lowered-requires-clause-power : goal.lowered-requires-clause-power
lowered-requires-clause-power c =
    let below = order_below c.args.self.now c.requires in
    omega (arith, below, c.order.ensures.value, c.order.ensures.polynomial.count)

pub lowered-requires-clause-by : goal.lowered-requires-clause-by
lowered-requires-clause-by c =
    let some = content_some c.args.self.now c.requires in
    rw c.whole_content.ensures (omega (arith, ints, some))

pub returns : goal.returns
unfolding core
returns c =
    let p = c.args.self.now in
    c.lowered.ensures ∙ ap (λ n. lowered n c.whole_content.result c.turned-turned.result) c.order.ensures.value
    ∙ rw (c.whole_content.ensures, c.turned-turned.ensures) refl
