use Rattle.std.proofs.Common.{◌∙◌, sym}
use Rattle.field_core.specs.Polynomial.{lowest}
use Rattle.eps_poly.proofs.Signs.{turned_below, turned_above, not_below}
use Rattle.eps_poly.proofs.poly.EpsPoly.turned.Goals as goal

pub returns-then-is_below_zero : goal.returns-then-is_below_zero
returns-then-is_below_zero c =
    let p = c.args.self.now in
    let below = c.is_below_zero.ensures.0 c.if-is_below_zero.true in
    c.negate.ensures ∙ sym (turned_below (lowest p) p (rw c.lowest.ensures at below))

pub returns-else-is_below_zero : goal.returns-else-is_below_zero
returns-else-is_below_zero c =
    let p = c.args.self.now in
    let above = not_below c.is_below_zero.result c.lowest.result c.is_below_zero.ensures c.if-is_below_zero.false in
    sym (turned_above (lowest p) p (rw c.lowest.ensures at above))
