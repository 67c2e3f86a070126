use Rattle.std.proofs.Common.{◌∙◌, sym, ap, neg_ℤ}
use Rattle.field_core.specs.Polynomial.{lowest}
use Rattle.eps_poly.specs.Factors.{content, factor}
use Rattle.eps_poly.proofs.Signs.{signed_below, signed_above, not_below}
use Rattle.eps_poly.proofs.poly.EpsPoly.factor.Goals as goal

pub returns-then-is_below_zero : goal.returns-then-is_below_zero
unfolding factor
returns-then-is_below_zero c =
    let p = c.args.self.now in
    let below = c.is_below_zero.ensures.0 c.if-is_below_zero.true in
    c.negated.ensures ∙ ap neg_ℤ c.whole_content-content.ensures ∙ sym (signed_below (lowest p) (content p) (rw c.lowest.ensures at below))

pub returns-else-is_below_zero : goal.returns-else-is_below_zero
unfolding factor
returns-else-is_below_zero c =
    let p = c.args.self.now in
    let above = not_below c.is_below_zero.result c.lowest.result c.is_below_zero.ensures c.if-is_below_zero.false in
    c.whole_content-content.ensures ∙ sym (signed_above (lowest p) (content p) (rw c.lowest.ensures at above))
