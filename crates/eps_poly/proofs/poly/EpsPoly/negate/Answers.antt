use Rattle.std.proofs.Common.{◌∙◌, sym, ap, arith, neg_ℤ}
use Rattle.field_core.specs.Laws.PolynomialLaws.{coefficient-negate}
use Rattle.eps_poly.proofs.Coefficients.{filled_none, filled_more, filled_rest, same_polynomials, length-negate}
use Rattle.eps_poly.proofs.DegreeLaws.{coefficient-above_degree}
use Rattle.eps_poly.proofs.poly.EpsPoly.negate.Goals as goal

pub loop-power-init : goal.loop-power-init
loop-power-init c = filled_none _ _ c.zero-opposite.ensures

pub loop-power-preserved : goal.loop-power-preserved
loop-power-preserved c =
    let more = c.loop-power-test.true in
    rw c.put.ensures (filled_more _ _ _ _ (omega arith) c.loop-power.invariant (c.negated.ensures ∙ ap neg_ℤ c.whole.ensures))

pub returns : goal.returns
returns c =
    let p = c.args.self.now in
    let done = c.loop-power-test.false in
    let all = filled_rest _ _ c.loop-power.power (λ k h. sym (ap neg_ℤ (coefficient-above_degree p k (omega arith)))) c.loop-power.invariant in
    let count = all.count in
    same_polynomials _ _ (count ∙ sym c.degree-power-end.ensures.polynomial.count ∙ sym (length-negate p))
    (λ k h. all.front k (omega arith) ∙ sym (coefficient-negate p k))
