use Rattle.std.proofs.Common.{◌≡◌, ◌+◌, ◌-◌, ◌∙◌, ap, arith, drop, unsigned_abs}
use Rattle.eps_poly.specs.Factors.{content}
use Rattle.eps_poly.proofs.ContentLaws.{content_end, content_more, content_one, content_small}
use Rattle.eps_poly.proofs.DegreeLaws.{coefficient-above_degree}
use Rattle.eps_poly.proofs.poly.EpsPoly.content.Goals as goal

pub loop-power-init : goal.loop-power-init
loop-power-init c = content_end c.args.self.now (c.degree-power.result + 1) (λ k h. coefficient-above_degree c.args.self.now k (omega arith))

pub loop-power-preserved : goal.loop-power-preserved
loop-power-preserved c =
    content_more c.args.self.now c.loop-power.power c.size.result c.loop-power.divisor c.gcd-divisor.result c.loop-power-test.true
    (omega (arith, c.degree-power.ensures.polynomial.count, c.loop-power.auto.power))
    c.loop-power.invariant (c.size.ensures ∙ ap unsigned_abs c.whole.ensures) c.gcd-divisor.ensures

pub returns-then-divisor-eq1-clause-value : goal.returns-then-divisor-eq1-clause-value
returns-then-divisor-eq1-clause-value c = content_one c.args.self.now (c.loop-power.power - 1) c.gcd-divisor.result
    (content_more c.args.self.now c.loop-power.power c.size.result c.loop-power.divisor c.gcd-divisor.result c.loop-power-test.true
    (omega (arith, c.degree-power.ensures.polynomial.count, c.loop-power.auto.power))
    c.loop-power.invariant (c.size.ensures ∙ ap unsigned_abs c.whole.ensures) c.gcd-divisor.ensures)
    c.if-divisor-eq1.true

content_found : (c : goal.After-loop-power) → c.loop-power.divisor ≡ content c.args.self.now
content_found c =
    let done : c.loop-power.power ≡ 0 = omega arith in
    c.loop-power.invariant ∙ ap (λ n. content (drop n c.args.self.now)) done

pub returns-clause-value : goal.returns-clause-value
returns-clause-value c = content_found c

pub returns-clause-size : goal.returns-clause-size
returns-clause-size c = rw (content_found c) (content_small c.args.self.now c.degree-power.ensures.polynomial.sizes)
