use Rattle.std.proofs.Common.{rules, FitsSigned, to_z, pos, subst, ◌≡◌, ◌+◌, ◌-◌, ◌∙◌, sym, ap, arith, int_div, ℕ, ℤ}
use Rattle.std.specs.Int.{w128}
use Rattle.std.proofs.lemmas.Int.{to_z-of_z}
use Rattle.field_core.specs.Polynomial.{coefficient}
use Rattle.eps_poly.specs.Polynomials.{IsPolynomial}
use Rattle.eps_poly.specs.Factors.{lowered}
use Rattle.eps_poly.proofs.Coefficients.{filled_none, filled_more, filled_rest, same_polynomials, length-by_powers, coefficient-by_powers}
use Rattle.eps_poly.proofs.DegreeLaws.{coefficient-above_degree}
use Rattle.eps_poly.proofs.IntegerQuotients.{int_div-zero}
use Rattle.eps_poly.proofs.Validity.{lowered_same}
use Rattle.eps_poly.proofs.poly.EpsPoly.lowered.Goals as goal

pub returns-then-value-eq1 : goal.returns-then-value-eq1
returns-then-value-eq1 c =
    let fits : FitsSigned w128 c.value.result = search rules in
    let one : c.args.by ≡ pos 1 = sym c.value.ensures.value ∙ sym (to_z-of_z w128 c.value.result fits) ∙ ap (to_z w128) c.if-value-eq1.true in
    rw (c.if-power-eq0.true, one) (c.self.view_is ∙ sym (lowered_same c.args.self.now (subst IsPolynomial c.self.view_is c.self.invariant.0)))

pub loop-from-init : goal.loop-from-init
loop-from-init c = let none : c.args.power - c.args.power ≡ 0 = omega arith in rw none (filled_none _ _ c.zero-lowered.ensures)

pub loop-from-preserved : goal.loop-from-preserved
loop-from-preserved c =
    let room = c.loop-from-test.true in
    let low = c.loop-from.auto.from in
    let at : (c.loop-from.from - c.args.power) + c.args.power ≡ c.loop-from.from = omega arith in
    let next : (c.loop-from.from + 1) - c.args.power ≡ (c.loop-from.from - c.args.power) + 1 = omega arith in
    rw (c.put.ensures, next) (filled_more _ _ _ _ (omega arith) c.loop-from.invariant
    (c.over.ensures ∙ ap (λ x. int_div x c.args.by) (c.whole.ensures ∙ ap (coefficient c.args.self.now) (sym at))))

pub returns : goal.returns
unfolding lowered
returns c =
    let done = c.loop-from-test.false in
    let low = c.loop-from.auto.from in
    let p = c.args.self.now in
    let value : ℕ → ℤ = λ i. int_div (coefficient p (i + c.args.power)) c.args.by in
    let all = filled_rest _ _ (c.loop-from.from - c.args.power)
    (λ k h. sym (ap (λ x. int_div x c.args.by) (coefficient-above_degree p (k + c.args.power) (omega arith)) ∙ int_div-zero c.args.by))
    c.loop-from.invariant in
    let count = all.count in
    same_polynomials _ _ (count ∙ sym (length-by_powers value))
    (λ k h. all.front k (omega arith) ∙ sym (coefficient-by_powers value k (omega arith)))
