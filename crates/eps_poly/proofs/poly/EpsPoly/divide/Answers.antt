use Rattle.std.proofs.Common.{rules, FitsSigned, to_z, ◌≡◌, ◌+◌, ◌∙◌, sym, ap, arith, int_div, ℕ, ℤ, pos}
use Rattle.std.specs.Int.{w128}
use Rattle.std.proofs.lemmas.Int.{to_z-of_z}
use Rattle.field_core.specs.Polynomial.{coefficient}
use Rattle.eps_poly.specs.Factors.{lowered}
use Rattle.eps_poly.proofs.Coefficients.{same_polynomials, length-by_powers, coefficient-by_powers}
use Rattle.eps_poly.proofs.DegreeLaws.{coefficient-above}
use Rattle.eps_poly.proofs.InPlace.{rewritten_none, rewritten_more, rewritten_all}
use Rattle.eps_poly.proofs.IntegerQuotients.{int_div-zero}
use Rattle.eps_poly.proofs.Validity.{lowered_same}
use Rattle.eps_poly.proofs.poly.EpsPoly.divide.Goals as goal

pub returns-then-value-eq1 : goal.returns-then-value-eq1
returns-then-value-eq1 c =
    let fits : FitsSigned w128 c.value.result = search rules in
    let one : c.args.by ≡ pos 1 = sym c.value.ensures.value ∙ sym (to_z-of_z w128 c.value.result fits) ∙ ap (to_z w128) c.if-value-eq1.true in
    rw one (sym (lowered_same c.args.self.now c.used-end.ensures.polynomial))

pub loop-power-init : goal.loop-power-init
loop-power-init c = rewritten_none _ _

pub loop-power-preserved : goal.loop-power-preserved
loop-power-preserved c =
    let more = c.loop-power-test.true in
    let count = c.used-end.ensures.polynomial.count in
    let stays = c.loop-power.invariant.rest c.loop-power.power (omega arith) in
    rw c.put.ensures (rewritten_more _ _ _ _ _ (omega arith) c.loop-power.invariant
    (c.over.ensures ∙ ap (λ x. int_div x c.args.by) (c.whole.ensures ∙ stays)))

none_over : (x by : ℤ) → x ≡ pos 0 → x ≡ int_div x by
none_over x by e = rw e (sym (int_div-zero by))

pub returns : goal.returns
unfolding lowered
returns c =
    let done = c.loop-power-test.false in
    let same = c.used-end.ensures.value in
    let p = c.args.self.now in
    let value : ℕ → ℤ = λ i. int_div (coefficient p (i + 0)) c.args.by in
    let count = c.used-end.ensures.polynomial.count in
    let stays = c.loop-power.invariant.count in
    same_polynomials _ _ (stays ∙ count ∙ sym (length-by_powers value))
    (λ k h. let here : k ≡ k + 0 = omega arith in
    rewritten_all _ _ _ c.loop-power.power (λ k h. none_over _ _ (coefficient-above p k (omega arith))) c.loop-power.invariant k
    ∙ ap (λ i. int_div (coefficient p i) c.args.by) here ∙ sym (coefficient-by_powers value k (omega arith)))
