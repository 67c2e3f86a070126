use Rattle.std.proofs.Common.{◌∙◌, sym, ap, arith, inl, inr, of_z}
use Rattle.std.specs.Int.{w128}
use Rattle.std.proofs.lemmas.Bool.{cases_lt}
use Rattle.field_core.specs.Polynomial.{coefficient}
use Rattle.eps_poly.proofs.Coefficients.{differ, same_polynomials, same_to}
use Rattle.eps_poly.proofs.DegreeLaws.{coefficient-above}
use Rattle.eps_poly.proofs.poly.EpsPoly.is_same_below.Goals as goal

pub returns-then-coefficient : goal.returns-then-coefficient
returns-then-coefficient c = differ c.args.self.now c.args.other.now
    (λ e. c.if-coefficient.true (ap (of_z w128) (c.coefficient.ensures ∙ ap (λ r. coefficient r c.loop-power.power) e
    ∙ sym c.coefficient-in-loop-power.ensures)))

pub returns : goal.returns
returns c =
    let p = c.args.self.now in
    let q = c.args.other.now in
    let done = c.loop-power-test.false in
    sym (same_to p q (same_polynomials p q (c.used.ensures.polynomial.count ∙ sym c.used-2.ensures.polynomial.count)
    (λ k h. elim (cases_lt k c.loop-power.power) [
      | inl l ↦ c.loop-power.invariant k l
      | inr l ↦ coefficient-above p k (omega (arith, c.requires.own)) ∙ sym (coefficient-above q k (omega (arith, c.requires.other)))
    ])))
