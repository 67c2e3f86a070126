use Rattle.std.proofs.Common.{◌∙◌, sym, subst, arith}
use Rattle.eps_poly.specs.Polynomials.{IsPolynomial}
use Rattle.eps_poly.proofs.Coefficients.{coefficient-set_same, coefficient-set_other}
use Rattle.eps_poly.proofs.poly.EpsPoly.whole_with.Goals as goal

pub returns-then-at-power : goal.returns-then-at-power
returns-then-at-power c =
    let held = subst IsPolynomial c.self.view_is c.self.invariant.0 in
    let count = held.count in
    rw c.if-at-power.true (sym (coefficient-set_same c.args.self.now c.args.power c.args.c (omega arith)))

pub returns-else-at-power : goal.returns-else-at-power
returns-else-at-power c = c.whole.ensures ∙ sym (coefficient-set_other c.args.self.now c.args.power c.args.at c.args.c (λ e. absurd (omega arith)))
