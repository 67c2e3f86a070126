use Rattle.std.proofs.Common.{◌≡◌, sym, ap, ◌∙◌, true, false, arith}
use Rattle.fraction.specs.Tests.{is_zero}
use Rattle.case_model.specs.Sums.{terms_at}
use Rattle.edge_expression.specs.EntryView.{polynomial_terms}
use Rattle.edge_expression.proofs.Coefficients.{degree_down, degree_here, degree_least}
use Rattle.edge_expression.proofs.polynomial.Polynomial.degree.Goals as goal

pub loop-power-preserved : goal.loop-power-preserved
loop-power-preserved c =
    let xs = polynomial_terms c.args.self.now in
    let zero : is_zero (terms_at xs c.loop-power.power) ≡ true = ap is_zero (sym c.coefficient.ensures) ∙ sym c.is_zero.ensures ∙ c.if-is_zero.true in
    record { same = degree_down c.loop-power.power xs c.loop-power-test.true zero ∙ c.loop-power.invariant.same; within = omega arith }

pub returns-else-is_zero-clause-value : goal.returns-else-is_zero-clause-value
returns-else-is_zero-clause-value c =
    let xs = polynomial_terms c.args.self.now in
    let some : is_zero (terms_at xs c.loop-power.power) ≡ false = ap is_zero (sym c.coefficient.ensures) ∙ sym c.is_zero.ensures ∙ c.if-is_zero.false in
    sym (degree_here c.loop-power.power xs some) ∙ c.loop-power.invariant.same

pub returns-after-loop-power-clause-value : goal.returns-after-loop-power-clause-value
returns-after-loop-power-clause-value c = sym (degree_least c.loop-power.power (polynomial_terms c.args.self.now) (omega arith)) ∙ c.loop-power.invariant.same
