use Rattle.std.proofs.Common.{rules, ◌∙◌, sym, ap, FitsSigned, to_z, of_z}
use Rattle.std.specs.Int.{w128}
use Rattle.std.proofs.lemmas.Int.{to_z-of_z}
use Rattle.eps_quotient.proofs.CoreTests.{one_by_degree, one_by_first}
use Rattle.eps_quotient.proofs.pair.is_one.Goals as goal

pub returns-then-coefficient-eq1 : goal.returns-then-coefficient-eq1
returns-then-coefficient-eq1 c =
    let fits : FitsSigned w128 c.coefficient.result = search rules in
    one_by_degree c.args.p.now c.degree.result c.degree.ensures.polynomial c.degree.ensures.value
    (sym c.coefficient.ensures ∙ sym (to_z-of_z w128 c.coefficient.result fits) ∙ ap (to_z w128) c.if-coefficient-eq1.true)

pub returns-else-coefficient-eq1 : goal.returns-else-coefficient-eq1
returns-else-coefficient-eq1 c =
    one_by_first c.args.p.now _ c.if-coefficient-eq1.false (λ e. ap (of_z w128) (c.coefficient.ensures ∙ e))
