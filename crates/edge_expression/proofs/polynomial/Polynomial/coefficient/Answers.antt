use Rattle.std.proofs.Common.{sym, ap, ◌∙◌, length, arith, ◌<◌}
use Rattle.edge_expression.specs.EntryView.{short_terms}
use Rattle.edge_expression.proofs.Coefficients.{item_terms}
use Rattle.edge_expression.proofs.polynomial.Polynomial.coefficient.Goals as goal

pub returns : goal.returns
returns c =
    let xs = c.args.self.now.coefficients in
    let within : c.args.power < length xs = omega arith in
    ap short_terms (sym c.index-self-power.is) ∙ sym (item_terms xs c.args.power c.index-self-power.result within c.index-self-power.is)
