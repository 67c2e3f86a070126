use Rattle.std.proofs.Common.{suc, sym, ap, ◌∙◌, Ok, Err, arith}
use Rattle.std.proofs.lemmas.Result.{err_from_is_err_and}
use Rattle.edge_expression.specs.EntryView.{polynomial_terms, short_terms, map_value}
use Rattle.edge_expression.proofs.Coefficients.{product_none, product_more, product_refused, product_stops}
use Rattle.edge_expression.proofs.polynomial.product_sum.Goals as goal

pub loop-at-init : goal.loop-at-init
loop-at-init c = product_none (polynomial_terms c.args.x.now) (polynomial_terms c.args.y.now) c.args.power ∙ ap Ok (sym c.zero-sum.ensures)

pub returns-in_err-product : goal.returns-in_err-product
returns-in_err-product c =
    let p = err_from_is_err_and c.from_residual.result c.from_residual.ensures.1 in
    let x = polynomial_terms c.args.x.now in
    let y = polynomial_terms c.args.y.now in
    ap (map_value short_terms) (p.1 ∙ ap Err p.2)
    ∙ sym (product_stops x y c.args.power c.loop-at.at (suc c.args.power) c.in_err-product.field-0.0 (omega arith)
    (product_refused x y c.args.power c.loop-at.at (short_terms c.loop-at.sum) _ _ c.in_err-product.field-0.0 c.loop-at.invariant
    (sym c.coefficient.ensures) (sym c.coefficient-in-loop-at.ensures) (sym c.in_err-product.ensures)))

pub returns-in_err-sum : goal.returns-in_err-sum
returns-in_err-sum c =
    let p = err_from_is_err_and c.from_residual-in_err-sum.result c.from_residual-in_err-sum.ensures.1 in
    let x = polynomial_terms c.args.x.now in
    let y = polynomial_terms c.args.y.now in
    ap (map_value short_terms) (p.1 ∙ ap Err p.2)
    ∙ sym (product_stops x y c.args.power c.loop-at.at (suc c.args.power) c.in_err-sum.field-0.0 (omega arith)
    (product_more x y c.args.power c.loop-at.at (short_terms c.loop-at.sum) (short_terms c.in_ok-product.product) _ _ c.loop-at.invariant
    (sym c.coefficient.ensures) (sym c.coefficient-in-loop-at.ensures) (sym c.in_ok-product.ensures) ∙ sym c.in_err-sum.ensures))

pub loop-at-preserved : goal.loop-at-preserved
loop-at-preserved c =
    let x = polynomial_terms c.args.x.now in
    let y = polynomial_terms c.args.y.now in
    product_more x y c.args.power c.loop-at.at (short_terms c.loop-at.sum) (short_terms c.in_ok-product.product) _ _ c.loop-at.invariant
    (sym c.coefficient.ensures) (sym c.coefficient-in-loop-at.ensures) (sym c.in_ok-product.ensures) ∙ sym c.in_ok-sum.ensures
