use Rattle.std.proofs.Common.{rules, ◌≡◌, sym, ap, ◌∙◌, Err}
use Rattle.field_core.specs.Kind.{ok_map}
use Rattle.evidence_check.proofs.AddedSteps.{product_refused, product_done}
use Rattle.evidence_check.proofs.sums.with_product.Goals as goal

pub returns-in_err-product : goal.returns-in_err-product
returns-in_err-product g c =
    let e : c.from_residual.result ≡ Err c.in_err-product.field-0.0 = search rules in
    ap (ok_map g.F.Number.parts) e
    ∙ sym (product_refused g.F.Number.parts _ _ _ _ _ _ c.mul.result c.mul.ensures _ (sym c.placed.ensures ∙ c.in_err-product.was))

pub returns : goal.returns
returns g c = ap (ok_map g.F.Number.parts) c.placed-2.ensures
    ∙ product_done g.F.Number.parts _ _ _ _ _ _ c.mul.result c.mul.ensures _ _ (sym c.placed.ensures ∙ c.in_ok-product.was) c.add.ensures
