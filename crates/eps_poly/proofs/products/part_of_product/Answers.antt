use Rattle.std.proofs.Common.{◌∙◌, sym, ap, arith, suc, Some, None}
use Rattle.eps_poly.specs.Written.{written_coefficient}
use Rattle.eps_poly.proofs.ProductLaws.{coefficient_next, coefficient_product_refused, coefficient_refused}
use Rattle.eps_poly.proofs.products.part_of_product.Goals as goal

pub loop-first-preserved : goal.loop-first-preserved
loop-first-preserved c =
    let p = c.args.p.now in
    let q = c.args.q.now in
    let power = c.args.power in
    ap (written_coefficient p q power) (omega arith)
    ∙ coefficient_next p q power c.loop-first.first c.loop-first.sum c.in_ok-product.product (Some c.in_ok-sum.sum) c.loop-first.invariant
    (sym c.product_at.ensures ∙ c.in_ok-product.was) (sym c.checked_add.ensures ∙ c.in_ok-sum.was)

pub returns-in_err-product : goal.returns-in_err-product
returns-in_err-product c =
    let more = c.loop-first-test.true in
    let p = c.args.p.now in
    let q = c.args.q.now in
    let power = c.args.power in
    let first = c.loop-first.first in
    let refused = coefficient_product_refused p q power first c.loop-first.sum c.loop-first.invariant (sym c.product_at.ensures ∙ c.in_err-product.was) in
    rw c.from_residual.ensures (sym (coefficient_refused p q power (suc first) c.args.count refused more))

pub returns-in_err-sum : goal.returns-in_err-sum
returns-in_err-sum c =
    let more = c.loop-first-test.true in
    let p = c.args.p.now in
    let q = c.args.q.now in
    let power = c.args.power in
    let first = c.loop-first.first in
    let refused = coefficient_next p q power first c.loop-first.sum c.in_ok-product.product None c.loop-first.invariant
    (sym c.product_at.ensures ∙ c.in_ok-product.was) (sym c.checked_add.ensures ∙ c.in_err-sum.was) in
    rw c.from_residual-in_err-sum.ensures (sym (coefficient_refused p q power (suc first) c.args.count refused more))
