use Rattle.std.proofs.Common.{◌≡◌, ◌≤◌, ◌+◌, ◌∙◌, sym, ap, arith, ℕ, pos, ◌*ℤ◌, Some}
use Rattle.field_core.specs.Polynomial.{coefficient}
use Rattle.eps_poly.specs.Written.{degree}
use Rattle.eps_poly.proofs.DegreeLaws.{coefficient-above}
use Rattle.eps_poly.proofs.InPlace.{rewritten_none, rewritten_more, rewritten_all}
use Rattle.eps_poly.proofs.SizedLists.{list_from_all, list_from_refused}
use Rattle.eps_poly.proofs.ProductLaws.{product_by_zero, product_from_list, product_past, coefficient_whole, coefficient_past}
use Rattle.eps_poly.proofs.OrderLaws.{none_but_zero}
use Rattle.eps_poly.proofs.QuotientLaws.{zero_product, product_zero}
use Rattle.eps_poly.proofs.poly.EpsPoly.write_product.Goals as goal
use Rattle.eps_poly.proofs.poly.EpsPoly.write_product.Goals.{then-is_zero-via-then-is_zero, then-is_zero-via-else-is_zero+then-is_zero-2}

pub returns-then-above-below-ge-COUNT : goal.returns-then-above-below-ge-COUNT
returns-then-above-below-ge-COUNT c = sym (product_past c.args.left.now c.args.right.now (omega arith))

pub returns-then-is_zero : goal.returns-then-is_zero
returns-then-is_zero c =
    let p = c.args.left.now in
    let q = c.args.right.now in
    let within : degree p + degree q ≤ 32 = omega arith in
    let none : (i j : ℕ) → coefficient p i *ℤ coefficient q j ≡ pos 0 = elim c.then-is_zero.branch [
      | then-is_zero-via-then-is_zero w ↦ λ i j. zero_product _ _ (none_but_zero p (c.is_zero.ensures.zero.0 w.if-is_zero.true) i)
      | then-is_zero-via-else-is_zero+then-is_zero-2 w ↦ λ i j. product_zero _ _ (none_but_zero q (w.is_zero-else-is_zero.ensures.zero.0 w.if-is_zero-2.true) j)
    ] in
    ap Some c.clear.ensures ∙ sym (product_by_zero p q within none)

pub loop-power-init : goal.loop-power-init
loop-power-init c = rewritten_none _ _

pub loop-power-preserved : goal.loop-power-preserved
loop-power-preserved c =
    let more = c.loop-power-test.true in
    let count = c.used-end.ensures.polynomial.count in
    let p = c.args.left.now in
    let q = c.args.right.now in
    rw c.put.ensures (rewritten_more _ _ _ _ _ (omega arith) c.loop-power.invariant
    (coefficient_whole p q c.loop-power.power (c.min-count.result + 1) (omega arith) (omega arith) ∙ sym c.part_of_product.ensures
    ∙ c.in_ok-part_of_product.was))

pub returns-in_err-part_of_product : goal.returns-in_err-part_of_product
returns-in_err-part_of_product c =
    let more = c.loop-power-test.true in
    let count = c.used-end.ensures.polynomial.count in
    let kept = c.loop-power.invariant.count in
    let p = c.args.left.now in
    let q = c.args.right.now in
    let within : degree p + degree q ≤ 32 = omega arith in
    rw c.from_residual.ensures (sym (product_from_list p q within
    ∙ list_from_refused _ c.loop-power.self c.loop-power.power (omega arith) (omega arith) c.loop-power.invariant.front
    (coefficient_whole p q c.loop-power.power (c.min-count.result + 1) (omega arith) (omega arith) ∙ sym c.part_of_product.ensures
    ∙ c.in_err-part_of_product.was)))

pub returns : goal.returns
returns c =
    let done = c.loop-power-test.false in
    let count = c.used-end.ensures.polynomial.count in
    let kept = c.loop-power.invariant.count in
    let p = c.args.left.now in
    let q = c.args.right.now in
    let within : degree p + degree q ≤ 32 = omega arith in
    sym (product_from_list p q within
    ∙ list_from_all _ c.loop-power.self (omega arith)
    (rewritten_all _ _ _ c.loop-power.power (λ k h. coefficient_past p q k (omega arith) ∙ ap Some (sym (coefficient-above c.args.self.now k (omega arith))))
    c.loop-power.invariant))
