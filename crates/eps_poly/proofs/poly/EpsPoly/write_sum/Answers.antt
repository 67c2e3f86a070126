use Rattle.std.proofs.Common.{◌∙◌, sym, ap₂, arith, ◌+ℤ◌}
use Rattle.field_core.specs.Sized.{sized}
use Rattle.eps_poly.specs.Written.{sized_sum}
use Rattle.eps_poly.proofs.DegreeLaws.{coefficient-above}
use Rattle.eps_poly.proofs.InPlace.{rewritten_none, rewritten_more, rewritten_all}
use Rattle.eps_poly.proofs.SizedLists.{list_from_all, list_from_refused}
use Rattle.eps_poly.proofs.SumLaws.{sum_alone}
use Rattle.eps_poly.proofs.poly.EpsPoly.write_sum.Goals as goal

pub loop-power-init : goal.loop-power-init
loop-power-init c = rewritten_none _ _

pub loop-power-preserved : goal.loop-power-preserved
loop-power-preserved c =
    let more = c.loop-power-test.true in
    let count = c.used.ensures.polynomial.count in
    let stays = c.loop-power.invariant.rest c.loop-power.power (omega arith) in
    let read = ap₂ (λ a b. sized (a +ℤ b)) (sym (c.whole-left.ensures ∙ stays)) (sym c.whole-right.ensures) ∙ sym c.checked_add.ensures in
    rw c.put.ensures (rewritten_more _ _ _ _ _ (omega arith) c.loop-power.invariant (read ∙ c.in_ok-checked_add.was))

pub returns-in_err-checked_add : goal.returns-in_err-checked_add
unfolding sized_sum
returns-in_err-checked_add c =
    let more = c.loop-power-test.true in
    let count = c.used.ensures.polynomial.count in
    let kept = c.loop-power.invariant.count in
    let stays = c.loop-power.invariant.rest c.loop-power.power (omega arith) in
    let read = ap₂ (λ a b. sized (a +ℤ b)) (sym (c.whole-left.ensures ∙ stays)) (sym c.whole-right.ensures) ∙ sym c.checked_add.ensures in
    rw c.from_residual.ensures
    (sym (list_from_refused _ c.loop-power.self c.loop-power.power (omega arith) (omega arith) c.loop-power.invariant.front
    (read ∙ c.in_err-checked_add.was)))

pub returns : goal.returns
unfolding sized_sum
returns c =
    let done = c.loop-power-test.false in
    let count = c.used.ensures.polynomial.count in
    let kept = c.loop-power.invariant.count in
    sym (list_from_all _ c.loop-power.self (omega arith)
    (rewritten_all _ _ _ c.loop-power.power
    (λ k h. sum_alone c.args.self.now c.args.other.now k c.used.ensures.polynomial (coefficient-above c.args.other.now k (omega arith)))
    c.loop-power.invariant))
