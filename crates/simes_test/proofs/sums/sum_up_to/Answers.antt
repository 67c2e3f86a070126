use Rattle.std.proofs.Common.{◌≡◌, sym, ap, ◌∙◌, Err, arith}
use Rattle.std.proofs.lemmas.Result.{err_from_is_err_and}
use Rattle.field_core.specs.Kind.{ok_map, or_wide}
use Rattle.field_core.specs.View.{terms}
use Rattle.field_core.specs.declared.place.Op.TheVariants.{Add}
use Rattle.case_model.specs.Sums.{written_sum}
use Rattle.case_model.proofs.SumSteps.{sum_none, sum_more, sum_stops}
use Rattle.closed_test.specs.WeightsView.{weight_at}
use Rattle.simes_test.specs.SimesSums.{weight_up_to}
use Rattle.simes_test.proofs.sums.sum_up_to.Goals as goal

pub loop-i-init : goal.loop-i-init
loop-i-init c = sum_none (weight_up_to c.args.p_values.now (weight_at c.args.weights.now) c.args.set c.args.j) c.zero-sum.result c.zero-sum.ensures

pub loop-i-preserved : goal.loop-i-preserved
loop-i-preserved c =
    let f = weight_up_to c.args.p_values.now (weight_at c.args.weights.now) c.args.set c.args.j in
    sum_more f c.loop-i.i c.loop-i.sum c.weight_up_to.result c.weight_up_to.ensures c.loop-i.invariant c.in_ok-sum.sum c.in_ok-sum.ensures

pub returns-in_err-sum : goal.returns-in_err-sum
returns-in_err-sum c =
    let f = weight_up_to c.args.p_values.now (weight_at c.args.weights.now) c.args.set c.args.j in
    let p = err_from_is_err_and c.from_residual.result c.from_residual.ensures.1 in
    ap (ok_map terms) (p.1 ∙ ap Err p.2)
    ∙ sum_stops f c.loop-i.i c.loop-i.sum c.weight_up_to.result c.weight_up_to.ensures c.loop-i.invariant c.in_err-sum.field-0.0 c.args.weights.now.size
    (omega arith) c.in_err-sum.ensures

pub returns : goal.returns
returns c =
    let f = weight_up_to c.args.p_values.now (weight_at c.args.weights.now) c.args.set c.args.j in
    let all : c.loop-i.i ≡ c.args.weights.now.size = omega arith in
    ap (or_wide Add) (sym c.loop-i.invariant ∙ ap (λ n. written_sum n f) all)
