use Rattle.std.proofs.Common.{◌≡◌, sym, ap, ◌∙◌, Err, arith}
use Rattle.std.proofs.lemmas.Result.{err_from_is_err_and}
use Rattle.field_core.specs.Kind.{ok_map, or_wide}
use Rattle.field_core.specs.View.{terms}
use Rattle.field_core.specs.declared.place.Op.TheVariants.{Add}
use Rattle.case_model.specs.Sums.{written_sum}
use Rattle.case_model.proofs.SumSteps.{sum_none, sum_more, sum_stops}
use Rattle.case_model.proofs.sums.written_sum.Goals as goal

pub loop-i-init : goal.loop-i-init
loop-i-init g c f item = sum_none f c.zero-sum.result c.zero-sum.ensures

pub loop-i-preserved : goal.loop-i-preserved
loop-i-preserved g c f item = sum_more f c.loop-i.i c.loop-i.sum c.at.result (item c.loop-i.i c.at.result c.loop-i-test.true c.at.ensures)
    (c.loop-i.invariant f item) c.in_ok-sum.sum c.in_ok-sum.ensures

pub returns-in_err-sum : goal.returns-in_err-sum
returns-in_err-sum g c f item =
    let p = err_from_is_err_and c.from_residual.result c.from_residual.ensures.1 in
    ap (ok_map terms) (p.1 ∙ ap Err p.2)
    ∙ sum_stops f c.loop-i.i c.loop-i.sum c.at.result (item c.loop-i.i c.at.result c.loop-i-test.true c.at.ensures)
    (c.loop-i.invariant f item) c.in_err-sum.field-0.0 c.args.count c.loop-i-test.true c.in_err-sum.ensures

pub returns : goal.returns
returns g c f item =
    let all : c.loop-i.i ≡ c.args.count = omega arith in
    ap (or_wide Add) (sym (c.loop-i.invariant f item) ∙ ap (λ n. written_sum n f) all)
