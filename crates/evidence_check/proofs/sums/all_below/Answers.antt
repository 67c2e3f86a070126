use Rattle.std.proofs.Common.{rules, ◌≡◌, sym, ◌∙◌, ◌+◌, Err, arith}
use Rattle.evidence_check.proofs.AllSteps.{all_next, all_refused}
use Rattle.evidence_check.proofs.sums.all_below.Goals as goal

pub returns-in_err-test : goal.returns-in_err-test
returns-in_err-test g c = λ f says.
    let e : c.from_residual.result ≡ Err c.in_err-test.field-0.0 = search rules in
    let found = says c.loop-i.i c.test.result (omega (arith, c.loop-i-test.true)) c.test.ensures in
    e ∙ sym (all_refused f c.args.count (c.loop-i.i + 1) _ (omega (arith, c.loop-i-test.true))
    (all_next f c.loop-i.i (c.loop-i.invariant f says) ∙ sym found ∙ c.in_err-test.was))
