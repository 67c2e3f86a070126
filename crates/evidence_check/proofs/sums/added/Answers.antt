use Rattle.std.proofs.Common.{rules, ◌≡◌, sym, ap, ◌∙◌, Err, arith}
use Rattle.field_core.specs.Kind.{ok_map}
use Rattle.evidence_check.proofs.AddedSteps.{added_stops, added_goes, added_end}
use Rattle.evidence_check.proofs.sums.added.Goals as goal

pub returns-in_err-sum : goal.returns-in_err-sum
returns-in_err-sum g c = λ f h xs ys.
    let e : c.from_residual.result ≡ Err c.in_err-sum.field-0.0 = search rules in
    let p = xs c.loop-e.e c.x.result (omega (arith, c.loop-e-test.true)) c.x.ensures in
    let q = ys c.loop-e.e c.y.result (omega (arith, c.loop-e-test.true)) c.y.ensures in
    ap (ok_map g.F.Number.parts) (e ∙ sym c.in_err-sum.was)
    ∙ added_stops g.F.Number.kind (λ _. c.args.component) c.args.place (g.F.Number.parts c.args.start) f h g.F.Number.parts c.loop-e.e
    (g.F.Number.parts c.loop-e.sum) (g.F.Number.parts c.x.result) (g.F.Number.parts c.y.result)
    c.with_product.result (c.loop-e.invariant f h xs ys) p q c.with_product.ensures c.args.count c.in_err-sum.field-0.0
    (omega (arith, c.loop-e-test.true)) c.in_err-sum.was

pub loop-e-preserved : goal.loop-e-preserved
loop-e-preserved g c = λ f h xs ys.
    let p = xs c.loop-e.e c.x.result (omega (arith, c.loop-e-test.true)) c.x.ensures in
    let q = ys c.loop-e.e c.y.result (omega (arith, c.loop-e-test.true)) c.y.ensures in
    added_goes g.F.Number.kind (λ _. c.args.component) c.args.place (g.F.Number.parts c.args.start) f h g.F.Number.parts c.loop-e.e
    (g.F.Number.parts c.loop-e.sum) (g.F.Number.parts c.x.result) (g.F.Number.parts c.y.result)
    c.with_product.result (c.loop-e.invariant f h xs ys) p q c.with_product.ensures c.in_ok-sum.sum c.in_ok-sum.was

pub returns : goal.returns
returns g c = λ f h xs ys. added_end g.F.Number.kind (λ _. c.args.component) c.args.place (g.F.Number.parts c.args.start) f h c.loop-e.e c.args.count _
    (omega (arith, c.loop-e.auto.e-end, c.loop-e-test.false)) (c.loop-e.invariant f h xs ys)
