use Rattle.std.proofs.Common.{rules, ◌≡◌, ◌∙◌, refl, sym, ap, map, Ok, Err, arith}
use Rattle.std.proofs.lemmas.List.{map-set}
use Rattle.field_core.specs.Kind.{ok_map}
use Rattle.evidence.proofs.Puts.{put_nil, put_next, put_stops}
use Rattle.evidence.proofs.rows.put_each.Goals as goal

pub loop-r-init : goal.loop-r-init
loop-r-init g c = λ f says. put_nil f _

pub returns-in_err-step : goal.returns-in_err-step
returns-in_err-step g c = λ f says.
    let e : c.from_residual.result ≡ Err c.in_err-step.field-0.0 = search rules in
    ap (ok_map _) e
    ∙ sym (put_stops f c.args.places.now c.loop-r.r-index _ _ _ _ (omega (arith, c.loop-r-test.true)) refl (c.loop-r.invariant f says)
    (sym (says _ c.step.result c.step.ensures) ∙ ap (ok_map g.F.Number.parts) c.in_err-step.was))

pub loop-r-preserved : goal.loop-r-preserved
loop-r-preserved g c = λ f says.
    put_next f c.args.places.now c.loop-r.r-index _ _ _ _ (omega (arith, c.loop-r-test.true)) refl (c.loop-r.invariant f says)
    (sym (says _ c.step.result c.step.ensures) ∙ ap (ok_map g.F.Number.parts) c.in_ok-step.was)
    ∙ ap Ok (sym (map-set _ _ _ _) ∙ ap (map g.F.Number.parts) (sym c.put.ensures))
