use Rattle.std.proofs.Common.{rules, ◌≡◌, ◌∙◌, ◌+◌, sym, length, Err, arith}
use Rattle.case_model.specs.CaseView.{content}
use Rattle.evidence_check.specs.CaseCheck.{component_load, all_loads}
use Rattle.evidence_check.proofs.AllSteps.{all_next, all_refused}
use Rattle.evidence_check.proofs.loading.load.Goals as goal

pub returns-in_err-load_component : goal.returns-in_err-load_component
unfolding all_loads
returns-in_err-load_component g c =
    let held = content c.args.case.now in
    let load = component_load g.F.CaseNumber.numbers held in
    let e : c.from_residual.result ≡ Err c.in_err-load_component.field-0.0 = search rules in
    e ∙ sym (all_refused load (length held.components) (c.loop-c.c + 1) _ (omega (arith, c.loop-c-test.true, c.components-c-end.ensures.count))
    (all_next load c.loop-c.c c.loop-c.invariant ∙ sym c.load_component.ensures ∙ c.in_err-load_component.was))
