use Rattle.std.proofs.Common.{rules, ◌≡◌, ◌∙◌, ◌+◌, sym, length, Err, arith}
use Rattle.case_model.specs.CaseView.{content}
use Rattle.evidence_check.specs.CaseCheck.{row_load, component_load}
use Rattle.evidence_check.proofs.AllSteps.{all_next, all_refused}
use Rattle.evidence_check.proofs.loading.load_component.Goals as goal

pub returns-in_err-load_row : goal.returns-in_err-load_row
unfolding component_load
returns-in_err-load_row g c =
    let held = content c.args.case.now in
    let load = row_load g.F.CaseNumber.numbers held c.args.c in
    let e : c.from_residual.result ≡ Err c.in_err-load_row.field-0.0 = search rules in
    e ∙ sym (all_refused load (length held.names) (c.loop-l.l + 1) _ (omega (arith, c.loop-l-test.true, c.size-l-end.ensures.count))
    (all_next load c.loop-l.l c.loop-l.invariant ∙ sym c.load_row.ensures ∙ c.in_err-load_row.was))
