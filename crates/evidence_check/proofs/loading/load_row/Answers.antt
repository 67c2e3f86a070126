use Rattle.std.proofs.Common.{rules, ◌≡◌, ◌∙◌, ◌+◌, sym, length, Err, arith}
use Rattle.case_model.specs.CaseView.{content}
use Rattle.evidence_check.specs.CaseCheck.{edge_load, row_load}
use Rattle.evidence_check.proofs.AllSteps.{all_next, all_refused}
use Rattle.evidence_check.proofs.loading.load_row.Goals as goal

pub returns-in_err-load_edge : goal.returns-in_err-load_edge
unfolding row_load
returns-in_err-load_edge g c =
    let held = content c.args.case.now in
    let load = edge_load g.F.CaseNumber.numbers held c.args.c c.args.l in
    let e : c.from_residual.result ≡ Err c.in_err-load_edge.field-0.0 = search rules in
    e ∙ sym (all_refused load (length held.names) (c.loop-k.k + 1) _ (omega (arith, c.loop-k-test.true, c.size-k-end.ensures.count))
    (all_next load c.loop-k.k c.loop-k.invariant ∙ sym c.load_edge.ensures ∙ c.in_err-load_edge.was))
