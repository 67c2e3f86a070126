use Rattle.std.proofs.Common.{rules, ◌≡◌, ◌∙◌, ap, ap₂, Err, map, not}
use Rattle.entangled.specs.BundleView.{bundled}
use Rattle.evidence_check.specs.Evidence.{others}
use Rattle.evidence_check.specs.EvidenceView.{step_parts}
use Rattle.evidence.specs.FlowRun.{kept_exits}
use Rattle.evidence.specs.Made.{written_steps}
use Rattle.evidence.specs.TablesView.{tables_of}
use Rattle.evidence.specs.declared.run.FinishedRun.{FinishedRun}
use Rattle.evidence.proofs.RunAnswers.{all_fault, evidence_refused, evidence_done}
use Rattle.evidence.proofs.run.evidence.Goals as goal

pub returns-in_err-steps-clause-made : goal.returns-in_err-steps-clause-made
returns-in_err-steps-clause-made g c =
    let parts = g.R.Value.Number.parts in
    let K = g.R.Value.Number.kind in
    let graph = g.R.Remover.graph in
    let e : c.from_residual-in_err-steps.result ≡ Err c.in_err-steps.field-0.0 = search rules in
    rw e (all_fault (λ (r : FinishedRun g.row.R-Value.Denot). record { steps = map (step_parts parts) r.steps; tables = map (tables_of parts) r.tables })
    (written_steps parts) c.in_err-steps.field-0.0 _ _ c.in_err-steps.ensures
    (λ w h. evidence_refused K graph g.R.Remover.removal (bundled c.args.bundle.now) c.args.hypotheses.now _
    (c.in_ok-others.ensures ∙ ap (λ m. others m c.args.hypotheses.now) c.size.ensures) _ (ap not c.is_empty.ensures) w h))

pub returns-clause-made : goal.returns-clause-made
returns-clause-made g c =
    let parts = g.R.Value.Number.parts in
    let K = g.R.Value.Number.kind in
    let graph = g.R.Remover.graph in
    evidence_done K graph g.R.Remover.removal (bundled c.args.bundle.now) c.args.hypotheses.now _
    (c.in_ok-others.ensures ∙ ap (λ m. others m c.args.hypotheses.now) c.size.ensures) _ (ap not c.is_empty.ensures) _ _ c.in_ok-steps.ensures
    (c.in_ok-keeps.ensures ∙ ap₂ (λ ts ks. map (kept_exits K (map (tables_of parts) ts) c.args.hypotheses.now) ks) c.as_slice.ensures c.as_slice-2.ensures)
