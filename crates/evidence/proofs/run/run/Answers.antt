use Rattle.std.proofs.Common.{rules, ◌≡◌, ◌∙◌, ◌<◌, ◌+◌, ◌==◌, refl, sym, ap, ap₂, map, take, get_or, length, Err, arith}
use Rattle.std.proofs.lemmas.List.{length-map, length-replicate, map_push}
use Rattle.entangled.specs.BundleView.{bundled}
use Rattle.evidence_check.specs.EvidenceView.{step_parts}
use Rattle.evidence.specs.FlowRun.{RunState, recorded, flow_step, opening_state}
use Rattle.evidence.specs.declared.run.FinishedRun.{FinishedRun}
use Rattle.evidence.specs.TablesView.{tables_of}
use Rattle.evidence.proofs.RunAnswers.{all_fault}
use Rattle.evidence.proofs.RunSteps.{rest_from, step_done, step_refused, run_done, run_starts}
use Rattle.evidence.proofs.RunLive.{reached_first, live_there, as_many, reached_next, tables_stay}
use Rattle.evidence.proofs.run.run.Goals as goal

pub loop-s-init : goal.loop-s-init
loop-s-init g c =
    let parts = g.R.Value.Number.parts in
    let K = g.R.Value.Number.kind in
    let graph = g.R.Remover.graph in
    let removal = g.R.Remover.removal in
    let b0 = bundled c.args.bundle.now in
    let js = c.args.hypotheses.now in
    record {
      told =
          ap₂ (λ xs ts. rest_from K graph removal c.args.is_kept js 0 (map (step_parts parts) xs) (record { bundle = b0; tables = ts })) c.new-steps.ensures
          c.in_ok-tables.ensures
          ∙ run_starts K graph removal c.args.is_kept js (opening_state K graph b0);
      count = sym (length-map c.in_ok-tables.tables (tables_of parts)) ∙ ap length c.in_ok-tables.ensures ∙ length-replicate _ _;
      reached = λ _. reached_first K g.R.Value.Number.IsStored g.met.R.Value.Number.exact graph g.R.Remover.IsProper removal g.met.R.Remover.exact b0
          c.requires.opened js;
    }

pub step-requires-clause-live : goal.step-requires-clause-live
step-requires-clause-live g c =
    let parts = g.R.Value.Number.parts in
    let K = g.R.Value.Number.kind in
    let graph = g.R.Remover.graph in
    let removal = g.R.Remover.removal in
    let b0 = bundled c.args.bundle.now in
    let js = c.args.hypotheses.now in
    let n = c.loop-s.s in
    let p : n < length js = omega (arith, c.loop-s-test.true) in
    live_there K g.R.Value.Number.IsStored g.met.R.Value.Number.exact graph g.R.Remover.IsProper removal g.met.R.Remover.exact b0 c.requires.opened js
    c.requires.order n p (bundled c.loop-s.bundle) (c.loop-s.invariant.reached p)

pub step-requires-clause-count : goal.step-requires-clause-count
step-requires-clause-count g c =
    let parts = g.R.Value.Number.parts in
    let K = g.R.Value.Number.kind in
    let graph = g.R.Remover.graph in
    let removal = g.R.Remover.removal in
    let b0 = bundled c.args.bundle.now in
    let js = c.args.hypotheses.now in
    let n = c.loop-s.s in
    let p : n < length js = omega (arith, c.loop-s-test.true) in
    ap length c.as_slice-in-loop-s.ensures ∙ c.loop-s.invariant.count
    ∙ sym (as_many K g.R.Value.Number.IsStored g.met.R.Value.Number.exact graph g.R.Remover.IsProper removal g.met.R.Remover.exact b0 c.requires.opened js
    c.requires.order n p (bundled c.loop-s.bundle) (c.loop-s.invariant.reached p))

pub returns-in_err-tables-2 : goal.returns-in_err-tables-2
returns-in_err-tables-2 g c =
    let parts = g.R.Value.Number.parts in
    let K = g.R.Value.Number.kind in
    let graph = g.R.Remover.graph in
    let removal = g.R.Remover.removal in
    let b0 = bundled c.args.bundle.now in
    let js = c.args.hypotheses.now in
    let n = c.loop-s.s in
    let p : n < length js = omega (arith, c.loop-s-test.true) in
    let e : c.from_residual-in_err-tables-2.result ≡ Err c.in_err-tables-2.field-0.0 = search rules in
    rw e (all_fault (λ next. record { bundle = bundled c.loop-s.bundle; tables = map (tables_of parts) next })
    (λ (r : FinishedRun g.row.R-Value.Denot). record { steps = map (step_parts parts) r.steps; tables = map (tables_of parts) r.tables })
    c.in_err-tables-2.field-0.0 _ _ c.in_err-tables-2.ensures
    (λ w h. sym c.loop-s.invariant.told ∙ step_refused K graph removal c.args.is_kept js n p _
    (record { bundle = bundled c.loop-s.bundle; tables = map (tables_of parts) c.loop-s.tables }) (n + 1 == length js) refl w
    (ap (λ ts. flow_step K graph removal c.args.is_kept (take n js) (get_or js n 0) (n + 1 == length js)
    (record { bundle = bundled c.loop-s.bundle; tables = map (tables_of parts) ts })) (sym c.as_slice-in-loop-s.ensures) ∙ h)))

pub loop-s-preserved : goal.loop-s-preserved
loop-s-preserved g c =
    let parts = g.R.Value.Number.parts in
    let K = g.R.Value.Number.kind in
    let graph = g.R.Remover.graph in
    let removal = g.R.Remover.removal in
    let b0 = bundled c.args.bundle.now in
    let js = c.args.hypotheses.now in
    let n = c.loop-s.s in
    let p : n < length js = omega (arith, c.loop-s-test.true) in
    let s : RunState g.R.Remover.State = (record { bundle = bundled c.loop-s.bundle; tables = map (tables_of parts) c.loop-s.tables }) in
    let t : RunState g.R.Remover.State = record { bundle = bundled c.step.new.bundle; tables = map (tables_of parts) c.in_ok-tables-2.tables } in
    let h = ap (λ ts. flow_step K graph removal c.args.is_kept (take n js) (get_or js n 0) (n + 1 == length js)
    (record { bundle = bundled c.loop-s.bundle; tables = map (tables_of parts) ts })) (sym c.as_slice-in-loop-s.ensures) ∙ c.in_ok-tables-2.ensures in
    record {
      told =
          ap (λ ys. rest_from K graph removal c.args.is_kept js (n + 1) ys t)
          (ap (map (step_parts parts)) c.in_ok-push.ensures.pushed ∙ map_push (step_parts parts) _ _)
          ∙ sym (step_done K graph removal c.args.is_kept js n p _ s (n + 1 == length js) refl _ t
          (c.in_ok-recorded.ensures ∙ ap (λ ts. recorded K (map (tables_of parts) ts) (take n js) (get_or js n 0)) c.as_slice.ensures) h)
          ∙ c.loop-s.invariant.told;
      count =
          sym (length-map c.in_ok-tables-2.tables (tables_of parts))
          ∙ tables_stay K g.R.Value.Number.IsStored g.met.R.Value.Number.exact graph g.R.Remover.IsProper removal g.met.R.Remover.exact b0
          c.requires.opened js c.args.is_kept (n + 1 == length js) (take n js) (get_or js n 0) s t h
          ∙ length-map c.loop-s.tables (tables_of parts) ∙ c.loop-s.invariant.count;
      reached = λ q. reached_next K g.R.Value.Number.IsStored g.met.R.Value.Number.exact graph g.R.Remover.IsProper removal g.met.R.Remover.exact b0
          c.requires.opened js c.requires.order n p (bundled c.loop-s.bundle) (c.loop-s.invariant.reached p) c.args.is_kept
          (n + 1 == length js) refl s t refl h q;
    }

pub returns : goal.returns
returns g c =
    let parts = g.R.Value.Number.parts in
    let K = g.R.Value.Number.kind in
    let graph = g.R.Remover.graph in
    let removal = g.R.Remover.removal in
    let b0 = bundled c.args.bundle.now in
    let js = c.args.hypotheses.now in
    sym c.loop-s.invariant.told ∙ run_done K graph removal c.args.is_kept js c.loop-s.s _ _ (omega (arith, c.loop-s.auto.s-end, c.loop-s-test.false))
