use Rattle.std.proofs.Common.{rules, ◌≡◌, ◌∙◌, ◌<◌, sym, subst, map, length, Err, arith}
use Rattle.std.proofs.lemmas.List.{length-map}
use Rattle.entangled.specs.BundleView.{bundled}
use Rattle.evidence.specs.TablesView.{tables_of}
use Rattle.evidence.proofs.TableAnswers.{fault_of}
use Rattle.evidence.proofs.RunAnswers.{all_done, all_refused}
use Rattle.evidence.proofs.run.all_tables.Goals as goal

pub returns-in_err-component_tables : goal.returns-in_err-component_tables
returns-in_err-component_tables g c =
    let parts = g.R.Value.Number.parts in
    let K = g.R.Value.Number.kind in
    let graph = g.R.Remover.graph in
    let e : c.from_residual.result ≡ Err c.in_err-component_tables.field-0.0 = search rules in
    rw e (fault_of (tables_of parts) (map (tables_of parts)) c.in_err-component_tables.field-0.0 _ _ c.in_err-component_tables.ensures
    (λ w h. all_refused K (map graph (bundled c.args.bundle.now).states)
    (map (tables_of parts) c.args.tables.now) c.args.earlier.now c.args.j c.args.is_last c.args.is_kept c.loop-c.c _ w
    (subst (λ n. c.loop-c.c < n) (sym (length-map c.args.tables.now (tables_of parts))) (omega (arith, c.loop-c-test.true))) c.loop-c.invariant h))

pub returns : goal.returns
returns g c =
    let parts = g.R.Value.Number.parts in
    let K = g.R.Value.Number.kind in
    let graph = g.R.Remover.graph in
    let e : c.loop-c.c ≡ length c.args.tables.now = omega (arith, c.loop-c.auto.c-end, c.loop-c-test.false) in
    all_done K (map graph (bundled c.args.bundle.now).states)
    (map (tables_of parts) c.args.tables.now) c.args.earlier.now c.args.j c.args.is_last c.args.is_kept c.loop-c.c _
    (e ∙ sym (length-map c.args.tables.now (tables_of parts))) c.loop-c.invariant
