use Rattle.std.proofs.Common.{◌∙◌, refl, sym, ap, map}
use Rattle.field_core.specs.Kind.{ok_map}
use Rattle.entangled.specs.BundleView.{bundled}
use Rattle.evidence.specs.TablesView.{tables_of}
use Rattle.evidence.proofs.RunAnswers.{step_fault, step_last, step_removed, step_not_removed}
use Rattle.evidence.proofs.run.step.Goals as goal

pub returns-in-Err : goal.returns-in-Err
returns-in-Err g c =
    let parts = g.R.Value.Number.parts in
    let K = g.R.Value.Number.kind in
    let graph = g.R.Remover.graph in
    rw c.at_step.ensures (step_fault K graph g.R.Remover.removal c.args.is_kept c.args.earlier.now c.args.j c.args.is_last
    (record { bundle = bundled c.args.bundle.now; tables = map (tables_of parts) c.args.tables.now }) (map (tables_of parts))
    (λ next. record { bundle = bundled c.args.bundle.now; tables = map (tables_of parts) next }) c.in-Err.fault _ refl c.in-Err.ensures)

pub returns-then-is_last : goal.returns-then-is_last
returns-then-is_last g c =
    let parts = g.R.Value.Number.parts in
    let K = g.R.Value.Number.kind in
    let graph = g.R.Remover.graph in
    step_last K graph g.R.Remover.removal c.args.is_kept c.args.earlier.now c.args.j c.args.is_last
    (record { bundle = bundled c.args.bundle.now; tables = map (tables_of parts) c.args.tables.now }) _ c.in-Ok.ensures c.if-is_last.true

pub returns-in-Ok-remove : goal.returns-in-Ok-remove
returns-in-Ok-remove g c =
    let parts = g.R.Value.Number.parts in
    let K = g.R.Value.Number.kind in
    let graph = g.R.Remover.graph in
    step_removed K graph g.R.Remover.removal c.args.is_kept c.args.earlier.now c.args.j c.args.is_last
    (record { bundle = bundled c.args.bundle.now; tables = map (tables_of parts) c.args.tables.now }) _ c.in-Ok.ensures c.if-is_last.false _
    (sym c.remove.ensures.value ∙ ap (ok_map _) c.in-Ok-remove.is)

pub returns-in-Err-remove : goal.returns-in-Err-remove
returns-in-Err-remove g c =
    let parts = g.R.Value.Number.parts in
    let K = g.R.Value.Number.kind in
    let graph = g.R.Remover.graph in
    step_not_removed K graph g.R.Remover.removal c.args.is_kept c.args.earlier.now c.args.j c.args.is_last
    (record { bundle = bundled c.args.bundle.now; tables = map (tables_of parts) c.args.tables.now }) _ c.in-Ok.ensures c.if-is_last.false _ refl _
    (sym c.remove.ensures.value ∙ ap (ok_map _) c.in-Err-remove.is)
