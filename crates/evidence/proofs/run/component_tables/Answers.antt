use Rattle.std.proofs.Common.{◌∙◌, ◌<◌, sym, ap, ap₂, length, arith}
use Rattle.entangled.specs.BundleView.{bundled}
use Rattle.evidence.specs.FlowTables.{new_tables}
use Rattle.evidence.specs.TablesView.{tables_of}
use Rattle.evidence.proofs.RunAnswers.{live_in_net, net_graph, net_tables, made_in, fault_made_in}
use Rattle.evidence.proofs.run.component_tables.Goals as goal

pub tables_after-requires : goal.tables_after-requires
unfolding bundled
tables_after-requires g c =
    let parts = g.R.Value.Number.parts in
    let K = g.R.Value.Number.kind in
    let b = bundled c.args.bundle.now in
    let p : c.args.c < length b.states = omega (arith, c.requires.count, c.requires.c) in
    live_in_net K g.R.Remover.graph b c.args.bundle.now.whole c.args.c _ c.net-net.ensures p c.args.j c.requires.live

pub returns-in-Ok : goal.returns-in-Ok
unfolding bundled
returns-in-Ok g c =
    let parts = g.R.Value.Number.parts in
    let K = g.R.Value.Number.kind in
    let b = bundled c.args.bundle.now in
    let p : c.args.c < length b.states = omega (arith, c.requires.count, c.requires.c) in
    made_in (tables_of parts) c.args.c c.in-Ok.next _ _
    (ap₂ (λ G t. new_tables K G c.args.j c.args.earlier.now t c.args.is_last c.args.is_kept)
    (sym (net_graph K g.R.Remover.graph b c.args.bundle.now.whole c.args.c _ c.net-net.ensures p))
    (ap (tables_of parts) c.index-tables-c.is ∙ sym (net_tables parts c.args.tables.now c.args.c c.index-tables-c.result c.requires.c)))
    c.in-Ok.ensures

pub returns-in-Err : goal.returns-in-Err
unfolding bundled
returns-in-Err g c =
    let parts = g.R.Value.Number.parts in
    let K = g.R.Value.Number.kind in
    let b = bundled c.args.bundle.now in
    let p : c.args.c < length b.states = omega (arith, c.requires.count, c.requires.c) in
    rw c.in_component.ensures (fault_made_in (tables_of parts) c.args.c c.in-Err.fault _ _
    (ap₂ (λ G t. new_tables K G c.args.j c.args.earlier.now t c.args.is_last c.args.is_kept)
    (sym (net_graph K g.R.Remover.graph b c.args.bundle.now.whole c.args.c _ c.net-net.ensures p))
    (ap (tables_of parts) c.index-tables-c.is ∙ sym (net_tables parts c.args.tables.now c.args.c c.index-tables-c.result c.requires.c)))
    c.in-Err.ensures)
