use Rattle.std.proofs.Common.{rules, ◌≡◌, ◌∙◌, sym, ap, map, set, Ok, Err}
use Rattle.field_core.specs.Kind.{ok_map}
use Rattle.field_core.specs.declared.fault.Fault.TheVariants.{Wide}
use Rattle.evidence.specs.FlowTables.{put_each, new_exit}
use Rattle.evidence.proofs.RowAnswers.{row_is, put_seen}
use Rattle.evidence.proofs.TableAnswers.{moved, exits_refused, exits_done}
use Rattle.evidence.proofs.tables.new_exits.Goals as goal

pub returns-in_err-put_each : goal.returns-in_err-put_each
returns-in_err-put_each g c =
    let parts = g.R.Value.Number.parts in
    let K = g.R.Value.Number.kind in
    let G = g.R.Remover.graph (g.R.Remover.present c.args.net.now) in
    let e : c.from_residual-in_err-put_each.result ≡ Err (Wide c.in_err-put_each.field-0.0) = search rules in
    rw e (exits_refused K G c.args.j c.args.earlier.now _ _ (sym c.is_gone.ensures ∙ c.if-is_gone.false) _
    (sym (moved (λ s o k. put_each (new_exit K G c.args.j s o c.args.k) c.args.earlier.now k) _ _ _ _ _ _
    (row_is parts c.args.exits.now c.args.j _ c.row-removed.ensures) (row_is parts c.args.exits.now c.args.k _ c.row-own.ensures)
    (ap (map parts) c.in_ok-next.ensures ∙ row_is parts c.args.exits.now c.args.k _ c.row-own.ensures))
    ∙ sym (c.put_each.ensures (new_exit K G c.args.j (map parts c.row-removed.result.now) (map parts c.row-own.result.now) c.args.k) (λ r x p. search rules))
    ∙ ap (ok_map _) c.in_err-put_each.was))

pub returns : goal.returns
returns g c =
    let parts = g.R.Value.Number.parts in
    let K = g.R.Value.Number.kind in
    let G = g.R.Remover.graph (g.R.Remover.present c.args.net.now) in
    exits_done K G c.args.j c.args.earlier.now _ _ (sym c.is_gone.ensures ∙ c.if-is_gone.false) _
    (sym (moved (λ s o k. put_each (new_exit K G c.args.j s o c.args.k) c.args.earlier.now k) _ _ _ _ _ _
    (row_is parts c.args.exits.now c.args.j _ c.row-removed.ensures) (row_is parts c.args.exits.now c.args.k _ c.row-own.ensures)
    (ap (map parts) c.in_ok-next.ensures ∙ row_is parts c.args.exits.now c.args.k _ c.row-own.ensures))
    ∙ sym (c.put_each.ensures (new_exit K G c.args.j (map parts c.row-removed.result.now) (map parts c.row-own.result.now) c.args.k) (λ r x p. search rules))
    ∙ ap (ok_map _) c.in_ok-put_each.was)
    ∙ ap Ok (ap (λ x. set (map parts c.put_each.new.row) c.args.j x) (sym c.edge.ensures) ∙ sym (put_seen parts _ _ _)
    ∙ ap (map parts) (sym c.put.ensures))
