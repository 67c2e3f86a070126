use Rattle.std.proofs.Common.{rules, ◌≡◌, ◌∙◌, sym, ap, map, Ok, Err}
use Rattle.field_core.specs.Kind.{ok_map}
use Rattle.field_core.specs.declared.fault.Fault.TheVariants.{Wide}
use Rattle.evidence.specs.FlowTables.{put_each, new_flow}
use Rattle.evidence.proofs.RowAnswers.{row_is, put_seen}
use Rattle.evidence.proofs.TableAnswers.{moved, moved_two, flows_refused, flows_last_refused, flows_done}
use Rattle.evidence.proofs.tables.new_flows.Goals as goal

pub returns-in_err-put_each : goal.returns-in_err-put_each
returns-in_err-put_each g c =
    let parts = g.R.Value.Number.parts in
    let K = g.R.Value.Number.kind in
    let G = g.R.Remover.graph (g.R.Remover.present c.args.net.now) in
    let e : c.from_residual-in_err-put_each.result ≡ Err (Wide c.in_err-put_each.field-0.0) = search rules in
    rw e (flows_refused K G c.args.j c.args.earlier.now _ _ _
    (sym (moved (λ s o k. put_each (new_flow K G c.args.j s o) c.args.earlier.now k) _ _ _ _ _ _
    (row_is parts c.args.tables.now.visits c.args.j _ c.row-sent.ensures) (ap (map parts) c.as_slice-old.ensures)
    (ap (map parts) (c.in_ok-flows.ensures ∙ c.as_slice-old.ensures)))
    ∙ sym (c.put_each.ensures (new_flow K G c.args.j (map parts c.row-sent.result.now) (map parts c.as_slice-old.result.now)) (λ r x p. search rules))
    ∙ ap (ok_map _) c.in_err-put_each.was))

pub returns-in_err-new_flow : goal.returns-in_err-new_flow
returns-in_err-new_flow g c =
    let parts = g.R.Value.Number.parts in
    let K = g.R.Value.Number.kind in
    let G = g.R.Remover.graph (g.R.Remover.present c.args.net.now) in
    let e : c.from_residual-in_err-new_flow.result ≡ Err (Wide c.in_err-new_flow.field-0.0) = search rules in
    rw e (flows_last_refused K G c.args.j c.args.earlier.now _ _ _
    (sym (moved (λ s o k. put_each (new_flow K G c.args.j s o) c.args.earlier.now k) _ _ _ _ _ _
    (row_is parts c.args.tables.now.visits c.args.j _ c.row-sent.ensures) (ap (map parts) c.as_slice-old.ensures)
    (ap (map parts) (c.in_ok-flows.ensures ∙ c.as_slice-old.ensures)))
    ∙ sym (c.put_each.ensures (new_flow K G c.args.j (map parts c.row-sent.result.now) (map parts c.as_slice-old.result.now)) (λ r x p. search rules))
    ∙ ap (ok_map _) c.in_ok-put_each.was)
    _ (sym (moved_two (λ s o. new_flow K G c.args.j s o c.args.j) _ _ _ _ (row_is parts c.args.tables.now.visits c.args.j _ c.row-sent.ensures)
    (ap (map parts) c.as_slice-old.ensures)) ∙ sym c.new_flow.ensures ∙ ap (ok_map parts) c.in_err-new_flow.was))

pub returns : goal.returns
returns g c =
    let parts = g.R.Value.Number.parts in
    let K = g.R.Value.Number.kind in
    let G = g.R.Remover.graph (g.R.Remover.present c.args.net.now) in
    flows_done K G c.args.j c.args.earlier.now _ _ _
    (sym (moved (λ s o k. put_each (new_flow K G c.args.j s o) c.args.earlier.now k) _ _ _ _ _ _
    (row_is parts c.args.tables.now.visits c.args.j _ c.row-sent.ensures) (ap (map parts) c.as_slice-old.ensures)
    (ap (map parts) (c.in_ok-flows.ensures ∙ c.as_slice-old.ensures)))
    ∙ sym (c.put_each.ensures (new_flow K G c.args.j (map parts c.row-sent.result.now) (map parts c.as_slice-old.result.now)) (λ r x p. search rules))
    ∙ ap (ok_map _) c.in_ok-put_each.was)
    _ (sym (moved_two (λ s o. new_flow K G c.args.j s o c.args.j) _ _ _ _ (row_is parts c.args.tables.now.visits c.args.j _ c.row-sent.ensures)
    (ap (map parts) c.as_slice-old.ensures)) ∙ sym c.new_flow.ensures ∙ ap (ok_map parts) c.in_ok-new_flow.was)
    ∙ ap Ok (sym (put_seen parts _ _ _) ∙ ap (map parts) (sym c.put.ensures))
