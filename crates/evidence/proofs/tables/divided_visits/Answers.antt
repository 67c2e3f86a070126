use Rattle.std.proofs.Common.{rules, ◌≡◌, ◌∙◌, sym, ap, map, set, Ok, Err}
use Rattle.field_core.specs.Kind.{ok_map}
use Rattle.field_core.specs.declared.fault.Fault.TheVariants.{Wide}
use Rattle.evidence.specs.FlowTables.{put_each, new_visit}
use Rattle.evidence.proofs.RowAnswers.{row_is, put_seen}
use Rattle.evidence.proofs.TableAnswers.{moved, moved_two, divided_refused, divided_last_refused, divided_own_refused, divided_done}
use Rattle.evidence.proofs.tables.divided_visits.Goals as goal

pub returns-in_err-put_each : goal.returns-in_err-put_each
returns-in_err-put_each g c =
    let parts = g.R.Value.Number.parts in
    let K = g.R.Value.Number.kind in
    let G = g.R.Remover.graph (g.R.Remover.present c.args.net.now) in
    let e : c.from_residual-in_err-put_each.result ≡ Err (Wide c.in_err-put_each.field-0.0) = search rules in
    rw e (divided_refused K G c.args.j c.args.earlier.now _ _ _ _
    (sym (moved (λ s o k. put_each (new_visit K G c.args.j s o c.args.l (parts c.args.left.now)) c.args.earlier.now k) _ _ _ _ _ _
    (row_is parts c.args.visits.now c.args.j _ c.row-sent.ensures) (row_is parts c.args.visits.now c.args.l _ c.row-own.ensures)
    (ap (map parts) c.in_ok-next.ensures ∙ row_is parts c.args.visits.now c.args.l _ c.row-own.ensures))
    ∙ sym (c.put_each.ensures (new_visit K G c.args.j (map parts c.row-sent.result.now) (map parts c.row-own.result.now) c.args.l (parts c.args.left.now))
    (λ r x p. search rules)) ∙ ap (ok_map _) c.in_err-put_each.was))

pub returns-in_err-new_visit : goal.returns-in_err-new_visit
returns-in_err-new_visit g c =
    let parts = g.R.Value.Number.parts in
    let K = g.R.Value.Number.kind in
    let G = g.R.Remover.graph (g.R.Remover.present c.args.net.now) in
    let e : c.from_residual-in_err-new_visit.result ≡ Err (Wide c.in_err-new_visit.field-0.0) = search rules in
    rw e (divided_last_refused K G c.args.j c.args.earlier.now _ _ _ _
    (sym (moved (λ s o k. put_each (new_visit K G c.args.j s o c.args.l (parts c.args.left.now)) c.args.earlier.now k) _ _ _ _ _ _
    (row_is parts c.args.visits.now c.args.j _ c.row-sent.ensures) (row_is parts c.args.visits.now c.args.l _ c.row-own.ensures)
    (ap (map parts) c.in_ok-next.ensures ∙ row_is parts c.args.visits.now c.args.l _ c.row-own.ensures))
    ∙ sym (c.put_each.ensures (new_visit K G c.args.j (map parts c.row-sent.result.now) (map parts c.row-own.result.now) c.args.l (parts c.args.left.now))
    (λ r x p. search rules)) ∙ ap (ok_map _) c.in_ok-put_each.was)
    _ (sym (moved_two (λ s o. new_visit K G c.args.j s o c.args.l (parts c.args.left.now) c.args.j) _ _ _ _
    (row_is parts c.args.visits.now c.args.j _ c.row-sent.ensures) (row_is parts c.args.visits.now c.args.l _ c.row-own.ensures))
    ∙ sym c.new_visit.ensures ∙ ap (ok_map parts) c.in_err-new_visit.was))

pub returns-in_err-new_visit-2 : goal.returns-in_err-new_visit-2
returns-in_err-new_visit-2 g c =
    let parts = g.R.Value.Number.parts in
    let K = g.R.Value.Number.kind in
    let G = g.R.Remover.graph (g.R.Remover.present c.args.net.now) in
    let e : c.from_residual-in_err-new_visit-2.result ≡ Err (Wide c.in_err-new_visit-2.field-0.0) = search rules in
    rw e (divided_own_refused K G c.args.j c.args.earlier.now _ _ _ _
    (sym (moved (λ s o k. put_each (new_visit K G c.args.j s o c.args.l (parts c.args.left.now)) c.args.earlier.now k) _ _ _ _ _ _
    (row_is parts c.args.visits.now c.args.j _ c.row-sent.ensures) (row_is parts c.args.visits.now c.args.l _ c.row-own.ensures)
    (ap (map parts) c.in_ok-next.ensures ∙ row_is parts c.args.visits.now c.args.l _ c.row-own.ensures))
    ∙ sym (c.put_each.ensures (new_visit K G c.args.j (map parts c.row-sent.result.now) (map parts c.row-own.result.now) c.args.l (parts c.args.left.now))
    (λ r x p. search rules)) ∙ ap (ok_map _) c.in_ok-put_each.was)
    _ (sym (moved_two (λ s o. new_visit K G c.args.j s o c.args.l (parts c.args.left.now) c.args.j) _ _ _ _
    (row_is parts c.args.visits.now c.args.j _ c.row-sent.ensures) (row_is parts c.args.visits.now c.args.l _ c.row-own.ensures))
    ∙ sym c.new_visit.ensures ∙ ap (ok_map parts) c.in_ok-new_visit.was)
    _ (sym (moved_two (λ s o. new_visit K G c.args.j s o c.args.l (parts c.args.left.now) c.args.l) _ _ _ _
    (row_is parts c.args.visits.now c.args.j _ c.row-sent.ensures) (row_is parts c.args.visits.now c.args.l _ c.row-own.ensures))
    ∙ sym c.new_visit-2.ensures ∙ ap (ok_map parts) c.in_err-new_visit-2.was))

pub returns : goal.returns
returns g c =
    let parts = g.R.Value.Number.parts in
    let K = g.R.Value.Number.kind in
    let G = g.R.Remover.graph (g.R.Remover.present c.args.net.now) in
    divided_done K G c.args.j c.args.earlier.now _ _ _ _
    (sym (moved (λ s o k. put_each (new_visit K G c.args.j s o c.args.l (parts c.args.left.now)) c.args.earlier.now k) _ _ _ _ _ _
    (row_is parts c.args.visits.now c.args.j _ c.row-sent.ensures) (row_is parts c.args.visits.now c.args.l _ c.row-own.ensures)
    (ap (map parts) c.in_ok-next.ensures ∙ row_is parts c.args.visits.now c.args.l _ c.row-own.ensures))
    ∙ sym (c.put_each.ensures (new_visit K G c.args.j (map parts c.row-sent.result.now) (map parts c.row-own.result.now) c.args.l (parts c.args.left.now))
    (λ r x p. search rules)) ∙ ap (ok_map _) c.in_ok-put_each.was)
    _ (sym (moved_two (λ s o. new_visit K G c.args.j s o c.args.l (parts c.args.left.now) c.args.j) _ _ _ _
    (row_is parts c.args.visits.now c.args.j _ c.row-sent.ensures) (row_is parts c.args.visits.now c.args.l _ c.row-own.ensures))
    ∙ sym c.new_visit.ensures ∙ ap (ok_map parts) c.in_ok-new_visit.was)
    _ (sym (moved_two (λ s o. new_visit K G c.args.j s o c.args.l (parts c.args.left.now) c.args.l) _ _ _ _
    (row_is parts c.args.visits.now c.args.j _ c.row-sent.ensures) (row_is parts c.args.visits.now c.args.l _ c.row-own.ensures))
    ∙ sym c.new_visit-2.ensures ∙ ap (ok_map parts) c.in_ok-new_visit-2.was)
    ∙ ap Ok (ap (λ xs. set xs c.args.l (parts c.in_ok-new_visit-2.field-0)) (sym (put_seen parts _ _ _) ∙ ap (map parts) (sym c.put.ensures))
    ∙ sym (put_seen parts _ _ _) ∙ ap (map parts) (sym c.put-2.ensures))
