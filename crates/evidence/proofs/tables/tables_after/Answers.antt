use Rattle.std.proofs.Common.{rules, ◌≡◌, map, Err}
use Rattle.evidence.specs.TablesView.{tables_of}
use Rattle.evidence.proofs.TableAnswers.{fault_of, tables_first, tables_second, tables_third, tables_done}
use Rattle.evidence.proofs.tables.tables_after.Goals as goal

pub returns-in_err-flows : goal.returns-in_err-flows
returns-in_err-flows g c =
    let K = g.R.Value.Number.kind in
    let G = g.R.Remover.graph (g.R.Remover.present c.args.net.now) in
    let t = tables_of g.R.Value.Number.parts c.args.tables.now in
    let e : c.from_residual.result ≡ Err c.in_err-flows.field-0.0 = search rules in
    rw e (fault_of (map g.R.Value.Number.parts) (tables_of g.R.Value.Number.parts) c.in_err-flows.field-0.0 _ _ c.in_err-flows.ensures
    (tables_first K G c.args.j c.args.earlier.now t c.args.is_last c.args.is_kept))

pub returns-in_err-visits : goal.returns-in_err-visits
returns-in_err-visits g c =
    let K = g.R.Value.Number.kind in
    let G = g.R.Remover.graph (g.R.Remover.present c.args.net.now) in
    let t = tables_of g.R.Value.Number.parts c.args.tables.now in
    let e : c.from_residual-in_err-visits.result ≡ Err c.in_err-visits.field-0.0 = search rules in
    rw e (fault_of (map (map g.R.Value.Number.parts)) (tables_of g.R.Value.Number.parts) c.in_err-visits.field-0.0 _ _ c.in_err-visits.ensures
    (tables_second K G c.args.j c.args.earlier.now t c.args.is_last c.args.is_kept _ c.in_ok-flows.ensures))

pub returns-in_err-exits : goal.returns-in_err-exits
returns-in_err-exits g c =
    let K = g.R.Value.Number.kind in
    let G = g.R.Remover.graph (g.R.Remover.present c.args.net.now) in
    let t = tables_of g.R.Value.Number.parts c.args.tables.now in
    let e : c.from_residual-in_err-exits.result ≡ Err c.in_err-exits.field-0.0 = search rules in
    rw e (fault_of (map (map g.R.Value.Number.parts)) (tables_of g.R.Value.Number.parts) c.in_err-exits.field-0.0 _ _ c.in_err-exits.ensures
    (tables_third K G c.args.j c.args.earlier.now t c.args.is_last c.args.is_kept _ c.in_ok-flows.ensures _ c.in_ok-visits.ensures))

pub returns : goal.returns
returns g c =
    let K = g.R.Value.Number.kind in
    let G = g.R.Remover.graph (g.R.Remover.present c.args.net.now) in
    let t = tables_of g.R.Value.Number.parts c.args.tables.now in
    tables_done K G c.args.j c.args.earlier.now t c.args.is_last c.args.is_kept _ c.in_ok-flows.ensures _ c.in_ok-visits.ensures _ c.in_ok-exits.ensures
