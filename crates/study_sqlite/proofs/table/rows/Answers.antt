use Rattle.std.proofs.Common.{[], sym, subst, inl, inr}
use Rattle.sqlite.specs.Held.{state}
use Rattle.sqlite.specs.State.{Shown}
use Rattle.study_sqlite.specs.Statements.{rows_sql, AreRowsRefused, AreRowsCut}
use Rattle.study_sqlite.proofs.Memory.{memory_told, memory_known}
use Rattle.study_sqlite.proofs.Refusals.{told_refused, refused_for}
use Rattle.study_sqlite.proofs.table.rows.Goals as goal

pub returns-in_err-found-clause-why : goal.returns-in_err-found-clause-why
returns-in_err-found-clause-why g c clean =
    told_refused c.from_residual.result c.in_err-found.field-0.0 (AreRowsRefused (state g.S.Store c.args.connection.now) (state g.S.Store c.query_all.new.self))
    c.from_residual.ensures.1 (λ is. inl (c.in_err-found.field-0.0, is, c.in_err-found.ensures.err clean))

pub returns-clause-why : goal.returns-clause-why
returns-clause-why g c clean =
    let shown = subst (Shown rows_sql [] _ _) (sym c.as_slice.ensures.value) (c.in_ok-found.ensures.ok clean) in
    refused_for c.look_rows.result _ (AreRowsRefused (state g.S.Store c.args.connection.now) (state g.S.Store c.query_all.new.self)) c.look_rows.ensures.why
    (λ bad. inr (c.as_slice.result.now, bad.0, shown, bad.1, bad.2))

pub returns-in_err-found-clause-memory : goal.returns-in_err-found-clause-memory
returns-in_err-found-clause-memory g c clean =
    memory_told c.from_residual.result c.in_err-found.field-0.0 (AreRowsCut (state g.S.Store c.args.connection.now) (state g.S.Store c.query_all.new.self))
    c.from_residual.ensures.1 (λ is. inl (c.in_err-found.field-0.0, is, c.in_err-found.ensures.err clean))

pub returns-clause-memory : goal.returns-clause-memory
returns-clause-memory g c clean =
    let shown = subst (Shown rows_sql [] _ _) (sym c.as_slice.ensures.value) (c.in_ok-found.ensures.ok clean) in
    memory_known c.look_rows.result (AreRowsCut (state g.S.Store c.args.connection.now) (state g.S.Store c.query_all.new.self)) (inr (c.as_slice.result.now, shown))
