use Rattle.std.proofs.Common.{rules}
use Rattle.sqlite.specs.Held.{state}
use Rattle.study_sqlite.specs.Statements.{put_sql, values_of, RanInto}
use Rattle.study_sqlite.proofs.Faults.{told}
use Rattle.study_sqlite.proofs.table.put.Goals as goal

pub returns-in_err-put_values-clause-why : goal.returns-in_err-put_values-clause-why
returns-in_err-put_values-clause-why g c clean =
    let ran = c.in_err-put_values.ensures.runs clean in
    told c.from_residual.result c.in_err-put_values.field-0.0
    (RanInto (state g.S.Store c.args.connection.now) (state g.S.Store c.put_values.new.connection) put_sql (values_of c.args.row.now)) c.from_residual.ensures.1
    (λ f is. (c.in_err-put_values.field-0.0, is, search rules))

pub returns-clause-ran : goal.returns-clause-ran
returns-clause-ran g c clean = (c.in_ok-put_values.field-0, search rules)
