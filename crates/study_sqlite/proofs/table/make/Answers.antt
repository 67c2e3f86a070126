use Rattle.std.proofs.Common.{[]}
use Rattle.sqlite.specs.Held.{state}
use Rattle.study_sqlite.specs.Statements.{make_sql, RanInto}
use Rattle.study_sqlite.proofs.Faults.{told}
use Rattle.study_sqlite.proofs.table.make.Goals as goal

pub returns-in_err-execute-clause-why : goal.returns-in_err-execute-clause-why
returns-in_err-execute-clause-why g c clean =
    told c.from_residual.result c.in_err-execute.field-0.0
    (RanInto (state g.S.Store c.args.connection.now) (state g.S.Store c.execute.new.self) make_sql []) c.from_residual.ensures.1
    (λ f is. (c.in_err-execute.field-0.0, is, c.in_err-execute.ensures.runs clean))

pub returns-clause-made : goal.returns-clause-made
returns-clause-made g c clean = (c.in_ok-execute.field-0, c.in_ok-execute.ensures.runs clean)
