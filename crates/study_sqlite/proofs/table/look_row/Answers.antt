use Rattle.study_sqlite.specs.Statements.{ShowsNoLook}
use Rattle.study_sqlite.proofs.Refusals.{told_refused, not_memory, no_text}
use Rattle.study_sqlite.proofs.table.look_row.Goals as goal

pub returns-in_err-p-clause-why : goal.returns-in_err-p-clause-why
returns-in_err-p-clause-why c =
    told_refused c.from_residual-in_err-p.result c.in_err-p.field-0.0 (ShowsNoLook c.args.row.now) c.from_residual-in_err-p.ensures.1
    (λ is. no_text c.args.row.now (c.in_err-p.ensures.kind (not_memory c.in_err-p.field-0.0 is)))
