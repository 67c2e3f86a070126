use Rattle.study_sqlite.specs.Storing.{IsCloseRefused}
use Rattle.study_sqlite.proofs.Refusals.{on_refusal}
use Rattle.study_sqlite.proofs.table.close.Goals as goal

pub returns-clause-why : goal.returns-clause-why
returns-clause-why g c =
    on_refusal c.from.result c.in-Err.error (IsCloseRefused c.args.connection) c.from.ensures
    (λ is. (c.in-Err.field-0-1, c.in-Err.error, is, c.in-Err.ensures.err.0, c.in-Err.ensures.err.1))
