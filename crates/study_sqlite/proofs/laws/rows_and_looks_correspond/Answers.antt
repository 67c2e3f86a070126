use Rattle.study_sqlite.proofs.RowFacts.{one_look}
use Rattle.study_sqlite.proofs.laws.rows_and_looks_correspond.Goals as goal

pub returns-clause-look : goal.returns-clause-look
returns-clause-look c = one_look
