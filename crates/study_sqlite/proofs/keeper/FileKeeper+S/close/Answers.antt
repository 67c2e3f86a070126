use Rattle.study_sqlite.specs.Storing.{storage_of}
use Rattle.study_sqlite.proofs.Looks.{closed_leaves}
use Rattle.study_sqlite.proofs.keeper.FileKeeper+S.close.Goals as goal

pub returns-clause-left : goal.returns-clause-left
returns-clause-left g c = closed_leaves (storage_of c.args.self) c.close.result c.close.ensures.closed
