use Rattle.std.proofs.Common.{rules}
use Rattle.sqlite.specs.WalFiles.{image_at}
use Rattle.study_sqlite.specs.Storing.{storage_of}
use Rattle.study_sqlite.proofs.Looks.{appended_one}
use Rattle.study_sqlite.proofs.Memory.{append_cut}
use Rattle.study_sqlite.proofs.Refusals.{append_counted}
use Rattle.study_sqlite.proofs.keeper.FileKeeperKeeper.append.Goals as goal

pub returns-in-Ok-clause-one : goal.returns-in-Ok-clause-one
returns-in-Ok-clause-one g c honest looks held =
    appended_one (image_at g.S.Start) (storage_of c.args.self.now) c.keep.new.self looks c.args.look.now c.in-Ok.ensures.appended honest held

pub returns-in-Err-clause-why : goal.returns-in-Err-clause-why
returns-in-Err-clause-why g c = search (rules, append_counted)

pub returns-in-Err-clause-memory : goal.returns-in-Err-clause-memory
returns-in-Err-clause-memory g c = search (rules, append_cut)
