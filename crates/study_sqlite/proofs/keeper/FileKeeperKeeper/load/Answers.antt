use Rattle.std.proofs.Common.{rules}
use Rattle.sqlite.specs.WalFiles.{image_at}
use Rattle.study_sqlite.specs.Storing.{storage_of, IsLoadCut}
use Rattle.study_sqlite.proofs.Looks.{loaded_all}
use Rattle.study_sqlite.proofs.Memory.{known_out, load_cut, shown_at_most}
use Rattle.study_sqlite.proofs.Refusals.{load_counted}
use Rattle.study_sqlite.proofs.keeper.FileKeeperKeeper.load.Goals as goal

pub returns-clause-looks : goal.returns-clause-looks
returns-clause-looks g c = (c.in-Ok.looks, search rules, c.in-Ok.ensures.loaded)

pub returns-in-Err-clause-why : goal.returns-in-Err-clause-why
returns-in-Err-clause-why g c =
    load_counted (image_at g.S.Start) _ _ c.in-Err.fault c.counted.result (storage_of c.args.self.now) c.looks.new.self (storage_of c.counted.new.self)
    c.in-Err.ensures.why c.counted.ensures.counted c.counted.ensures.storage

pub returns-in_err-append-in-Ok-clause-memory : goal.returns-in_err-append-in-Ok-clause-memory
returns-in_err-append-in-Ok-clause-memory g c =
    known_out c.from_residual.result (IsLoadCut (image_at g.S.Start) (storage_of c.args.self.now) c.looks.new.self)
    (shown_at_most (image_at g.S.Start) (storage_of c.args.self.now) c.looks.new.self c.in-Ok.looks c.in-Ok.ensures.loaded)

pub returns-in-Err-clause-memory : goal.returns-in-Err-clause-memory
returns-in-Err-clause-memory g c =
    load_cut (image_at g.S.Start) _ _ c.in-Err.fault c.counted.result (storage_of c.args.self.now) c.looks.new.self (storage_of c.counted.new.self)
    c.in-Err.ensures.memory c.counted.ensures.counted c.counted.ensures.storage

pub returns-clause-all : goal.returns-clause-all
returns-clause-all g c honest looks held =
    let it = loaded_all (image_at g.S.Start) (storage_of c.args.self.now) c.looks.new.self c.in-Ok.looks looks c.in-Ok.ensures.loaded honest held in
    (let e = it.0 in search rules, it.1)
