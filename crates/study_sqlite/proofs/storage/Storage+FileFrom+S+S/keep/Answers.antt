use Rattle.std.proofs.Common.{refl, subst, inr}
use Rattle.sqlite.specs.WalFiles.{image_at}
use Rattle.study_sqlite.specs.declared.storage.Storage.TheVariants.{Opened}
use Rattle.study_sqlite.specs.Storing.{IsOpenedFrom, IsAppended, IsAppendRefused, IsAppendCut}
use Rattle.study_sqlite.proofs.Faults.{goes_well_under}
use Rattle.study_sqlite.proofs.Memory.{memory_under}
use Rattle.study_sqlite.proofs.Refusals.{refused_under}
use Rattle.study_sqlite.proofs.storage.Storage+FileFrom+S+S.keep.Goals as goal

pub returns-clause-appended : goal.returns-clause-appended
returns-clause-appended g c =
    let opened = subst (IsOpenedFrom (image_at g.S.Start) c.args.self.now) c.in-Opened.is c.in_ok-open.ensures.opened in
    goes_well_under c.keep_in.result _ _ (IsAppended (image_at g.S.Start) c.args.self.now (Opened c.keep_in.new.connection) c.args.look.now) c.keep_in.ensures.put
    (λ put. (c.in-Opened.connection, c.keep_in.new.connection, opened, refl, c.keep_in.ensures.clean, put))

pub returns-clause-why : goal.returns-clause-why
returns-clause-why g c =
    let opened = subst (IsOpenedFrom (image_at g.S.Start) c.args.self.now) c.in-Opened.is c.in_ok-open.ensures.opened in
    refused_under c.keep_in.result _ _ (IsAppendRefused (image_at g.S.Start) c.args.self.now (Opened c.keep_in.new.connection) c.args.look.now) c.keep_in.ensures.why
    (λ why. inr (c.in-Opened.connection, c.keep_in.new.connection, opened, refl, c.keep_in.ensures.clean, why))

pub returns-clause-memory : goal.returns-clause-memory
returns-clause-memory g c =
    let opened = subst (IsOpenedFrom (image_at g.S.Start) c.args.self.now) c.in-Opened.is c.in_ok-open.ensures.opened in
    memory_under c.keep_in.result _ _ (IsAppendCut (image_at g.S.Start) c.args.self.now (Opened c.keep_in.new.connection) c.args.look.now) c.keep_in.ensures.memory
    (λ cut. inr (c.in-Opened.connection, c.keep_in.new.connection, opened, refl, c.keep_in.ensures.clean, cut))
