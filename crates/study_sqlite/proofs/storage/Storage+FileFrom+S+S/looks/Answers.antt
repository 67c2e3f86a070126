use Rattle.std.proofs.Common.{refl, subst, inr}
use Rattle.sqlite.specs.WalFiles.{image_at}
use Rattle.study_sqlite.specs.declared.storage.Storage.TheVariants.{Opened}
use Rattle.study_sqlite.specs.Storing.{IsOpenedFrom, AreLoaded, IsLoadRefused, IsLoadCut}
use Rattle.study_sqlite.proofs.Faults.{gives_under}
use Rattle.study_sqlite.proofs.Memory.{memory_under}
use Rattle.study_sqlite.proofs.Refusals.{refused_under}
use Rattle.study_sqlite.proofs.storage.Storage+FileFrom+S+S.looks.Goals as goal

pub returns-clause-loaded : goal.returns-clause-loaded
returns-clause-loaded g c =
    let opened = subst (IsOpenedFrom (image_at g.S.Start) c.args.self.now) c.in-Opened.is c.in_ok-open.ensures.opened in
    gives_under c.looks_in.result _ _ (AreLoaded (image_at g.S.Start) c.args.self.now (Opened c.looks_in.new.connection)) c.looks_in.ensures.kept
    (λ looks kept. (c.in-Opened.connection, c.looks_in.new.connection, opened, refl, c.looks_in.ensures.clean, kept))

pub returns-clause-why : goal.returns-clause-why
returns-clause-why g c =
    let opened = subst (IsOpenedFrom (image_at g.S.Start) c.args.self.now) c.in-Opened.is c.in_ok-open.ensures.opened in
    refused_under c.looks_in.result _ _ (IsLoadRefused (image_at g.S.Start) c.args.self.now (Opened c.looks_in.new.connection)) c.looks_in.ensures.why
    (λ why. inr (c.in-Opened.connection, c.looks_in.new.connection, opened, refl, c.looks_in.ensures.clean, why))

pub returns-clause-memory : goal.returns-clause-memory
returns-clause-memory g c =
    let opened = subst (IsOpenedFrom (image_at g.S.Start) c.args.self.now) c.in-Opened.is c.in_ok-open.ensures.opened in
    memory_under c.looks_in.result _ _ (IsLoadCut (image_at g.S.Start) c.args.self.now (Opened c.looks_in.new.connection)) c.looks_in.ensures.memory
    (λ cut. inr (c.in-Opened.connection, c.looks_in.new.connection, opened, refl, c.looks_in.ensures.clean, cut))
