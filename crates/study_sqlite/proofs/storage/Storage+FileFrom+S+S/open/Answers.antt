use Rattle.std.proofs.Common.{subst}
use Rattle.sqlite.specs.WalFiles.{image_at}
use Rattle.study_sqlite.specs.declared.storage.Storage.TheVariants.{Opened}
use Rattle.study_sqlite.specs.Storing.{IsOpenedFrom}
use Rattle.study_sqlite.proofs.storage.Storage+FileFrom+S+S.open.Goals as goal

pub returns-in_ok-connection-in-Unopened-clause-opened : goal.returns-in_ok-connection-in-Unopened-clause-opened
returns-in_ok-connection-in-Unopened-clause-opened g c =
    subst (λ before. IsOpenedFrom (image_at g.S.Start) before (Opened c.in_ok-connection-in-Unopened.connection)) c.in-Unopened.ensures.value
    (c.in_ok-connection-in-Unopened.ensures.opened, c.in_ok-connection-in-Unopened.ensures.found)
