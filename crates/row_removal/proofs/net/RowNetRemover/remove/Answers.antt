use Rattle.removal.proofs.Ready.{some_ok}
use Rattle.row_removal.specs.RowNetView.{row_net_proper}
use Rattle.row_removal.specs.Laws.RowsExact.{rows_remove_exactly}
use Rattle.row_removal.proofs.net.RowNetRemover.remove.Goals as goal

pub returns-clause-exact : goal.returns-clause-exact
returns-clause-exact c =
    rows_remove_exactly.removed _ _ c.args.j (row_net_proper c.args.self.now) c.requires
    (some_ok _ _ _ c.in_ok-prepare.ensures.prepared c.commit.ensures.present)
