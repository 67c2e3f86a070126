use Rattle.std.proofs.Common.{sym}
use Rattle.removal.specs.Laws.Sound.{removed_sound}
use Rattle.eps_quotient.specs.Quotients.{quotients}
use Rattle.row_removal.specs.RowNetView.{present_rows}
use Rattle.row_removal.specs.Laws.RowsExact.{rows_remove_exactly}
use Rattle.row_removal.proofs.net.RowNetRemover.prepare.Goals as goal

pub invariant_of-self-2-clause-next_proper : goal.invariant_of-self-2-clause-next_proper
unfolding present_rows
invariant_of-self-2-clause-next_proper c = λ _. rows_remove_exactly.proper _ _ c.args.j c.args.self.now.proper c.requires
    (sym c.in_ok-write_removal.ensures.value)

pub invariant_of-self-2-clause-next_sound : goal.invariant_of-self-2-clause-next_sound
unfolding present_rows
invariant_of-self-2-clause-next_sound c = λ _.
    removed_sound quotients _ _ c.args.j (rows_remove_exactly.removed _ _ c.args.j c.args.self.now.proper c.requires (sym c.in_ok-write_removal.ensures.value))
    c.requires c.args.self.now.sound
