use Rattle.entangled.proofs.CaseStart.{case_shares}
use Rattle.entangled.proofs.loading.bundle.Goals as goal

pub try_new-requires-clause-shares : goal.try_new-requires-clause-shares
try_new-requires-clause-shares g c = rw (c.as_slice.ensures, c.in_ok-shares.ensures) (case_shares c.args.case.now)
