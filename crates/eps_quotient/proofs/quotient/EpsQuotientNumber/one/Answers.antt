use Rattle.eps_quotient.specs.Laws.Exact.{one_stored}
use Rattle.eps_quotient.proofs.Stored.{stored_same}
use Rattle.eps_quotient.proofs.quotient.EpsQuotientNumber.one.Goals as goal

pub invariant_of-result : goal.invariant_of-result
invariant_of-result c = record { stored = stored_same _ _ c.one.ensures one_stored }
