use Rattle.eps_quotient.specs.Laws.Exact.{zero_stored}
use Rattle.eps_quotient.proofs.Stored.{stored_same}
use Rattle.eps_quotient.proofs.quotient.EpsQuotientNumber.zero.Goals as goal

pub invariant_of-result : goal.invariant_of-result
invariant_of-result c = record { stored = stored_same _ _ c.zero.ensures zero_stored }
