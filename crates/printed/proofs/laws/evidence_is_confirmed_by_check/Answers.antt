use Rattle.printed.proofs.EvidenceConfirmed.{evidence_confirmed}
use Rattle.printed.proofs.laws.evidence_is_confirmed_by_check.Goals as goal

pub returns : goal.returns
returns c = evidence_confirmed
