use Rattle.printed.proofs.CanonAccepted.{canon_accepted}
use Rattle.printed.proofs.laws.canon_is_answered_as_the_case.Goals as goal

pub returns : goal.returns
returns c = canon_accepted
