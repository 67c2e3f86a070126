use Rattle.eps_quotient.specs.Laws.NormAgain.{norm_again}
use Rattle.eps_quotient.proofs.laws.a_stored_quotient_is_its_norm.Goals as goal

pub returns : goal.returns
returns c = norm_again
