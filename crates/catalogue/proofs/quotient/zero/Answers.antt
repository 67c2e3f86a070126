use Rattle.case_model.proofs.Same.{zero_of}
use Rattle.catalogue.proofs.quotient.zero.Goals as goal

pub returns : goal.returns
returns c = zero_of c.zero.result c.zero.ensures
