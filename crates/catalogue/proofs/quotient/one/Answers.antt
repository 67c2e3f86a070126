use Rattle.catalogue.proofs.RatiosOf.{one_of}
use Rattle.catalogue.proofs.quotient.one.Goals as goal

pub returns : goal.returns
returns c = one_of c.one.result c.one.ensures
