use Rattle.answers_exist.proofs.Studies.{studies_have_an_outcome}
use Rattle.answers_exist.proofs.laws.studies_have_an_outcome.Goals as goal

pub returns : goal.returns
returns c = studies_have_an_outcome
