use Rattle.study_cli.proofs.OneOutcome.{studies_have_one_outcome}
use Rattle.study_cli.proofs.laws.studies_have_one_outcome.Goals as goal

pub returns : goal.returns
returns c = studies_have_one_outcome
