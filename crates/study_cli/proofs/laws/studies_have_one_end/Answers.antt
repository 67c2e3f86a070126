use Rattle.study_cli.proofs.OneEnd.{studies_have_one_end}
use Rattle.study_cli.proofs.laws.studies_have_one_end.Goals as goal

pub returns : goal.returns
returns c = studies_have_one_end
