use Rattle.case_model.proofs.OtherLevels.{valid_at}
use Rattle.case_model.proofs.laws.adjusted.cases_are_valid_at_each_level.Goals as goal

pub returns : goal.returns
returns c = valid_at
