use Rattle.case_model.proofs.ClosedTestLaws.{rejected_at}
use Rattle.case_model.proofs.laws.rejections_stay_at_greater_levels.Goals as goal

pub returns : goal.returns
returns c = λ E p level higher j up. rejected_at E p level higher up j
