use Rattle.case_model.proofs.ClosedTestLaws.{rejected_below}
use Rattle.case_model.proofs.laws.rejections_stay_at_lesser_p_values.Goals as goal

pub returns : goal.returns
returns c = λ E p lesser level j below. rejected_below E p lesser level below j
