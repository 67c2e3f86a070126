use Rattle.case_model.specs.Content.{entangled}
use Rattle.case_model.proofs.ClosedTestLaws.{rejected_below}
use Rattle.sequential.proofs.laws.rejections_stay_where_p_values_fall.Goals as goal

pub returns : goal.returns
unfolding entangled
returns c = λ k ps lesser j below. rejected_below _ _ _ _ below j
