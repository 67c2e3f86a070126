use Rattle.case_model.specs.SetAnswers.{SaysYes}
use Rattle.case_model.proofs.Bounds.{bound_at_most, large_rejected}
use Rattle.case_model.proofs.laws.bounds.bounds_count_true_discoveries.Goals as goal

pub returns : goal.returns
returns c = λ m table S b B. (bound_at_most m (SaysYes m table) S b B, large_rejected m table S b B)
