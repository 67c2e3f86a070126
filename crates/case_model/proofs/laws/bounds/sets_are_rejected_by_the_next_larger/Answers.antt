use Rattle.case_model.proofs.ClosedTestLaws.{rejected_next}
use Rattle.case_model.proofs.laws.bounds.sets_are_rejected_by_the_next_larger.Goals as goal

pub returns : goal.returns
returns c = rejected_next
