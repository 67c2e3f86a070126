use Rattle.case_model.proofs.ClosedTestLaws.{set_rejected, rejected_each, rejected_by}
use Rattle.case_model.proofs.laws.closed_rejections_are_of_all_supersets.Goals as goal

pub returns-clause-sets : goal.returns-clause-sets
returns-clause-sets c = set_rejected

pub returns-clause-hypotheses : goal.returns-clause-hypotheses
returns-clause-hypotheses c = λ E p level j q. (rejected_each E p level j, rejected_by E p level j q)
