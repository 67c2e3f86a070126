use Rattle.case_model.specs.ClosedTest.{IsClosedRejected}
use Rattle.case_model.specs.SetAnswers.{SaysYes}
use Rattle.case_model.proofs.Bounds.{one_bound, table_bound_exists, answered_bound}
use Rattle.case_model.proofs.ClosedTestLaws.{closed_same}
use Rattle.case_model.proofs.laws.bounds.bounds_exist.Goals as goal

pub returns-clause-exist : goal.returns-clause-exist
returns-clause-exist c = table_bound_exists

pub returns-clause-unique : goal.returns-clause-unique
returns-clause-unique c = (λ m table. one_bound m (SaysYes m table), λ E p level. one_bound E.hypotheses (IsClosedRejected E p level))

pub returns-clause-closed : goal.returns-clause-closed
returns-clause-closed c = λ E p level table S b answers. answered_bound E.hypotheses table (IsClosedRejected E p level) (closed_same E p level) answers S b
