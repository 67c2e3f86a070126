use Rattle.case_model.proofs.ClosedTestLaws.{legal_rejected, rejected_listed, complete_decides, complete_agree}
use Rattle.case_model.proofs.laws.complete_orders_decide.Goals as goal

pub returns-clause-legal : goal.returns-clause-legal
returns-clause-legal c = λ E p level js j V unit o. legal_rejected E p level V unit.low js o j

pub returns-clause-complete : goal.returns-clause-complete
returns-clause-complete c = λ E p level js j complete. rejected_listed E p level js complete j

pub returns-clause-decide : goal.returns-clause-decide
returns-clause-decide c = λ E p level js j V unit o complete. complete_decides E p level V unit.low js o complete j

pub returns-clause-agree : goal.returns-clause-agree
returns-clause-agree c = λ E p level js ks j V unit o complete q other. complete_agree E p level V unit.low js ks o complete q other j
