use Rattle.case_model.specs.ClosedTest.{only}
use Rattle.simes_test.proofs.SimesLaws.{local_simes, closed_simes}
use Rattle.simes_test.proofs.laws.simes_rejects_more.Goals as goal

pub returns-clause-local : goal.returns-clause-local
returns-clause-local c = λ E p level I V unit r. local_simes E p level V unit.low I r

pub returns-clause-closed : goal.returns-clause-closed
returns-clause-closed c = λ E p level V unit. (closed_simes E p level V unit.low, λ j r. closed_simes E p level V unit.low (only j) r)
