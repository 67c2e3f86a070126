use Rattle.case_model.proofs.StagedTests.{settling_exists, settling_unique}
use Rattle.case_model.proofs.laws.staged.settlings_exist.Goals as goal

pub returns-clause-exist : goal.returns-clause-exist
returns-clause-exist c = settling_exists

pub returns-clause-unique : goal.returns-clause-unique
returns-clause-unique c = settling_unique
