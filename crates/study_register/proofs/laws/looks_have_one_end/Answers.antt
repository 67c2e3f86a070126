use Rattle.study_register.proofs.EachEnd.{each_look_ends}
use Rattle.study_register.proofs.OneEnd.{looks_have_one_end}
use Rattle.study_register.proofs.laws.looks_have_one_end.Goals as goal

pub returns-clause-one : goal.returns-clause-one
returns-clause-one c = looks_have_one_end

pub returns-clause-each : goal.returns-clause-each
returns-clause-each c = each_look_ends
