use Rattle.study_register.proofs.EachEnd.{each_opening_ends}
use Rattle.study_register.proofs.OneEnd.{taken_not_stopped, stops_unique, wide_openings}
use Rattle.study_register.proofs.laws.openings_have_one_end.Goals as goal

pub returns-clause-taken : goal.returns-clause-taken
returns-clause-taken c = taken_not_stopped

pub returns-clause-stopped : goal.returns-clause-stopped
returns-clause-stopped c = stops_unique

pub returns-clause-opening : goal.returns-clause-opening
returns-clause-opening c = wide_openings

pub returns-clause-each : goal.returns-clause-each
returns-clause-each c = each_opening_ends
