use Rattle.study_cli.proofs.CommandReads.{commands_of_lines, faults_of_lines, faults_first}
use Rattle.study_cli.proofs.laws.commands_are_read_by_lines.Goals as goal

pub returns-clause-said : goal.returns-clause-said
returns-clause-said c = commands_of_lines

pub returns-clause-fault : goal.returns-clause-fault
returns-clause-fault c = faults_of_lines

pub returns-clause-first : goal.returns-clause-first
returns-clause-first c = faults_first
