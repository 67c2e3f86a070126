use Rattle.evidence_check.proofs.DocumentEnds.{faults_end_documents, none_is_fault}
use Rattle.evidence_check.proofs.laws.first_faults_end_documents.Goals as goal

pub returns-clause-there : goal.returns-clause-there
returns-clause-there c = faults_end_documents

pub returns-clause-line : goal.returns-clause-line
returns-clause-line c = none_is_fault
