use Rattle.edge_text.proofs.TextLaws.{ends_documents, none_goes_on, unfinished_end}
use Rattle.edge_text.proofs.laws.first_faults_end_documents.Goals as goal

pub returns-clause-there : goal.returns-clause-there
returns-clause-there c = ends_documents

pub returns-clause-line : goal.returns-clause-line
returns-clause-line c = none_goes_on

pub returns-clause-end : goal.returns-clause-end
returns-clause-end c = unfinished_end
