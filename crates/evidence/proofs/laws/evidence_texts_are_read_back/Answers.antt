use Rattle.evidence.proofs.EvidenceSaid.{text_says_it, no_other, no_fault, told_apart}
use Rattle.evidence.proofs.laws.evidence_texts_are_read_back.Goals as goal

pub returns-clause-says : goal.returns-clause-says
returns-clause-says c = text_says_it

pub returns-clause-no_other : goal.returns-clause-no_other
returns-clause-no_other c = no_other

pub returns-clause-no_fault : goal.returns-clause-no_fault
returns-clause-no_fault c = no_fault

pub returns-clause-apart : goal.returns-clause-apart
returns-clause-apart c = told_apart
