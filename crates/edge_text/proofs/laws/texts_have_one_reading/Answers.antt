use Rattle.edge_text.proofs.OneReading.{one_case, one_refusal, fault_or_refusal, no_fault}
use Rattle.edge_text.proofs.laws.texts_have_one_reading.Goals as goal

pub returns-clause-case : goal.returns-clause-case
returns-clause-case c = one_case

pub returns-clause-refusal : goal.returns-clause-refusal
returns-clause-refusal c = one_refusal

pub returns-clause-line : goal.returns-clause-line
returns-clause-line c = fault_or_refusal

pub returns-clause-apart : goal.returns-clause-apart
returns-clause-apart c = no_fault
