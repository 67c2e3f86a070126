use Rattle.edge_expression.proofs.OneEntry.{one_entry, one_expr_fault, entry_not_fault, entry_or_fault}
use Rattle.edge_text.proofs.laws.expressions_are_decided.Goals as goal

pub returns-clause-each : goal.returns-clause-each
returns-clause-each c = entry_or_fault

pub returns-clause-entry : goal.returns-clause-entry
returns-clause-entry c = one_entry

pub returns-clause-fault : goal.returns-clause-fault
returns-clause-fault c = one_expr_fault

pub returns-clause-apart : goal.returns-clause-apart
returns-clause-apart c = entry_not_fault
