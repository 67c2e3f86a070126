use Rattle.case_model.proofs.FallbackOrders.{fallback_decides}
use Rattle.case_model.proofs.SequenceOrders.{sequence_decides}
use Rattle.case_model.proofs.HolmNumbers.{holm_decides}
use Rattle.textbook.proofs.rules.textbook_graphs_decide_as_rules.Goals as goal

pub returns-clause-fallback : goal.returns-clause-fallback
returns-clause-fallback c = λ E w p level j V unit A plain. fallback_decides p level w E V A plain unit.low j

pub returns-clause-sequence : goal.returns-clause-sequence
returns-clause-sequence c = λ E p level j V unit A. sequence_decides p level E V A unit.low j

pub returns-clause-holm : goal.returns-clause-holm
returns-clause-holm c = λ E p level j V unit A. holm_decides p level E V A unit.low j
