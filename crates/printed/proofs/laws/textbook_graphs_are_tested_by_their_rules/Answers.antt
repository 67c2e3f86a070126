use Rattle.printed.proofs.RulesOfCases.{holm_tested, sequence_tested, fallback_tested, gates_tested}
use Rattle.printed.proofs.laws.textbook_graphs_are_tested_by_their_rules.Goals as goal

pub returns-clause-holm : goal.returns-clause-holm
returns-clause-holm c = holm_tested

pub returns-clause-sequence : goal.returns-clause-sequence
returns-clause-sequence c = sequence_tested

pub returns-clause-fallback : goal.returns-clause-fallback
returns-clause-fallback c = fallback_tested

pub returns-clause-gatekeeping : goal.returns-clause-gatekeeping
returns-clause-gatekeeping c = gates_tested
