use Rattle.textbook.proofs.NeverWide.{fallback_decisions, gatekeeping_decisions}
use Rattle.textbook.proofs.laws.textbook_decisions_are_defined.Goals as goal

pub returns-clause-fallback : goal.returns-clause-fallback
returns-clause-fallback c = fallback_decisions

pub returns-clause-gatekeeping : goal.returns-clause-gatekeeping
returns-clause-gatekeeping c = gatekeeping_decisions
