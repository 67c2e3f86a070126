use Rattle.graph_update.proofs.PrintedLevels.{says_weights, levels_agree}
use Rattle.graph_update.proofs.laws.printed_levels_are_weights.Goals as goal

pub returns-clause-weights : goal.returns-clause-weights
returns-clause-weights c = says_weights

pub returns-clause-orders : goal.returns-clause-orders
returns-clause-orders c = levels_agree
