use Rattle.textbook.proofs.GateOrders.{gatekeeping_decides}
use Rattle.textbook.proofs.laws.gatekeeping_graphs_decide_as_the_rule.Goals as goal

pub returns : goal.returns
returns c E a b p level j V unit A = gatekeeping_decides p level a b E V A unit.low j
