use Rattle.graph_update.proofs.CaseEdges.{edges_agree}
use Rattle.graph_update.proofs.laws.edges_agree_in_every_order.Goals as goal

pub returns : goal.returns
returns c = edges_agree
