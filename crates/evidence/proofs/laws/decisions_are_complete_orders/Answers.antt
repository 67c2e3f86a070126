use Rattle.evidence.proofs.MakeAnswers.{decision_order}
use Rattle.evidence.proofs.laws.decisions_are_complete_orders.Goals as goal

pub returns : goal.returns
returns c = λ k priority d V D. decision_order k priority d V D
