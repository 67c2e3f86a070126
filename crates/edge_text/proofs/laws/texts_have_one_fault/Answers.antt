use Rattle.edge_text.proofs.TextLaws.{one_first_fault}
use Rattle.edge_text.proofs.laws.texts_have_one_fault.Goals as goal

pub returns : goal.returns
returns c = one_first_fault
