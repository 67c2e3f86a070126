use Rattle.edge_text.proofs.TextLaws.{one_draft}
use Rattle.edge_text.proofs.laws.texts_say_one_draft.Goals as goal

pub returns : goal.returns
returns c = one_draft
