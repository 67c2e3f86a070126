use Rattle.case_model.proofs.ValidContents.{valid_content}
use Rattle.case_model.proofs.laws.entangled_graphs_are_valid.Goals as goal

pub returns : goal.returns
returns c = valid_content
