use Rattle.adjusted_p.proofs.ListLaws.{values_decide}
use Rattle.adjusted_p.proofs.laws.adjusted_values_decide_cases.Goals as goal

pub returns : goal.returns
returns c = values_decide
