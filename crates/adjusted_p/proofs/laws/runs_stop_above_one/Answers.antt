use Rattle.adjusted_p.proofs.ListLaws.{legal_to_one}
use Rattle.adjusted_p.proofs.laws.runs_stop_above_one.Goals as goal

pub returns : goal.returns
returns c = legal_to_one
