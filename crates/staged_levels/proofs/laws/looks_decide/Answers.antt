use Rattle.staged_levels.proofs.LooksDecide.{looks_decide}
use Rattle.staged_levels.proofs.laws.looks_decide.Goals as goal

pub returns : goal.returns
returns c = looks_decide
