use Rattle.staged_levels.proofs.Settlings.{settling_unique}
use Rattle.staged_levels.proofs.laws.settlings_are_unique.Goals as goal

pub returns : goal.returns
returns c = settling_unique
