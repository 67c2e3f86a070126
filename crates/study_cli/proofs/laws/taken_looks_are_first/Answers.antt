use Rattle.study_cli.proofs.KeptLooks.{taken_looks_are_first}
use Rattle.study_cli.proofs.laws.taken_looks_are_first.Goals as goal

pub returns : goal.returns
returns c = taken_looks_are_first
