use Rattle.report.proofs.LooksOfCase.{looks_of_their_cases}
use Rattle.report.proofs.laws.looks_are_of_their_cases.Goals as goal

pub returns : goal.returns
returns c = looks_of_their_cases
