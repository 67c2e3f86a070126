use Rattle.report.proofs.OfCase.{of_their_cases}
use Rattle.report.proofs.laws.decisions_are_of_their_cases.Goals as goal

pub returns : goal.returns
returns c = of_their_cases
