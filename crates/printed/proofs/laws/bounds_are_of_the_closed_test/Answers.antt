use Rattle.printed.proofs.BoundsPrinted.{bounds_of_test}
use Rattle.printed.proofs.laws.bounds_are_of_the_closed_test.Goals as goal

pub returns : goal.returns
returns c = bounds_of_test
