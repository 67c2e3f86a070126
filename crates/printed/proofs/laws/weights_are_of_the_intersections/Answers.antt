use Rattle.printed.proofs.WeightsPrinted.{weights_of_intersections}
use Rattle.printed.proofs.laws.weights_are_of_the_intersections.Goals as goal

pub returns : goal.returns
returns c = weights_of_intersections
