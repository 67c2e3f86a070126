use Rattle.field_core.specs.NumberField.{number_field}
use Rattle.textbook.proofs.ExampleWeights.{no_edges}
use Rattle.textbook.proofs.examples.weights_stay_without_edges.Goals as goal

pub returns : goal.returns
returns c = no_edges number_field
