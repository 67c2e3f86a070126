use Rattle.field_core.specs.NumberField.{number_field}
use Rattle.textbook.proofs.ExampleWeights.{closed_pair}
use Rattle.textbook.proofs.examples.closed_pair_keeps_its_weight.Goals as goal

pub returns : goal.returns
unfolding number_field
returns c = closed_pair number_field
