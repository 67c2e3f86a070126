use Rattle.field_core.specs.NumberField.{number_field}
use Rattle.textbook.proofs.ExampleWeights.{arrow}
use Rattle.textbook.proofs.examples.arrow_passes_its_part.Goals as goal

pub returns : goal.returns
unfolding number_field
returns c = arrow number_field
