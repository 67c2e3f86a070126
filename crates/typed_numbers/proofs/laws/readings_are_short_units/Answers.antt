use Rattle.typed_numbers.proofs.Units.{short_units}
use Rattle.typed_numbers.proofs.laws.readings_are_short_units.Goals as goal

pub returns : goal.returns
returns c = short_units
