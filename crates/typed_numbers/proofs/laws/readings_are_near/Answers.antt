use Rattle.typed_numbers.proofs.Near.{near}
use Rattle.typed_numbers.proofs.laws.readings_are_near.Goals as goal

pub returns : goal.returns
returns c = near
