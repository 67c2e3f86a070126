use Rattle.typed_numbers.proofs.Readable.{readable_doubles}
use Rattle.typed_numbers.proofs.laws.readable_are_from_zero_to_one.Goals as goal

pub returns : goal.returns
returns c = readable_doubles
