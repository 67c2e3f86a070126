use Rattle.typed_numbers.proofs.Ordered.{keep_order}
use Rattle.typed_numbers.proofs.laws.readings_keep_order.Goals as goal

pub returns : goal.returns
returns c = keep_order
