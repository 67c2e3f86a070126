use Rattle.fraction.specs.Plain.{zero_reduced}
use Rattle.edge_expression.proofs.short_fraction.ShortFraction.zero.Goals as goal

pub new-requires : goal.new-requires
new-requires c = zero_reduced
