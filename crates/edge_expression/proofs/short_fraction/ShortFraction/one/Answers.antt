use Rattle.fraction.specs.Plain.{one_reduced}
use Rattle.edge_expression.proofs.short_fraction.ShortFraction.one.Goals as goal

pub new-requires : goal.new-requires
new-requires c = one_reduced
