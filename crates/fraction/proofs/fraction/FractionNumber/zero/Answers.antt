use Rattle.fraction.specs.Plain.{zero_reduced}
use Rattle.fraction.proofs.fraction.FractionNumber.zero.Goals as goal

pub new-requires : goal.new-requires
new-requires c = zero_reduced
