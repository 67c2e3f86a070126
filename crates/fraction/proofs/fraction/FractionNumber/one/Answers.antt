use Rattle.fraction.specs.Plain.{one_reduced}
use Rattle.fraction.proofs.fraction.FractionNumber.one.Goals as goal

pub new-requires : goal.new-requires
new-requires c = one_reduced
