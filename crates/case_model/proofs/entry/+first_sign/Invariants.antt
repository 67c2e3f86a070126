use Rattle.std.proofs.Common.{length}
use Rattle.case_model.proofs.entry.+first_sign.Given as goal

abbrev pub decreases-first_sign : goal.decreases-first_sign
decreases-first_sign l = length l.fractions.now
