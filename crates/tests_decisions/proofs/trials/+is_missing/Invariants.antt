use Rattle.std.proofs.Common.{length}
use Rattle.tests_decisions.proofs.trials.+is_missing.Given as goal

abbrev pub decreases-is_missing : goal.decreases-is_missing
decreases-is_missing l = length l.positions.now
