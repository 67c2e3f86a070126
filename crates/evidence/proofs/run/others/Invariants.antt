use Rattle.std.proofs.Common.{◌≡◌}
use Rattle.evidence_check.specs.Evidence.{others}
use Rattle.evidence.proofs.run.others.Given as goal

abbrev pub invariant-loop-k : goal.invariant-loop-k
invariant-loop-k l = l.others ≡ others l.k l.listed
