use Rattle.std.proofs.Common.{◌≡◌, take}
use Rattle.staged_levels.proofs.study.copied.Given as goal

abbrev pub invariant-loop-k : goal.invariant-loop-k
invariant-loop-k l = l.spends ≡ take l.k l.stages.spend
