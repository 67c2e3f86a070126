use Rattle.sequential.specs.Choices.{AreKeptBelow}
use Rattle.sequential.specs.TrialView.{trial}
use Rattle.sequential.proofs.decision.kept.Given as goal

abbrev pub invariant-loop-hypothesis : goal.invariant-loop-hypothesis
invariant-loop-hypothesis l = AreKeptBelow l.hypothesis (trial l.current).state l.lines
