use Rattle.std.proofs.Common.{◌≡◌, take}
use Rattle.sequential.specs.Decisions.{hypotheses}
use Rattle.evidence.proofs.maker.hypotheses.Given as goal

abbrev pub invariant-loop-line : goal.invariant-loop-line
invariant-loop-line l = l.hypotheses ≡ hypotheses (take l.line-index l.lines)
