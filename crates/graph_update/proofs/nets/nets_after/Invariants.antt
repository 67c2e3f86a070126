use Rattle.case_model.specs.CaseView.{content}
use Rattle.entangled.specs.CaseNetView.{case_state}
use Rattle.graph_update.proofs.Runs.{IsReached}
use Rattle.graph_update.proofs.nets.nets_after.Given as goal

-- the nets are those after the removals so far
abbrev pub invariant-loop-i : goal.invariant-loop-i
invariant-loop-i l = IsReached (content l.case) l.removed l.i (case_state l.nets)
