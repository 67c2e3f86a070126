use Rattle.std.proofs.Common.{◌≡◌, map, take}
use Rattle.evidence_check.specs.EvidenceView.{keep_parts}
use Rattle.evidence.specs.FlowRun.{kept_exits}
use Rattle.evidence.specs.TablesView.{tables_of}
use Rattle.evidence.proofs.run.keeps.Given as goal

abbrev pub invariant-loop-k : goal.invariant-loop-k
invariant-loop-k g l = map (keep_parts g.F.Number.parts) l.keeps ≡ map (kept_exits g.F.Number.kind (map (tables_of g.F.Number.parts) l.tables) l.steps)
    (take l.k-index l.others)
