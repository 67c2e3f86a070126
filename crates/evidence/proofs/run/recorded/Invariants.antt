use Rattle.std.proofs.Common.{◌≡◌, map, take}
use Rattle.evidence.proofs.RunAnswers.{flows_at}
use Rattle.evidence.proofs.run.recorded.Given as goal

abbrev pub invariant-loop-table : goal.invariant-loop-table
invariant-loop-table g l = map (map g.F.Number.parts) l.flows ≡ map (flows_at g.F.Number.kind g.F.Number.parts l.earlier) (take l.table-index l.tables)
