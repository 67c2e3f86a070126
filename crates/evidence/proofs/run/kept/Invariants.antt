use Rattle.std.proofs.Common.{◌≡◌, map, take}
use Rattle.evidence.proofs.RunAnswers.{exits_at}
use Rattle.evidence.proofs.run.kept.Given as goal

abbrev pub invariant-loop-table : goal.invariant-loop-table
invariant-loop-table g l = map (map g.F.Number.parts) l.exits ≡ map (exits_at g.F.Number.kind g.F.Number.parts l.steps l.k) (take l.table-index l.tables)
