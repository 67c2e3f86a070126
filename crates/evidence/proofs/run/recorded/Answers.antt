use Rattle.std.proofs.Common.{map, arith}
use Rattle.entangled.proofs.Pushes.{pushed_all}
use Rattle.evidence.proofs.RunAnswers.{recorded_is, flows_at}
use Rattle.evidence.proofs.run.recorded.Goals as goal

pub returns : goal.returns
returns g c =
    recorded_is g.F.Number.kind g.F.Number.parts c.args.earlier.now c.args.j _ c.args.tables.now
    (pushed_all (map g.F.Number.parts) (flows_at g.F.Number.kind g.F.Number.parts c.args.earlier.now) c.loop-table.flows c.args.tables.now
    c.loop-table.table-index (omega (arith, c.loop-table-test.false)) c.loop-table.invariant)
