use Rattle.std.proofs.Common.{map, arith}
use Rattle.entangled.proofs.Pushes.{pushed_all}
use Rattle.evidence.proofs.RunAnswers.{kept_is, exits_at}
use Rattle.evidence.proofs.run.kept.Goals as goal

pub returns : goal.returns
returns g c =
    kept_is g.F.Number.kind g.F.Number.parts c.args.steps.now c.args.k _ c.args.tables.now
    (pushed_all (map g.F.Number.parts) (exits_at g.F.Number.kind g.F.Number.parts c.args.steps.now c.args.k) c.loop-table.exits c.args.tables.now
    c.loop-table.table-index (omega (arith, c.loop-table-test.false)) c.loop-table.invariant)
