use Rattle.std.proofs.Common.{◌≡◌, map, replicate}
use Rattle.evidence.proofs.rows.zeros.Given as goal

abbrev pub invariant-loop : goal.invariant-loop
invariant-loop g l = map g.F.Number.parts l.row ≡ replicate l.counter g.F.Number.kind.zero
