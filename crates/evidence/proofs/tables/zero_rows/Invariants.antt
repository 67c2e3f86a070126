use Rattle.std.proofs.Common.{◌≡◌, map, replicate}
use Rattle.evidence.proofs.tables.zero_rows.Given as goal

abbrev pub invariant-loop : goal.invariant-loop
invariant-loop g l = map (map g.F.Number.parts) l.rows ≡ replicate l.counter (replicate l.size g.F.Number.kind.zero)
