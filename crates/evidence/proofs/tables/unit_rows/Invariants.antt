use Rattle.std.proofs.Common.{◌≡◌, map, set, replicate}
use Rattle.std.specs.List.{range_with_len}
use Rattle.evidence.proofs.tables.unit_rows.Given as goal

abbrev pub invariant-loop-l : goal.invariant-loop-l
invariant-loop-l g l = map (map g.F.Number.parts) l.rows ≡ map (λ i. set (replicate l.size g.F.Number.kind.zero) i g.F.Number.kind.one)
    (range_with_len 0 l.l)
