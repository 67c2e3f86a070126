use Rattle.std.proofs.Common.{◌≡◌, Ok, map}
use Rattle.field_core.specs.Steps.{each_below}
use Rattle.evidence.specs.FlowTables.{new_exits}
use Rattle.evidence.proofs.tables.all_exits.Given as goal

abbrev pub invariant-loop-k : goal.invariant-loop-k
invariant-loop-k g l =
    each_below l.k (new_exits g.R.Value.Number.kind (g.R.Remover.graph (g.R.Remover.present l.net)) l.j l.earlier
    (map (map g.R.Value.Number.parts) l.exits)) ≡ Ok (map (map g.R.Value.Number.parts) l.rows)
