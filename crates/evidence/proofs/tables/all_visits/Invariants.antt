use Rattle.std.proofs.Common.{◌≡◌, Ok, map}
use Rattle.field_core.specs.Steps.{each_below}
use Rattle.evidence.specs.FlowTables.{new_visits}
use Rattle.evidence.proofs.tables.all_visits.Given as goal

abbrev pub invariant-loop-l : goal.invariant-loop-l
invariant-loop-l g l =
    each_below l.l (new_visits g.R.Value.Number.kind (g.R.Remover.graph (g.R.Remover.present l.net)) l.j l.earlier
    (map (map g.R.Value.Number.parts) l.visits)) ≡ Ok (map (map g.R.Value.Number.parts) l.rows)
