use Rattle.std.proofs.Common.{◌≡◌, map, replicate}
use Rattle.entangled.specs.Bundled.{size}
use Rattle.entangled.specs.BundleView.{bundled}
use Rattle.evidence.specs.FlowTables.{first_tables}
use Rattle.evidence.specs.TablesView.{tables_of}
use Rattle.evidence.proofs.run.opening_tables.Given as goal

abbrev pub invariant-loop : goal.invariant-loop
invariant-loop g l = map (tables_of g.R.Value.Number.parts) l.tables ≡ replicate l.counter
    (first_tables g.R.Value.Number.kind (size g.R.Remover.graph (bundled l.bundle)))
