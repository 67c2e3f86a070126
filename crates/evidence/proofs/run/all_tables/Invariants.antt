use Rattle.std.proofs.Common.{◌≡◌, Ok, map}
use Rattle.field_core.specs.Steps.{each_below}
use Rattle.entangled.specs.BundleView.{bundled}
use Rattle.evidence.specs.TablesView.{tables_of}
use Rattle.evidence.proofs.RunAnswers.{tables_in}
use Rattle.evidence.proofs.run.all_tables.Given as goal

abbrev pub invariant-loop-c : goal.invariant-loop-c
invariant-loop-c g l =
    each_below l.c (tables_in g.R.Value.Number.kind (map g.R.Remover.graph (bundled l.bundle).states)
    (map (tables_of g.R.Value.Number.parts) l.tables) l.earlier l.j l.is_last l.is_kept) ≡ Ok (map (tables_of g.R.Value.Number.parts) l.next)
