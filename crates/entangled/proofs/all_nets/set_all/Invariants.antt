use Rattle.std.proofs.Common.{◌≡◌, map, take, All, None}
use Rattle.removal.specs.StoredGraph.{size as graph_size}
use Rattle.entangled.specs.Bundled.{states_size}
use Rattle.entangled.proofs.all_nets.set_all.Given as goal

abbrev pub invariant-loop-c : goal.invariant-loop-c
invariant-loop-c g l = (map g.R.Remover.present (take l.c l.nets) ≡ map g.R.Remover.present (take l.c l.other))
    × All (λ n. graph_size (g.R.Remover.graph (g.R.Remover.present n)) ≡ states_size g.R.Remover.graph (map g.R.Remover.present l.other)) l.nets
    × All (λ n. g.R.Remover.prepared n ≡ None) (take l.c l.nets)
