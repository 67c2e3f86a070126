use Rattle.std.proofs.Common.{[]}
use Rattle.catalogue.specs.WeightedGraphs.{edges_from}
use Rattle.catalogue.proofs.Lists.{put_more}
use Rattle.catalogue.proofs.draft.edges.Goals as goal

pub loop-from-preserved : goal.loop-from-preserved
loop-from-preserved g c =
    put_more (edges_from (g.G.NamedGraph.graph c.args.graph.now))
    [] c.loop-from.edges c.put_edges_from.new.edges c.loop-from.from c.loop-from.invariant c.in_ok-put_edges_from.ensures
