use Rattle.catalogue.specs.WeightedGraphs.{edge_in}
use Rattle.catalogue.proofs.Lists.{put_more}
use Rattle.catalogue.proofs.draft.put_edges_from.Goals as goal

pub loop-to-preserved : goal.loop-to-preserved
loop-to-preserved g c =
    put_more (edge_in (g.G.NamedGraph.graph c.args.graph.now) c.args.from) c.args.edges.now c.loop-to.edges c.put_edge.new.edges c.loop-to.to
    c.loop-to.invariant c.in_ok-put_edge.ensures
