use Rattle.std.proofs.Common.{ap, ◌∙◌}
use Rattle.case_model.specs.Draft.{have_known_ends, have_known_arrivals}
use Rattle.catalogue.specs.WeightedGraphs.{draft_of}
use Rattle.catalogue.proofs.KnownEnds.{known_ends, known_arrivals}
use Rattle.catalogue.proofs.Told.{told}
use Rattle.catalogue.proofs.draft.made.Goals as goal

pub finish-requires-clause-ends : goal.finish-requires-clause-ends
finish-requires-clause-ends g c = ap have_known_ends c.in_ok-draft.ensures ∙ known_ends (g.G.NamedGraph.graph c.args.graph.now) c.args.alpha c.args.p.now

pub finish-requires-clause-arrivals : goal.finish-requires-clause-arrivals
finish-requires-clause-arrivals g c = ap have_known_arrivals c.in_ok-draft.ensures
    ∙ known_arrivals (g.G.NamedGraph.graph c.args.graph.now) c.args.alpha c.args.p.now

pub returns-in-Err-clause-fault : goal.returns-in-Err-clause-fault
returns-in-Err-clause-fault g c =
    told _ (draft_of (g.G.NamedGraph.graph c.args.graph.now) c.args.alpha c.args.p.now) c.in-Err.refused.fault c.of_case.result c.in_ok-draft.ensures
    c.of_case.ensures.memory c.of_case.ensures.case c.in-Err.ensures.fault
