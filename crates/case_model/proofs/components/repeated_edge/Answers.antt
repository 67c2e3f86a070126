use Rattle.std.proofs.Common.{ap, ◌∙◌}
use Rattle.std.specs.List.{list_all}
use Rattle.std.proofs.lemmas.List.{get_or_default}
use Rattle.case_model.specs.Draft.{goes_between}
use Rattle.case_model.specs.CaseFaults.{repeated_edge}
use Rattle.case_model.proofs.Holding.{all_at}
use Rattle.case_model.proofs.components.repeated_edge.Goals as goal

pub repeated_edge-requires-clause-ends : goal.repeated_edge-requires-clause-ends
repeated_edge-requires-clause-ends c =
    let k = c.index-components-c.result in
    ap (λ k. list_all (goes_between c.args.count) k.edges) c.index-components-c.is
    ∙ all_at (λ k. list_all (goes_between c.args.count) k.edges) c.args.components.now c.args.c k c.requires.ends c.requires.within

pub returns : goal.returns
returns c d =
    let k = c.index-components-c.result in
    c.repeated_edge.ensures ∙ ap (repeated_edge c.args.c) (c.index-components-c.is ∙ get_or_default c.args.components.now c.args.c k d c.requires.within)
