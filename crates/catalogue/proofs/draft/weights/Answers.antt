use Rattle.std.proofs.Common.{◌++◌, ◌∷◌, [], sym, ap₂, ◌∙◌, arith}
use Rattle.std.proofs.lemmas.List.FromFn.{map-range_with_len_more}
use Rattle.catalogue.proofs.draft.weights.Goals as goal

pub loop-i-preserved : goal.loop-i-preserved
loop-i-preserved g c = c.in_ok-push.ensures.pushed ∙ ap₂ (λ xs x. xs ++ x ∷ []) c.loop-i.invariant c.weight.ensures
    ∙ sym (map-range_with_len_more (g.G.NamedGraph.graph c.args.graph.now).weight 0 c.loop-i.i c.loop-i.i (omega arith))
