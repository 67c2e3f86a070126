use Rattle.std.proofs.Common.{ap₂, ◌∙◌, [], ◌∷◌, ◌++◌}
use Rattle.std.proofs.lemmas.List.{replicate_more}
use Rattle.catalogue.specs.NamedGraphs.{part}
use Rattle.catalogue.proofs.chains.equal_weights.Goals as goal

pub places-preserved : goal.places-preserved
places-preserved c = c.in_ok-push.ensures.pushed ∙ ap₂ (λ xs w. xs ++ w ∷ []) c.places.invariant c.part-weight.ensures
    ∙ replicate_more c.places.counter (part c.args.n)
