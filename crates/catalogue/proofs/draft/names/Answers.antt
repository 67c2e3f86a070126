use Rattle.std.proofs.Common.{◌++◌, ◌∷◌, [], sym, ap₂, ◌∙◌, arith}
use Rattle.std.proofs.lemmas.List.FromFn.{map-range_with_len_more}
use Rattle.catalogue.specs.WeightedGraphs.{name_of}
use Rattle.catalogue.proofs.draft.names.Goals as goal

pub loop-i-preserved : goal.loop-i-preserved
loop-i-preserved c = c.in_ok-push.ensures.pushed ∙ ap₂ (λ xs x. xs ++ x ∷ []) c.loop-i.invariant c.in_ok-name.ensures
    ∙ sym (map-range_with_len_more name_of 0 c.loop-i.i c.loop-i.i (omega arith))
