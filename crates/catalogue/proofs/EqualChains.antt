-- A size that is refused, where fallback has that number of equal weights.
use Rattle.std.proofs.Common.{◌≡◌, ap, ◌∙◌, ℕ, List, length, Some, Err}
use Rattle.std.proofs.lemmas.List.{length-replicate}
use Rattle.field_core.specs.declared.ratio.Ratio.{Ratio}
use Rattle.catalogue.specs.Makings.{unless, made, fallback_case}
use Rattle.catalogue.specs.NamedGraphs.{fallback_graph, equal_weights, part}
use Rattle.catalogue.specs.Sizes.{size_fault}
use Rattle.catalogue.specs.WeightedGraphs.{draft_of}
use Rattle.catalogue.specs.declared.fault.CatalogueFault.{CatalogueFault}

count_is : (n : ℕ) → length (equal_weights n) ≡ n
unfolding equal_weights
count_is n = length-replicate n (part n)

pub size_refused : (n : ℕ) (alpha : Ratio) (ps : List Ratio) (fault : CatalogueFault) → size_fault n ≡ Some fault
    → fallback_case (equal_weights n) alpha ps ≡ Err fault
unfolding fallback_case
size_refused n alpha ps fault e = ap (λ o. unless o (made (draft_of (fallback_graph (equal_weights n)) alpha ps))) (ap size_fault (count_is n) ∙ e)
