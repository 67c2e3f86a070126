use Rattle.std.proofs.Common.{ap, ◌∙◌, [], ◌∷◌}
use Rattle.case_model.proofs.Same.{zero_of}
use Rattle.case_model.proofs.entry.Entry.no_edge.Goals as goal

pub returns : goal.returns
returns c = c.new.ensures ∙ ap (λ z. z ∷ z ∷ z ∷ z ∷ z ∷ []) (zero_of c.zero.result c.zero.ensures)
