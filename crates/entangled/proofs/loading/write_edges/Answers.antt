use Rattle.std.proofs.Common.{◌∙◌, rules}
use Rattle.field_core.proofs.Fills.{filled_run}
use Rattle.entangled.specs.Loading.{loaded_edges}
use Rattle.entangled.proofs.loading.write_edges.Goals as goal

pub returns : goal.returns
unfolding loaded_edges
returns g c = filled_run _ _ _ _ _ _ (c.try_fill.auto.places ∙ c.requires.room) (λ k r i says. search rules) c.try_fill.ensures
