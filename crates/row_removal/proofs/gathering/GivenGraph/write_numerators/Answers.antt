use Rattle.std.proofs.Common.{arith, rules}
use Rattle.field_core.proofs.Fills.{filled_values}
use Rattle.row_removal.proofs.gathering.GivenGraph.write_numerators.Goals as goal

pub returns : goal.returns
returns c = filled_values _ _ _ _ _ (omega arith) (λ k r i says. search rules) c.try_fill.ensures
