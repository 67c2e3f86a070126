use Rattle.case_model.proofs.AdjustedValues.{adjusted_is, adjusted_unique}
use Rattle.case_model.proofs.laws.adjusted.adjusted_values_decide.Goals as goal

pub returns-clause-decide : goal.returns-clause-decide
returns-clause-decide c = adjusted_is

pub returns-clause-unique : goal.returns-clause-unique
returns-clause-unique c = adjusted_unique
