use Rattle.sequential.proofs.OtherPValues.{valid_with_p}
use Rattle.sequential.proofs.laws.cases_are_valid_with_other_p_values.Goals as goal

pub returns : goal.returns
returns c = valid_with_p
