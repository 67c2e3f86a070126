use Rattle.simes_test.proofs.SimesLaws.{simes_bound_above, simes_table_bound}
use Rattle.simes_test.proofs.laws.simes_bounds_are_no_lower.Goals as goal

pub returns-clause-lower : goal.returns-clause-lower
returns-clause-lower c = λ E p level S a b V unit A B. simes_bound_above E p level S a b V unit.low A B

pub returns-clause-tables : goal.returns-clause-tables
returns-clause-tables c = simes_table_bound
