use Rattle.fraction.proofs.ShortTerms.{operation_within}
use Rattle.fraction.proofs.ShortNumbers.{lowest_within}
use Rattle.fraction.proofs.laws.short_operations_are_defined.Goals as goal

pub returns-clause-defined : goal.returns-clause-defined
returns-clause-defined c = operation_within

pub returns-clause-shortest : goal.returns-clause-shortest
returns-clause-shortest c = lowest_within
