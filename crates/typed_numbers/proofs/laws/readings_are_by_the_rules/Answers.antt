use Rattle.typed_numbers.proofs.ByTheRules.{by_the_rules}
use Rattle.typed_numbers.proofs.laws.readings_are_by_the_rules.Goals as goal

pub returns : goal.returns
returns c = by_the_rules
