use Rattle.field_core.proofs.Members.{number_below, members_number, number_members}
use Rattle.field_core.proofs.laws.sets.sets_are_numbers.Goals as goal

pub returns-clause-sets : goal.returns-clause-sets
returns-clause-sets c = λ m I. (number_below m I, members_number m I)

pub returns-clause-numbers : goal.returns-clause-numbers
returns-clause-numbers c = number_members
