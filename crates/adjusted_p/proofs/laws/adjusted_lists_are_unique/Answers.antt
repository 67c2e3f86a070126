use Rattle.adjusted_p.proofs.ListLaws.{lists_unique}
use Rattle.adjusted_p.proofs.laws.adjusted_lists_are_unique.Goals as goal

pub returns : goal.returns
returns c = lists_unique
