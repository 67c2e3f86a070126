use Rattle.entries.proofs.Entries.{entry_ok, entry_err, entry_is, entry_fails}
use Rattle.entries.proofs.laws.entries_are_read.Goals as goal

pub returns-clause-value : goal.returns-clause-value
returns-clause-value c = λ s e. (entry_is s e, entry_ok s e)

pub returns-clause-fault : goal.returns-clause-fault
returns-clause-fault c = λ s f. (entry_fails s f, entry_err s f)
