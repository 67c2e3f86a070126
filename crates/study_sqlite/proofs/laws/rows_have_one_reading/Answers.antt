use Rattle.study_sqlite.proofs.RowFacts.{one_reading, one_place, read_or_bad}
use Rattle.study_sqlite.proofs.laws.rows_have_one_reading.Goals as goal

pub returns-clause-read : goal.returns-clause-read
returns-clause-read c = one_reading

pub returns-clause-fault : goal.returns-clause-fault
returns-clause-fault c = one_place

pub returns-clause-apart : goal.returns-clause-apart
returns-clause-apart c = read_or_bad
