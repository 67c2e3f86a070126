use Rattle.fraction.proofs.Numerals.{numeral_ok, numeral_err, numeral_is, numeral_fails}
use Rattle.fraction.proofs.laws.numerals_are_read.Goals as goal

pub returns-clause-value : goal.returns-clause-value
returns-clause-value c = λ s x. (numeral_is s x, numeral_ok s x)

pub returns-clause-fault : goal.returns-clause-fault
returns-clause-fault c = λ s f. (numeral_fails s f, numeral_err s f)
