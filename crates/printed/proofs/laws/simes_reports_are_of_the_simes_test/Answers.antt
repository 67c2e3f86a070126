use Rattle.printed.proofs.SimesPrinted.{simes_of_test}
use Rattle.printed.proofs.laws.simes_reports_are_of_the_simes_test.Goals as goal

pub returns : goal.returns
returns c = simes_of_test
