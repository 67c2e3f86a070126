use Rattle.graph_cli.proofs.CheckedReports.{checks_closed_test}
use Rattle.graph_cli.proofs.laws.checks_are_of_the_closed_test.Goals as goal

pub returns : goal.returns
returns c = checks_closed_test
