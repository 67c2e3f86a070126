use Rattle.graph_cli.proofs.StagedReports.{reports_staged_test}
use Rattle.graph_cli.proofs.laws.reports_are_of_the_staged_test.Goals as goal

pub returns : goal.returns
returns c = reports_staged_test
