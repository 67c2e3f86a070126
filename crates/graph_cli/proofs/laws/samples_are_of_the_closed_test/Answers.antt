use Rattle.graph_cli.proofs.SampledReports.{samples_closed_test}
use Rattle.graph_cli.proofs.laws.samples_are_of_the_closed_test.Goals as goal

pub returns : goal.returns
returns c = samples_closed_test
