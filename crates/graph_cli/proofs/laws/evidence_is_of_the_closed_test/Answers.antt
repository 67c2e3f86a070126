use Rattle.graph_cli.proofs.EvidenceReports.{evidence_closed_test}
use Rattle.graph_cli.proofs.laws.evidence_is_of_the_closed_test.Goals as goal

pub returns : goal.returns
returns c = evidence_closed_test
