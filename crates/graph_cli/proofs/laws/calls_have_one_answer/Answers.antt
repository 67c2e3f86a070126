use Rattle.graph_cli.proofs.OneAnswer.{has_one_answer}
use Rattle.graph_cli.proofs.laws.calls_have_one_answer.Goals as goal

pub returns : goal.returns
returns c = has_one_answer
