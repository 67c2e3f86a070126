use Rattle.case_model.specs.CaseView.{content}
use Rattle.study_cli.proofs.CommandReads.{read_below}
use Rattle.study_cli.proofs.reading.read_commands.Goals as goal

pub returns-clause-below : goal.returns-clause-below
returns-clause-below c = read_below (content c.args.case.now).names c.args.bytes.now c.read.result c.read.ensures
