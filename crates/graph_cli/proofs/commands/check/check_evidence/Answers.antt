use Rattle.case_model.specs.CaseView.{content}
use Rattle.evidence_check.proofs.CheckAnswers.{of_case}
use Rattle.graph_cli.proofs.commands.check.check_evidence.Goals as goal

pub check-requires-clause-of_case : goal.check-requires-clause-of_case
check-requires-clause-of_case c = of_case (content c.args.case.now) c.args.proof.now c.requires.fits
