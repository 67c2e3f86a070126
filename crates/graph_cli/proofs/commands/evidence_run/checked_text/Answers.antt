use Rattle.std.proofs.Common.{◌∙◌, ap, Ok}
use Rattle.case_model.specs.CaseView.{content}
use Rattle.graph_cli.proofs.EvidenceAnswers.{never_no}
use Rattle.graph_cli.proofs.commands.evidence_run.checked_text.Goals as goal

pub unreachable-requires : goal.unreachable-requires
unreachable-requires c =
    never_no (content c.args.case.now) c.args.decision.now c.args.proof.now c.args.case.now.valid c.requires.order c.requires.run _ _
    (c.in_ok-verdict.ensures ∙ ap Ok c.in-No.is)
