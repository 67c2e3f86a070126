use Rattle.std.proofs.Common.{sym, subst}
use Rattle.case_model.specs.CaseView.{content}
use Rattle.graph_cli.specs.Evidence.{flown}
use Rattle.graph_cli.specs.Troubles.{IfRefused}
use Rattle.graph_cli.proofs.FlowEvidence.{evidence_flown}
use Rattle.graph_cli.proofs.Refusing.{flows_refuse}
use Rattle.graph_cli.proofs.commands.evidence_run.make_evidence.Goals as goal

pub returns-in-Ok-clause-meets : goal.returns-in-Ok-clause-meets
returns-in-Ok-clause-meets c =
    let e = c.in-Ok.ensures in
    evidence_flown (content c.args.case.now) c.args.decision.now c.in-Ok.proof (record { fits = e.fits; version = e.version; run = e.made })

pub returns-in-Err-clause-meets : goal.returns-in-Err-clause-meets
returns-in-Err-clause-meets c =
    subst (λ none. IfRefused none (flown (content c.args.case.now) c.args.decision.now).Refuses) (sym c.of_run.ensures)
    (flows_refuse (content c.args.case.now) c.args.decision.now c.in-Err.fault c.in-Err.ensures.made)
