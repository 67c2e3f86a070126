use Rattle.case_model.specs.CaseView.{content}
use Rattle.report.proofs.EvidenceNames.{plain_put, eps_put}
use Rattle.report.proofs.check.put_evidence.Goals as goal

pub returns-in-Plain : goal.returns-in-Plain
returns-in-Plain c = plain_put c.put_hypotheses.result _ _ (content c.args.case.now) c.in-Plain.proof c.args.proof.now c.in-Plain.is c.put_hypotheses.ensures

pub returns-in-Eps : goal.returns-in-Eps
returns-in-Eps c = eps_put c.put_hypotheses-in-Eps.result _ _
    (content c.args.case.now) c.in-Eps.proof c.args.proof.now c.in-Eps.is c.put_hypotheses-in-Eps.ensures
