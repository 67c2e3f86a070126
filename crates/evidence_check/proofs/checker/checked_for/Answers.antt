use Rattle.std.proofs.Common.{◌∙◌}
use Rattle.case_model.specs.CaseView.{content}
use Rattle.evidence_check.proofs.CheckAnswers.{form_of, plain_check, eps_check}
use Rattle.evidence_check.proofs.checker.checked_for.Goals as goal

pub returns-in-Plain : goal.returns-in-Plain
returns-in-Plain c =
    c.checked.ensures ∙ plain_check (content c.args.case.now) c.in-Plain.proof c.args.proof.now c.in-Plain.is
    (form_of (content c.args.case.now) _ _ c.in-Plain.is c.requires.of_case).form

pub returns-in-Eps : goal.returns-in-Eps
returns-in-Eps c =
    c.checked-in-Eps.ensures ∙ eps_check (content c.args.case.now) c.in-Eps.proof c.args.proof.now c.in-Eps.is
    (form_of (content c.args.case.now) _ _ c.in-Eps.is c.requires.of_case).form
