use Rattle.std.proofs.Common.{◌∙◌, sym, ap}
use Rattle.case_model.specs.CaseView.{content}
use Rattle.evidence_check.specs.CaseCheck.{verdict_of}
use Rattle.evidence_check.proofs.CaseChecked.{case_tells, case_fair, case_rejected, case_decides}
use Rattle.evidence_check.proofs.CheckAnswers.{yes_is, no_is, evidence_stored, keeps_others}
use Rattle.evidence_check.proofs.checker.check.Goals as goal

pub returns-clause-answer : goal.returns-clause-answer
returns-clause-answer c = c.verdict.ensures ∙ ap verdict_of c.checked_for.ensures

pub returns-clause-yes : goal.returns-clause-yes
returns-clause-yes c = λ h.
    (case_tells (content c.args.case.now) c.args.case.now.valid _ _ (evidence_stored (content c.args.case.now) c.args.proof.now c.requires.of_case)).ok _
    (sym c.checked_for.ensures ∙ yes_is _ (sym c.verdict.ensures ∙ h))

pub returns-clause-no : goal.returns-clause-no
returns-clause-no c = λ n reason h.
    case_fair (content c.args.case.now) c.args.case.now.valid _ _ (evidence_stored (content c.args.case.now) c.args.proof.now c.requires.of_case) n reason
    (sym c.checked_for.ensures ∙ no_is _ n reason (sym c.verdict.ensures ∙ h))

pub returns-clause-rejected : goal.returns-clause-rejected
returns-clause-rejected c = λ h j.
    case_rejected (content c.args.case.now) c.args.case.now.valid c.requires.single _ _
    (evidence_stored (content c.args.case.now) c.args.proof.now c.requires.of_case) (sym c.checked_for.ensures ∙ yes_is _ (sym c.verdict.ensures ∙ h)) j

pub returns-clause-all : goal.returns-clause-all
returns-clause-all c = λ h all j.
    case_decides (content c.args.case.now) c.args.case.now.valid c.requires.single _ _
    (evidence_stored (content c.args.case.now) c.args.proof.now c.requires.of_case) (sym c.checked_for.ensures ∙ yes_is _ (sym c.verdict.ensures ∙ h))
    (keeps_others (content c.args.case.now) _ _ all) j
