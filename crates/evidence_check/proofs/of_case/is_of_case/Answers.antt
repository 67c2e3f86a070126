use Rattle.std.proofs.Common.{◌∙◌, sym}
use Rattle.case_model.specs.CaseView.{content}
use Rattle.evidence_check.proofs.CheckAnswers.{plain_of_case, eps_of_case}
use Rattle.evidence_check.proofs.of_case.is_of_case.Goals as goal

pub returns-then-is_plain : goal.returns-then-is_plain
returns-then-is_plain c =
    plain_of_case (content c.args.case.now) c.size.result _ c.size.ensures.count c.args.proof.now c.in-Plain.proof c.in-Plain.is
    (sym c.is_plain.ensures ∙ c.if-is_plain.true) c.are_below.ensures

pub returns-then-not-is_plain : goal.returns-then-not-is_plain
returns-then-not-is_plain c =
    eps_of_case (content c.args.case.now) c.size-then-not-is_plain.result _ c.size-then-not-is_plain.ensures.count c.args.proof.now c.in-Eps.proof
    c.in-Eps.is (sym c.is_plain-in-Eps.ensures ∙ c.if-not-is_plain.true) c.are_below-then-not-is_plain.ensures
