use Rattle.case_model.specs.CaseView.{content}
use Rattle.evidence_check.proofs.StepAnswers.{pass_is}
use Rattle.evidence_check.proofs.level.passes_at.Goals as goal

pub returns : goal.returns
returns c = λ K n. pass_is K n (content c.args.case.now) c.args.k c.args.level.now c.passes.result c.p_value.result c.alpha.result c.p_value.ensures.value
    c.alpha.ensures.alpha c.passes.ensures
