use Rattle.std.proofs.Common.{rules}
use Rattle.evidence_check.proofs.Hypotheses.{as_many}
use Rattle.evidence_check.proofs.SumAnswers.{allowed_is}
use Rattle.evidence_check.proofs.case_sums.allowed.Goals as goal

pub returns : goal.returns
returns g c = allowed_is _ _ _ _ _ _ _ _ _ (as_many c.args.steps.now) c.weight.ensures
    (c.added.ensures _ _ (λ e v b p. search rules) (λ e v b p. search rules))
