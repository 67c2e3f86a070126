use Rattle.std.proofs.Common.{sym, ◌∙◌}
use Rattle.case_model.proofs.Comparisons.{le_is}
use Rattle.sequential.proofs.candidate.Candidate.is_at_most.Goals as goal

pub returns : goal.returns
returns c =
    let is = c.le.ensures ∙ le_is c.args.self.now.ratio c.args.ratio.now in
    (λ h. sym is ∙ h, λ h. is ∙ h)
