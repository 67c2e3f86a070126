use Rattle.std.proofs.Common.{ℕ, ◌↔◌}
use Rattle.case_model.specs.Content.{Content, IsRejectedIn}
use Rattle.case_model.specs.CaseView.{content}
use Rattle.case_model.specs.LegalOrder.{IsListed}
use Rattle.sequential.specs.Decisions.{hypotheses}
use Rattle.sequential.specs.OtherPValues.{with_p}
use Rattle.sequential.specs.Trials.{IsTrialOf}
use Rattle.sequential.specs.TrialView.{trial}
use Rattle.sequential.proofs.OtherPValues.{wide_opening_with, if_ok}
use Rattle.sequential.proofs.decision.decide_with.Goals as goal

pub returns-in_err-current-clause-fault : goal.returns-in_err-current-clause-fault
returns-in_err-current-clause-fault c =
    wide_opening_with (content c.args.case.now) c.args.p_values.now c.args.priority c.from_residual.result c.in_err-current.field-0.0
    c.from_residual.ensures.1 c.in_err-current.ensures.fault

pub returns-clause-closed : goal.returns-clause-closed
returns-clause-closed c =
    let k = with_p (content c.args.case.now) c.args.p_values.now in
    if_ok c.decided.result
    (λ d. (h : Content) → IsTrialOf h (trial c.in_ok-current.current) → (j : ℕ) → IsListed (hypotheses d.steps) j ↔ IsRejectedIn h j)
    (λ d. (j : ℕ) → IsListed (hypotheses d.steps) j ↔ IsRejectedIn k j) (λ d h. h k c.in_ok-current.ensures.trial) c.decided.ensures.closed
