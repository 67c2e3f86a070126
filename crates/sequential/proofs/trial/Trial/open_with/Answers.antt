use Rattle.std.proofs.Common.{subst, IfOk}
use Rattle.case_model.specs.CaseTests.{at_level}
use Rattle.case_model.specs.CaseView.{content}
use Rattle.sequential.specs.OtherPValues.{with_p}
use Rattle.sequential.specs.Trials.{IsTrialOf}
use Rattle.sequential.specs.TrialView.{trial}
use Rattle.sequential.proofs.trial.Trial.open_with.Goals as goal

pub returns-clause-trial : goal.returns-clause-trial
returns-clause-trial c = subst (λ a. IfOk c.open_by.result (λ t. IsTrialOf (at_level (with_p (content c.args.case.now) c.args.p_values.now) a) (trial t)))
    c.alpha.ensures.alpha c.open_by.ensures.trial
