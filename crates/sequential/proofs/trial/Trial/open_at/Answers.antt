use Rattle.std.proofs.Common.{sym, subst, IfOk}
use Rattle.case_model.specs.CaseView.{content}
use Rattle.sequential.specs.Trials.{IsTrialOf}
use Rattle.sequential.specs.TrialView.{trial}
use Rattle.sequential.proofs.trial.Trial.open_at.Goals as goal

pub returns-clause-trial : goal.returns-clause-trial
returns-clause-trial c =
    let k = content c.args.case.now in
    subst (λ i. IfOk c.open_by.result (λ t. IsTrialOf (record { names = k.names; alpha = c.args.level; components = k.components; inputs = i }) (trial t)))
    (sym c.single_p_values.ensures.inputs) c.open_by.ensures.trial
