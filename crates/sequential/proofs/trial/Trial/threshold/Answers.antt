use Rattle.std.proofs.Common.{◌<◌, sym, ap, subst, ◌∙◌, get_or}
use Rattle.field_core.specs.Arithmetic.{◌*ε◌}
use Rattle.fraction.specs.View.{number_of}
use Rattle.case_model.proofs.SumSteps.{item_is}
use Rattle.sequential.specs.TrialView.{trial}
use Rattle.sequential.proofs.trial.Trial.threshold.Goals as goal

pub returns : goal.returns
unfolding trial
returns c =
    let t = c.args.self.now in
    let within = subst (λ n. c.args.j < n) (sym t.passing.count) c.requires in
    let here = item_is t.thresholds c.args.j c.index-as_slice-j.result within
    (c.index-as_slice-j.is ∙ ap (λ xs. get_or xs c.args.j c.index-as_slice-j.result) c.as_slice.ensures) in
    ap (λ x. number_of x *ε number_of t.alpha) (sym here) ∙ t.passing.each c.args.j c.requires
