use Rattle.std.proofs.Common.{refl, sym, ap, subst, ◌∙◌, ◌++◌}
use Rattle.case_model.specs.declared.inputs.Inputs.TheVariants.{Single}
use Rattle.case_model.specs.CaseTests.{at_level}
use Rattle.case_model.specs.CaseView.{content}
use Rattle.case_model.proofs.OtherLevels.{valid_at}
use Rattle.sequential.specs.OtherPValues.{with_p}
use Rattle.sequential.specs.Trials.{AreThresholds}
use Rattle.sequential.specs.TrialView.{trial}
use Rattle.sequential.proofs.OtherLevels.{opening_at}
use Rattle.sequential.proofs.OtherPValues.{valid_with_p, opening_with}
use Rattle.sequential.proofs.TrialFacts.{opened_trial}
use Rattle.sequential.proofs.trial.Trial.open_by.Goals as goal

pub invariant_of-result-clause-whole : goal.invariant_of-result-clause-whole
unfolding trial
invariant_of-result-clause-whole c =
    let k = with_p (content c.args.case.now) c.args.p_values.now in
    ∣ record {
      content = at_level k c.args.level;
      is_trial = opened_trial (at_level k c.args.level) _
          (valid_at k c.args.level tt (valid_with_p (content c.args.case.now) c.args.p_values.now c.args.case.now.valid c.requires.p_values) c.requires.level)
          (ap Single (sym (c.in_ok-append.ensures.appended ∙ ap (λ xs. xs ++ c.args.p_values.now) c.new-own.ensures))) refl
          c.in_ok-rejected.ensures.items
          (opening_at k c.args.level ∙ opening_with (content c.args.case.now) c.args.p_values.now ∙ c.in_ok-net.ensures.opened);
    } ∣₁

pub invariant_of-result-clause-passing : goal.invariant_of-result-clause-passing
invariant_of-result-clause-passing c = subst (λ ps. AreThresholds ps c.args.level c.in_ok-thresholds.thresholds)
    (sym (c.in_ok-append.ensures.appended ∙ ap (λ xs. xs ++ c.args.p_values.now) c.new-own.ensures)) c.in_ok-thresholds.ensures

pub returns-clause-trial : goal.returns-clause-trial
unfolding trial
returns-clause-trial c =
    let k = with_p (content c.args.case.now) c.args.p_values.now in
    opened_trial (at_level k c.args.level) _
    (valid_at k c.args.level tt (valid_with_p (content c.args.case.now) c.args.p_values.now c.args.case.now.valid c.requires.p_values) c.requires.level)
    (ap Single (sym (c.in_ok-append.ensures.appended ∙ ap (λ xs. xs ++ c.args.p_values.now) c.new-own.ensures))) refl
    c.in_ok-rejected.ensures.items
    (opening_at k c.args.level ∙ opening_with (content c.args.case.now) c.args.p_values.now ∙ c.in_ok-net.ensures.opened)
